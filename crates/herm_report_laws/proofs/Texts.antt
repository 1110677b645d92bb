-- The text of a report is that of the system and of the journal of which it tells.
use Rattle.std.proofs.Common.{◌≡◌, ℕ, List, [], ◌∷◌, ◌++◌, map, flat_map, inl, inr, refl, sym, ap, ap₂, ◌∙◌}
use Rattle.std.specs.Prelude.{⊤}
use Rattle.herm_model.specs.Lists.{IsIn, list_of, numbered}
use Rattle.herm_model.specs.Values.{Cell}
use Rattle.herm_model.specs.ValueTexts.{text_of}
use Rattle.herm_journal.specs.Entries.{Text, Entry}
use Rattle.herm_journal.specs.Ports.{Port, first_of, left_in}
use Rattle.herm_system.specs.ProcessFates.{Fate}
use Rattle.herm_system.specs.RunTexts.{plainly, with_summary, the_journal, journal_text}
use Rattle.herm_system.specs.Statuses.{status_line_by}
use Rattle.herm_system.specs.Summary.{summary}
use Rattle.herm_system.specs.TextLines.{line}
use Rattle.herm_instructions.specs.Images.{Image}
use Rattle.herm_code_machine.specs.CodeStates.{CodeState}
use Rattle.herm_waking.specs.Unnamed.{Unnamed}
use Rattle.herm_code_worlds.specs.BareReports.{bare_bytes, bare_console}
use Rattle.herm_report.specs.View.{queue_at}
use Rattle.herm_report.specs.declared.report.Report.{Report}
use Rattle.herm_text.specs.ReportTexts.{console_of}
use Rattle.herm_text.specs.StringsReadBack.{unquoted}
use Rattle.herm_report_laws.specs.ReportLaws.{HasStrings, IsString, TellsOf, TextsAreOfRuns}
use Rattle.herm_report_laws.proofs.StringTexts.{read-back}

one-line : (c : Cell ⊤) → IsString c → line (unquoted (text_of c)) ≡ line (bare_bytes c)
one-line c s = ap (λ c. line (unquoted (text_of c))) s.1 ∙ ap line (read-back s.0) ∙ sym (ap (λ c. line (bare_bytes c)) s.1)

lines-same : (cs : List (Cell ⊤)) → ((c : Cell ⊤) → IsIn c cs → IsString c) → flat_map (λ t. line (unquoted t)) (map text_of cs) ≡ flat_map (λ c. line (bare_bytes c)) cs
lines-same [] are = refl
lines-same (c ∷ cs) are = ap₂ ◌++◌ (one-line c (are c (inl refl))) (lines-same cs (λ d h. are d (inr h)))

abbrev texts_left : Port (Cell ⊤) → List Text
texts_left p = map text_of (left_in p)

console-lines : (ports : List (Port (Cell ⊤))) → HasStrings ports
    → flat_map (λ t. line (unquoted t)) (queue_at 0 (numbered 0 (map texts_left ports))) ≡ list_of (λ (p : Port (Cell ⊤)). flat_map (λ c. line (bare_bytes c)) (left_in p)) (first_of ports)
console-lines [] have = refl
console-lines (p ∷ ports) have = lines-same (left_in p) (λ c h. have p c refl h)

pub console-same : (image : Image) (main : ℕ) (v : Unnamed (CodeState ⊤)) (journal : List Entry) (r : Report) → TellsOf image main v journal r → HasStrings v.ports → console_of r ≡ bare_console v
console-same image main v journal r tells have = ap (λ queues. flat_map (λ t. line (unquoted t)) (queue_at 0 queues)) tells.queued ∙ console-lines v.ports have

pub texts_theirs : TextsAreOfRuns
texts_theirs image main v journal r names plainly tells have =
    ap₂ ◌++◌ (console-same image main v journal r tells have) (ap (λ (ends : List Fate). status_line_by names (first_of ends) ends) tells.ends)
texts_theirs image main v journal r names with_summary tells have =
    ap₂ ◌++◌ (ap₂ ◌++◌ (console-same image main v journal r tells have) (ap (λ (ends : List Fate). status_line_by names (first_of ends) ends) tells.ends)) (ap summary tells.counts)
texts_theirs image main v journal r names the_journal tells have = ap (journal_text names) tells.journal_is
