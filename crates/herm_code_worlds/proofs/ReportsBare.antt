-- The report of a system of code without names is that of the system.
use Rattle.std.proofs.Common.{◌≡◌, ℕ, List, [], ◌∷◌, ◌++◌, map, flat_map, refl, ap, ap₂, ◌∙◌}
use Rattle.herm_model.specs.CellNames.{rename}
use Rattle.herm_model.specs.Lists.{list_of}
use Rattle.herm_model.specs.Values.{Name, a_boolean, an_integer, a_text, a_tag, a_scalar, a_record, a_variant, a_table, a_polymorph, a_callmessage, an_inport, an_outport, Cell, cell}
use Rattle.herm_journal.specs.Entries.{Text, map_port}
use Rattle.herm_journal.specs.Journals.{ordered}
use Rattle.herm_journal.specs.Ports.{Port, left_in, first_of}
use Rattle.herm_journal.specs.Renaming.{forget_name}
use Rattle.herm_system.specs.ProcessFates.{fates}
use Rattle.herm_system.specs.RunTexts.{bytes_of, console_text, queues, Asked, plainly, with_summary, the_journal, text_of_run}
use Rattle.herm_system.specs.Statuses.{status_by, status_line_by, status_line}
use Rattle.herm_system.specs.Summary.{counts, summary}
use Rattle.herm_system.specs.Systems.{System, Run}
use Rattle.herm_system.specs.TextLines.{line}
use Rattle.std.specs.Prelude.{⊤}
use Rattle.herm_code_machine.specs.CodeInstance.{code_machine, nameless_code}
use Rattle.herm_code_machine.specs.CodeRenaming.{forget_code}
use Rattle.herm_code_machine.specs.CodeStates.{CodeState}
use Rattle.herm_code_machine.specs.ReadyCode.{ReadyImage}
use Rattle.herm_code_machine.proofs.instance.CodeForgets.{code-forgets-names}
use Rattle.herm_waking.specs.Unnamed.{unnamed}
use Rattle.herm_waking.specs.UnnamedReport.{bare_fates, bare_queues, bare_counts}
use Rattle.herm_waking.specs.laws.WorldLaws.{report_of}
use Rattle.herm_waking.proofs.ReportsForgotten.{fates-forget, queues-forget, counts-forget}
use Rattle.herm_code_worlds.specs.BareReports.{bare_bytes, bare_console, bare_status_line, bare_text, bare_report}
use Rattle.herm_code_worlds.specs.laws.BareLaws.{ReportsForgetNames}
use Rattle.herm_code_worlds.proofs.CountsForgotten.{counts-without-names}

bytes-bare : (c : Cell Name) → bare_bytes (rename forget_name c) ≡ bytes_of c
bytes-bare (cell n (a_scalar (a_text bytes)) ps) = refl
bytes-bare (cell n (a_scalar (a_boolean b)) ps) = refl
bytes-bare (cell n (a_scalar (an_integer i)) ps) = refl
bytes-bare (cell n (a_scalar (a_tag t)) ps) = refl
bytes-bare (cell n a_record ps) = refl
bytes-bare (cell n (a_variant c) ps) = refl
bytes-bare (cell n a_table ps) = refl
bytes-bare (cell n (a_polymorph t) ps) = refl
bytes-bare (cell n (a_callmessage caller call) ps) = refl
bytes-bare (cell n (an_inport p) ps) = refl
bytes-bare (cell n (an_outport p) ps) = refl

lines-bare : (q : List (ℕ × Cell Name))
    → flat_map (λ (c : Cell ⊤). line (bare_bytes c)) (map (λ (x : ℕ × Cell ⊤). x.1) (map (λ (x : ℕ × Cell Name). (x.0, rename forget_name x.1)) q)) ≡ flat_map (λ (c : Cell Name). line (bytes_of c)) (map (λ (x : ℕ × Cell Name). x.1) q)
lines-bare [] = refl
lines-bare (x ∷ q) = ap₂ (λ a b. line a ++ b) (bytes-bare x.1) (lines-bare q)

console-bare : (s : System (CodeState Name)) → bare_console (unnamed forget_code s) ≡ console_text s
console-bare s = by s.ports
  where
    by : (ps : List (Port (Cell Name))) → list_of (λ (p : Port (Cell ⊤)). flat_map (λ c. line (bare_bytes c)) (left_in p)) (first_of (map (map_port (rename forget_name)) ps)) ≡ list_of (λ (p : Port (Cell Name)). flat_map (λ c. line (bytes_of c)) (left_in p)) (first_of ps)
    by [] = refl
    by (p ∷ ps) = lines-bare p.queue

module _ (image : ReadyImage) where
  ends-same : (s : System (CodeState Name)) → bare_fates (nameless_code image) (unnamed forget_code s) ≡ fates (code_machine image) s
  ends-same s = fates-forget (code_machine image) (nameless_code image) forget_code (code-forgets-names image) (counts-without-names image) s

  queues-same : (s : System (CodeState Name)) → bare_queues (unnamed forget_code s) ≡ queues s
  queues-same s = queues-forget (code_machine image) (nameless_code image) forget_code (code-forgets-names image) (counts-without-names image) s

  counts-same : (s : System (CodeState Name)) → bare_counts (nameless_code image) (unnamed forget_code s) ≡ counts (code_machine image) s
  counts-same s = counts-forget (code_machine image) (nameless_code image) forget_code (code-forgets-names image) (counts-without-names image) s

  line-same : (names : List Text) (s : System (CodeState Name)) → bare_status_line names (nameless_code image) (unnamed forget_code s) ≡ status_line names (code_machine image) s
  line-same names s = ap (λ f. status_line_by names (first_of f) f) (ends-same s)

  text-same : (names : List Text) (asked : Asked) (r : Run (CodeState Name)) → bare_text names asked (nameless_code image) (unnamed forget_code r.system) (ordered r.journal) ≡ text_of_run names asked (code_machine image) (record { system = r.system; journal = ordered r.journal })
  text-same names plainly r = ap₂ (λ a b. a ++ b) (console-bare r.system) (line-same names r.system)
  text-same names with_summary r = ap₂ (λ a b. a ++ b) (ap₂ (λ a b. a ++ b) (console-bare r.system) (line-same names r.system)) (ap summary (counts-same r.system))
  text-same names the_journal r = refl

  pub reports-bare : ReportsForgetNames image
  reports-bare names asked r =
      let v = unnamed forget_code r.system in
      let bare = bare_report names asked (nameless_code image) v (ordered r.journal) in
      let full = report_of names asked (code_machine image) r in
      ap₂ (λ ends queued. record { journal = full.journal; ends = ends; queued = queued; counts = bare.counts; status = bare.status; text = bare.text }) (ends-same r.system) (queues-same r.system)
      ∙ ap₂ (λ counted status. record { journal = full.journal; ends = full.ends; queued = full.queued; counts = counted; status = status; text = bare.text }) (counts-same r.system) (ap (λ f. status_by (first_of f) f) (ends-same r.system))
      ∙ ap (λ text. record { journal = full.journal; ends = full.ends; queued = full.queued; counts = full.counts; status = full.status; text = text }) (text-same names asked r)
