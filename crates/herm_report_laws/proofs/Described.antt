-- A report that tells of a world that shows a run describes it.
use Rattle.std.proofs.Common.{◌≡◌, ℕ, List, [], ◌∷◌, true, false, cond, inl, inr, refl, sym, ap, subst, ◌∙◌, nat_eq, nat_lt, ◌<◌, ◌||◌, ◌&&◌, arith}
use Rattle.std.proofs.lemmas.Bool.Decides.{nat_tests}
use Rattle.std.specs.Prelude.{⊤}
use Rattle.herm_journal.specs.Entries.{Text, Entry}
use Rattle.herm_journal.specs.Journals.{IsBefore, IsRising, IsRisingFrom, is_before, ordered, with_next}
use Rattle.herm_journal.specs.Ports.{first_of}
use Rattle.herm_system.specs.ProcessFates.{Fate}
use Rattle.herm_system.specs.Reports as headline
use Rattle.herm_system.specs.Reports.{DescribesRun}
use Rattle.herm_system.specs.RunTexts.{Asked}
use Rattle.herm_system.specs.Statuses.{status_by}
use Rattle.herm_instructions.specs.Images.{Image}
use Rattle.herm_code_machine.specs.CodeStates.{CodeState}
use Rattle.herm_waking.specs.Unnamed.{Unnamed}
use Rattle.herm_code_worlds.specs.BareReports.{bare_report}
use Rattle.herm_code_worlds.specs.CodeWorlds.{FindsItsOperands, IsWithin, its_ready, named, nameless}
use Rattle.herm_report.specs.View.{report_view}
use Rattle.herm_report.specs.declared.report.Report.{Report}
use Rattle.herm_text.specs.ReportTexts.{ends_of, report_text}
use Rattle.herm_report_laws.specs.ReportLaws.{HasStrings, ReportsDescribe, TellsOf}
use Rattle.herm_report_laws.proofs.Strings.{console_strings}
use Rattle.herm_report_laws.proofs.Texts.{texts_theirs}

rising-tail : (e : Entry) (es : List Entry) → IsRisingFrom e es → IsRising es
rising-tail e [] r = tt
rising-tail e (f ∷ fs) r = r.1

less-test : (m n : ℕ) → m < n → nat_lt m n ≡ true
less-test m n h = grind (arith, nat_tests)

same-test : (m n : ℕ) → m ≡ n → (nat_lt m n ≡ false) × (nat_eq m n ≡ true)
same-test m n e = (grind (arith, nat_tests), grind (arith, nat_tests))

before-test : (e f : Entry) → IsBefore e f → is_before e f ≡ true
before-test e f (inl less) = ap (λ b. b || (nat_eq e.stamp f.stamp && nat_lt e.process f.process)) (less-test e.stamp f.stamp less)
before-test e f (inr both) =
    let same = same-test e.stamp f.stamp both.0 in
    ap (λ b. b || (nat_eq e.stamp f.stamp && nat_lt e.process f.process)) same.0 ∙ ap (λ b. b && nat_lt e.process f.process) same.1 ∙ less-test e.process f.process both.1

next-first : (e : Entry) (es : List Entry) → IsRisingFrom e es → with_next e es ≡ e ∷ es
next-first e [] r = refl
next-first e (f ∷ fs) r = ap (λ b. cond b (e ∷ f ∷ fs) (f ∷ with_next e fs)) (before-test e f r.0)

-- entries in order stay so
pub in-order : (es : List Entry) → IsRising es → ordered es ≡ es
in-order [] r = refl
in-order (e ∷ es) r = ap (with_next e) (in-order es (rising-tail e es r)) ∙ next-first e es r

report-same : (a a' : headline.Report) → a.journal ≡ a'.journal → a.ends ≡ a'.ends → a.queued ≡ a'.queued → a.counts ≡ a'.counts → a.status ≡ a'.status → a.text ≡ a'.text → a ≡ a'
report-same a a' pj pe pq pc ps pt = λ z. record { journal = pj z; ends = pe z; queued = pq z; counts = pc z; status = ps z; text = pt z }

in-order-tells : (image : Image) (main : ℕ) (v : Unnamed (CodeState ⊤)) (journal : List Entry) (r : Report) → IsRising (ordered journal) → TellsOf image main v journal r → TellsOf image main v (ordered journal) r
in-order-tells image main v journal r rising tells = record {
  journal_is = tells.journal_is ∙ sym (in-order (ordered journal) rising);
  ends = tells.ends;
  queued = tells.queued;
  counts = tells.counts;
}

-- with its status and its text it is the report of the system without names
pub its-report : (image : Image) (main : ℕ) (v : Unnamed (CodeState ⊤)) (journal : List Entry) (r : Report) (names : List Text) (asked : Asked) → IsRising (ordered journal) → TellsOf image main v journal r → HasStrings v.ports
    → report_view r (status_by (first_of (ends_of r)) (ends_of r)) (report_text names asked r) ≡ bare_report names asked (nameless image main) v (ordered journal)
its-report image main v journal r names asked rising tells have =
    report-same (report_view r (status_by (first_of (ends_of r)) (ends_of r)) (report_text names asked r)) (bare_report names asked (nameless image main) v (ordered journal)) tells.journal_is tells.ends tells.queued tells.counts
    (ap (λ (ends : List Fate). status_by (first_of ends) ends) tells.ends)
    (texts_theirs image main v (ordered journal) r names asked (in-order-tells image main v journal r rising tells) have)

pub reports_describe : ReportsDescribe
reports_describe exceptions image main good works limits argument events w b text shows nobody r tells names asked =
    let one = works.runs.journal limits argument events w.run shows.comes in
    let have = console_strings exceptions image main good limits argument events w b shows in
    subst (DescribesRun (named image main) (IsWithin image main) (FindsItsOperands (its_ready image main)) limits argument names asked)
    (sym (its-report image main b.system w.run.journal r names asked one.fits.ordered tells have)) (works.shown.report limits argument events w b names asked text shows nobody)
