-- The world of a checked program's code, and the runs of the program that its reports describe.
use Rattle.std.proofs.Common.{◌≡◌, ℕ, List, map, ap, ap₂, subst, ◌∙◌}
use Rattle.std.specs.Prelude.{IsTrue}
use Rattle.herm_model.specs.Typed.{is_text}
use Rattle.herm_model.specs.Values.{Name}
use Rattle.herm_journal.specs.Entries.{Text}
use Rattle.herm_journal.specs.NextNumbers.{Limits}
use Rattle.herm_system.specs.Reports.{Report, DescribesRun}
use Rattle.herm_system.specs.RunTexts.{Asked, text_of_run}
use Rattle.herm_system.specs.Statuses.{status_of}
use Rattle.herm_system.specs.Summary.{counts}
use Rattle.herm_system.specs.Systems.{Run}
use Rattle.herm_source.specs.AcceptedRuns.{Describes}
use Rattle.herm_source.specs.Checked.{IsChecked}
use Rattle.herm_source.specs.Modules.{Program, Modules}
use Rattle.herm_checked.specs.laws.CheckedRuns.{report_of}
use Rattle.herm_code_machine.specs.CodeInstance.{code_machine}
use Rattle.herm_code_machine.specs.CodeStates.{CodeState}
use Rattle.herm_translated.specs.CodeBlocks.{CheckedModule}
use Rattle.herm_translated.specs.Translated.{image_for}
use Rattle.herm_good_images.specs.CheckedModules.{AreCheckedModules}
use Rattle.herm_simulation.specs.Simulating.{IsTranslated, ready_image}
use Rattle.herm_simulation.specs.laws.CheckedCode.{modules_of, DoesAsSource}
use Rattle.herm_simulation.proofs.CodeReported.{code-runs_described}
use Rattle.herm_simulation.proofs.TranslatedModules.{checked-modules_translated, checked-code_does, checked-have_code}
use Rattle.herm_code_worlds.specs.laws.CheckedWorlds.{WorksAsProgram, CheckedCodeWorksAsProgram, CheckedProgramsHaveWorlds}
use Rattle.herm_code_worlds.proofs.WorldWorks.{works-as-world}

-- what describes a run of the code describes one of the program
code-describes : (exceptions : ℕ) (program : Program) (modules : Modules) (checked : List CheckedModule) → IsTranslated exceptions program modules checked
    → (Is Needs : CodeState Name → Type 0) (limits : Limits) (argument : Text) (names : List Text) (asked : Asked) (report : Report) → IsTrue (is_text argument)
    → DescribesRun (code_machine (ready_image program modules checked)) Is Needs limits argument names asked report → Describes modules limits argument names asked report
code-describes exceptions program modules checked is Is Needs limits argument names asked report texts of =
    let code = code_machine (ready_image program modules checked) in
    let q : Run (CodeState Name) = record { system = of.final; journal = report.journal } in
    let same : report_of code names asked q ≡ report =
    ap₂ (λ ends queued. record { journal = report.journal; ends = ends; queued = queued; counts = counts code of.final; status = status_of code of.final; text = text_of_run names asked code q }) of.ends of.queued
    ∙ ap₂ (λ counted status. record { journal = report.journal; ends = report.ends; queued = report.queued; counts = counted; status = status; text = text_of_run names asked code q }) of.counts of.status
    ∙ ap (λ text. record { journal = report.journal; ends = report.ends; queued = report.queued; counts = report.counts; status = report.status; text = text }) of.text in
    subst (Describes modules limits argument names asked) same
    (code-runs_described exceptions program modules checked is limits argument names asked (of.is_a_run).0 q texts (of.is_a_run).1 of.is_ordered of.is_final)

works-as-program : (exceptions : ℕ) (program : Program) (modules : Modules) (checked : List CheckedModule) → IsTranslated exceptions program modules checked → DoesAsSource exceptions program modules checked
    → WorksAsProgram exceptions program modules checked
works-as-program exceptions program modules checked is does =
    let image = image_for program.types checked in
    let works = works-as-world exceptions image modules.main does.good does.begins in record {
      does = does;
      works = works;
      describes = λ limits argument events w b names asked texts shows none.
          code-describes exceptions program modules checked is _ _ limits argument names asked _ texts ((works.shown).report limits argument events w b names asked texts shows none);
    }

pub checked-code-works : CheckedCodeWorksAsProgram
checked-code-works exceptions program checked are =
    works-as-program exceptions program (modules_of program checked) checked (checked-modules_translated exceptions program checked are) (checked-code_does exceptions program checked are)

-- with any modules made ready that are the codes of the checked ones
translated-for : (exceptions : ℕ) (program : Program) (made : Modules) (checked : List CheckedModule) → IsChecked exceptions program made → map (λ (m : CheckedModule). m.code) checked ≡ made.codes → AreCheckedModules exceptions program checked
    → IsTranslated exceptions program made checked
translated-for exceptions program made checked accepted codes are =
    let there = checked-modules_translated exceptions program checked are in record { accepted = accepted; codes = codes; right = there.right; good = there.good }

pub programs-have-worlds : CheckedProgramsHaveWorlds
programs-have-worlds exceptions program made accepted =
    let r = checked-have_code exceptions program made accepted in
    (r.0, r.1, r.2, works-as-program exceptions program made r.0 (translated-for exceptions program made r.0 accepted r.1 r.2) r.3)
