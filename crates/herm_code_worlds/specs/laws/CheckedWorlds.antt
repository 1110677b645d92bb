-- What is claimed of the worlds of checked programs: their code works as a world, and its reports describe runs of the program.
use Rattle.std.specs.Prelude.{◌≡◌, ℕ, List, [], map, IsTrue, ⊤}
use Rattle.herm_model.specs.Typed.{is_text}
use Rattle.herm_model.specs.Values.{Name}
use Rattle.herm_journal.specs.Entries.{Text}
use Rattle.herm_journal.specs.Journals.{ordered}
use Rattle.herm_journal.specs.NextNumbers.{Limits}
use Rattle.herm_system.specs.RunTexts.{Asked}
use Rattle.herm_system.specs.Systems.{Event}
use Rattle.herm_source.specs.AcceptedRuns.{Describes}
use Rattle.herm_source.specs.Checked.{IsChecked}
use Rattle.herm_source.specs.Modules.{Program, Modules}
use Rattle.herm_code_machine.specs.CodeStates.{CodeState}
use Rattle.herm_translated.specs.CodeBlocks.{CheckedModule}
use Rattle.herm_translated.specs.Translated.{image_for}
use Rattle.herm_good_images.specs.CheckedModules.{AreCheckedModules}
use Rattle.herm_simulation.specs.laws.CheckedCode.{modules_of, DoesAsSource}
use Rattle.herm_waking.specs.KeptRounds.{Worked}
use Rattle.herm_waking.specs.UnnamedRounds.{BareWorked}
use Rattle.herm_code_worlds.specs.BareReports.{bare_report}
use Rattle.herm_code_worlds.specs.CodeWorlds.{nameless, Shows}
use Rattle.herm_code_worlds.specs.laws.WorldOfCode.{WorksAsWorld}

-- The image of checked modules does as the source and works as a world; and where a world that holds it without names keeps nobody, its report
-- describes a run of the program, in which every state is sound and every statement finds what it needs. Language reference, "Reports".
pub record WorksAsProgram (exceptions : ℕ) (program : Program) (modules : Modules) (checked : List CheckedModule) : Type 0 where
  pub does : DoesAsSource exceptions program modules checked
  pub works : WorksAsWorld (image_for program.types checked) modules.main
  pub describes : (limits : Limits) (argument : Text) (events : List Event) (w : Worked (CodeState Name)) (b : BareWorked (CodeState ⊤)) (names : List Text) (asked : Asked) → IsTrue (is_text argument)
      → Shows (image_for program.types checked) modules.main limits argument events w b → b.kept.ready ≡ []
      → Describes modules limits argument names asked (bare_report names asked (nameless (image_for program.types checked) modules.main) b.system (ordered w.run.journal))

-- It is so of all checked modules of a program.
abbrev pub CheckedCodeWorksAsProgram : Type 0
CheckedCodeWorksAsProgram = (exceptions : ℕ) (program : Program) (checked : List CheckedModule) → AreCheckedModules exceptions program checked → WorksAsProgram exceptions program (modules_of program checked) checked

-- Each program that is typed and accepted, with its modules made ready, has checked modules, of just these, whose code works so.
abbrev pub CheckedProgramsHaveWorlds : Type 0
CheckedProgramsHaveWorlds = (exceptions : ℕ) (program : Program) (made : Modules) → IsChecked exceptions program made
    → (checked : List CheckedModule) × (map (λ (m : CheckedModule). m.code) checked ≡ made.codes) × AreCheckedModules exceptions program checked × WorksAsProgram exceptions program made checked
