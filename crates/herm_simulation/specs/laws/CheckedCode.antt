-- What is claimed of checked programs, with no premise but their check: their code does what their source does.
use Rattle.std.specs.Prelude.{ℕ, List, map, Some, ◌≡◌}
use Rattle.herm_model.specs.TypedPrograms.{main_start}
use Rattle.herm_source.specs.Checked.{IsChecked}
use Rattle.herm_source.specs.Modules.{Program, Modules}
use Rattle.herm_code_machine.specs.CodeTypes.{first_type}
use Rattle.herm_code_machine.specs.laws.GoodImageLaws.{IsGoodOver}
use Rattle.herm_translated.specs.CodeBlocks.{CheckedModule}
use Rattle.herm_translated.specs.Translated.{image_for}
use Rattle.herm_good_images.specs.CheckedModules.{AreCheckedModules}
use Rattle.herm_simulation.specs.Simulating.{IsTranslated, ready_image}
use Rattle.herm_simulation.specs.laws.SimulationLaws.{IsJoinedToSource, RunsAsSource, SourceRunsAs, HasRoundsOfSource, SourceHasRounds}
use Rattle.herm_simulation.specs.laws.DiarySimulation.{IsJoinedWithoutNames, HasDiariesOfSource, SourceHasDiaries}

-- the modules of a program that the source machine runs, of its checked ones
abbrev pub modules_of : Program → List CheckedModule → Modules
modules_of program checked = record { types = program.types; codes = map (λ (m : CheckedModule). m.code) checked; main = program.main }

-- Checked modules of a program have all that is asked where the code is set beside the source: what they list is right, and their image is good.
abbrev pub CheckedModulesAreTranslated : Type 0
CheckedModulesAreTranslated = (exceptions : ℕ) (program : Program) (checked : List CheckedModule) → AreCheckedModules exceptions program checked → IsTranslated exceptions program (modules_of program checked) checked

-- The image of checked modules is good, and main begins with its start message. Its machine is joined to the source machine, with names of cells and
-- without; so events, rounds and diaries lead to the same in both, either way. Code reference, "Standing for a process".
pub record DoesAsSource (exceptions : ℕ) (program : Program) (modules : Modules) (checked : List CheckedModule) : Type 0 where
  pub good : IsGoodOver exceptions (image_for program.types checked)
  pub begins : first_type (ready_image program modules checked) modules.main ≡ Some main_start
  pub joined : IsJoinedToSource program modules checked
  pub runs_forth : RunsAsSource program modules checked
  pub runs_back : SourceRunsAs program modules checked
  pub rounds_forth : HasRoundsOfSource program modules checked
  pub rounds_back : SourceHasRounds program modules checked
  pub joined_without_names : IsJoinedWithoutNames program modules checked
  pub diaries_forth : HasDiariesOfSource program modules checked
  pub diaries_back : SourceHasDiaries program modules checked

-- It is so of all checked modules of a program.
abbrev pub CheckedCodeDoesAsSource : Type 0
CheckedCodeDoesAsSource = (exceptions : ℕ) (program : Program) (checked : List CheckedModule) → AreCheckedModules exceptions program checked → DoesAsSource exceptions program (modules_of program checked) checked

-- Each program that is typed and accepted, with its modules made ready, has checked modules, of just these, whose code does what the source does.
abbrev pub CheckedProgramsHaveCode : Type 0
CheckedProgramsHaveCode = (exceptions : ℕ) (program : Program) (made : Modules) → IsChecked exceptions program made
    → (checked : List CheckedModule) × (map (λ (m : CheckedModule). m.code) checked ≡ made.codes) × AreCheckedModules exceptions program checked × DoesAsSource exceptions program made checked
