-- Programs that are checked: typed and accepted.
use Rattle.std.specs.Prelude.{ℕ}
use Rattle.herm_model.specs.TypedPrograms.{IsTypedProgram}
use Rattle.herm_source.specs.Modules.{Program, Modules}
use Rattle.herm_source.specs.AcceptedRuns.{AreAccepted}

-- The program is typed, where there are so many exceptions, and the modules are its accepted processes, each with its exact
-- labels. Language reference, "Refusals of typestate".
pub record IsChecked (exceptions : ℕ) (program : Program) (modules : Modules) : Type 0 where
  pub typed : IsTypedProgram exceptions program.types program.processes program.main
  pub accepted : AreAccepted program modules
