-- What is claimed of the source machine's counts of inports and callmessages.
use Rattle.std.specs.Prelude.{ℕ, Some, ◌≡◌}
use Rattle.herm_model.specs.Typed.{HaveTypes}
use Rattle.herm_model.specs.TypedPrograms.{IsTypedProgram}
use Rattle.herm_forms.specs.Frames.{Name}
use Rattle.herm_forms.specs.Modules.{Module}
use Rattle.herm_runs.specs.Counting.{KeepsCounts}
use Rattle.herm_source.specs.Modules.{Program, Modules}
use Rattle.herm_source.specs.States.{State}
use Rattle.herm_source.specs.AcceptedRuns.{AreAccepted}
use Rattle.herm_source.specs.Instance.{source, code_at}

-- the values of a process's variables are of their types
abbrev pub HasTypesIn : Modules → State Name → Type 0
HasTypesIn modules x = (c : Module) → code_at modules x ≡ Some c → HaveTypes c.types c.variables x.frame.variables

-- Of the modules of a typed and accepted program, a process whose values are of their types keeps its inports and callmessages
-- accounted for, whatever its form. Language reference, "Sound states".
abbrev pub TypedProgramsKeepCounts : Type 0
TypedProgramsKeepCounts = (exceptions : ℕ) (program : Program) (modules : Modules) → AreAccepted program modules → IsTypedProgram exceptions program.types program.processes program.main
    → KeepsCounts (source modules) (HasTypesIn modules)
