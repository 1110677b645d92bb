-- What is proved of the meaning and the refusals of process modules.
use Rattle.std.specs.Prelude.{ℕ, List, [], length, ◌≡◌}
use Rattle.herm_model.specs.TypedPrograms.{IsTypedProgram}
use Rattle.herm_syntax.specs.Trees.{Module}
use Rattle.herm_meaning.specs.Names.{NamedTable, IsWellNamed}
use Rattle.herm_naming.specs.Meaning.{processes_in, meaning, main_number}
use Rattle.herm_naming.specs.StatementFaults.{Code}
use Rattle.herm_naming.specs.RefusalsOfNames.{Places, ArePlaced, AreRefusals}

-- Modules without a refusal mean a typed program.
abbrev pub UnrefusedIsTyped : Type 0
UnrefusedIsTyped = (known : NamedTable) (modules : List Module) (places : List (Places ℕ)) → IsWellNamed known → ArePlaced known (processes_in modules) (processes_in modules) places
    → AreRefusals known modules places 0 [] → IsTypedProgram (length known.exceptions) known.shapes (meaning known modules) (main_number modules)

-- The list of refusals of modules is one.
abbrev pub RefusalsAreOne : Type 0
RefusalsAreOne = (known : NamedTable) (modules : List Module) (places : List (Places ℕ)) (rs ss : List (Code × ℕ)) → AreRefusals known modules places 0 rs → AreRefusals known modules places 0 ss → rs ≡ ss
