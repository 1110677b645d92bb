-- What is known of the types beside the paths of statements.
use Rattle.std.specs.Prelude.{ℕ, List}
use Rattle.herm_model.specs.Lists.{IsIn}
use Rattle.herm_model.specs.Types.{TypeTable}
use Rattle.herm_typed.specs.declared.statements.TypedStmt.{TypedStmt}
use Rattle.herm_typed.specs.Outcomes.{KnowsOutcomes}

-- of each of these statements, what its outcomes depend on
abbrev pub AllKnow : TypeTable → List ℕ → List TypedStmt → Type 0
AllKnow table variables ts = (t : TypedStmt) → IsIn t ts → KnowsOutcomes table variables t.form
