-- The statements within arms, handlers and an `else`, in order.
use Rattle.std.specs.Prelude.{List, [], ◌∷◌, ◌++◌, Option, Some, None, Vec}
use Rattle.std.specs.Global.{Global}
use Rattle.herm_typed.specs.declared.expressions.TypedPath.{TypedPath}
use Rattle.herm_typed.specs.declared.statements.TypedStmt.{TypedStmt}
use Rattle.herm_typed.specs.Within.{all_statements}

abbrev pub all_in_arms : {X : Type 0} → List (X × Vec TypedStmt Global) → List TypedStmt
all_in_arms [] = []
all_in_arms (a ∷ arms) = all_statements a.1.items ++ all_in_arms arms

abbrev pub all_in_port_arms : List (TypedPath × TypedPath × Vec TypedStmt Global) → List TypedStmt
all_in_port_arms [] = []
all_in_port_arms (a ∷ arms) = all_statements a.2.items ++ all_in_port_arms arms

abbrev pub all_otherwise : Option (Vec TypedStmt Global) → List TypedStmt
all_otherwise None = []
all_otherwise (Some body) = all_statements body.items
