-- What types a scope sees at the paths of a statement.
use Rattle.std.specs.Prelude.{ℕ, List, [], ◌∷◌, map, Vec}
use Rattle.std.specs.Global.{Global}
use Rattle.herm_model.specs.Paths.{Path}
use Rattle.herm_model.specs.Expressions.{Expression, paths_read, paths_among}
use Rattle.herm_model.specs.Statements.{Statement}
use Rattle.herm_naming.specs.Numbers.{Scope, type_seen}
use Rattle.herm_typed.specs.declared.expressions.TypedAtom.{TypedAtom}
use Rattle.herm_typed.specs.declared.expressions.TypedPath.{TypedPath}
use Rattle.herm_typed.specs.declared.statements.TypedStmt.{TypedStmt}
use Rattle.herm_typed.specs.View.{typed_path_view, typed_atom_view}
use Rattle.herm_typed.specs.Beside.{own_paths}
use Rattle.herm_numbers.specs.View.{number_of}

-- the numbers of the types that a scope sees at paths, at those of an expression, of an atom and of a statement
abbrev pub seen_at : Scope → Path → ℕ
seen_at s p = number_of s.known (type_seen s p)

abbrev pub types_read : Scope → Expression → List ℕ
types_read s e = map (seen_at s) (paths_read e)

abbrev pub types_among : Scope → TypedAtom → List ℕ
types_among s a = map (seen_at s) (paths_among (typed_atom_view a ∷ []))

abbrev pub types_seen : Scope → Statement → List ℕ
types_seen s x = map (seen_at s) (own_paths x)

abbrev pub port_arm_seen : Scope → TypedPath × TypedPath × Vec TypedStmt Global → List ℕ
port_arm_seen s a = seen_at s (typed_path_view a.0) ∷ seen_at s (typed_path_view a.1) ∷ []
