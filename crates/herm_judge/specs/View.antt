-- Types by number, where there may be none, and what the tests of a statement know.
use Rattle.std.specs.Prelude.{ℕ, Bool, true, false, List, [], ◌∷◌, map, Option, option_map}
use Rattle.herm_base.specs.declared.numbers.TypeNo.{TypeNo}
use Rattle.herm_model.specs.Types.{TypeTable}
use Rattle.herm_judge.specs.declared.frame.Frame.{Frame}

abbrev pub kind : Option TypeNo → Option ℕ
kind t = option_map (λ t. t.0) t

abbrev pub kinds : List TypeNo → List ℕ
kinds ts = map (λ t. t.0) ts

-- the shapes of the types, the types of the variables and those of the ports
abbrev pub table_of : Frame → TypeTable
table_of f = f.types.now.shapes

abbrev pub variables_of : Frame → List ℕ
variables_of f = kinds f.of.now

abbrev pub ports_of : Frame → List ℕ
ports_of f = kinds f.ports.now

-- whether a list is empty
abbrev pub is_nil : {X : Type 0} → List X → Bool
is_nil [] = true
is_nil (x ∷ xs) = false
