-- Arguments one by one.
use Rattle.std.proofs.Common.{◌≡◌, List, [], ◌∷◌, ◌++◌, Bool, true, false, cond, Some, refl}
use Rattle.herm_model.specs.Types.{Mode, Parameter}
use Rattle.herm_model.specs.Expressions.{Atom, literal, path, paths_among}
use Rattle.herm_model.specs.Calls.{arguments_by, argument_path}

pub arguments_next : (test : Mode → Bool) (p : Parameter) (ps : List Parameter) (a : Atom) (atoms : List Atom) → arguments_by test (p ∷ ps) (a ∷ atoms) ≡ arguments_by test (p ∷ []) (a ∷ []) ++ arguments_by test ps atoms
arguments_next test p ps (literal l) atoms = refl
arguments_next test p ps (path q) atoms = by (test p.mode)
  where
    by : (b : Bool) → cond b (q ∷ arguments_by test ps atoms) (arguments_by test ps atoms) ≡ cond b (q ∷ []) [] ++ arguments_by test ps atoms
    by true = refl
    by false = refl

-- the path of an argument, where it is one
pub path_alone : (a : Atom) → argument_path (Some a) ≡ paths_among (a ∷ [])
path_alone (literal l) = refl
path_alone (path p) = refl
