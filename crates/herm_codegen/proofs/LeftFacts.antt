-- Facts that an edge leaves, one by one.
use Rattle.std.proofs.Common.{◌≡◌, List, [], ◌∷◌, ◌++◌, Bool, true, false, cond, refl}
use Rattle.std.specs.Prelude.{filter}
use Rattle.herm_model.specs.Paths.{Path, Fact}
use Rattle.herm_codegen.specs.Listed.{is_left, fact_left}

pub one_left : (kills : List Path) (f : Fact) (fs : List Fact) → fact_left kills f ++ filter (is_left kills) fs ≡ filter (is_left kills) (f ∷ fs)
one_left kills f fs = by (is_left kills f)
  where
    by : (b : Bool) → cond b (f ∷ []) [] ++ filter (is_left kills) fs ≡ cond b (f ∷ filter (is_left kills) fs) (filter (is_left kills) fs)
    by true = refl
    by false = refl
