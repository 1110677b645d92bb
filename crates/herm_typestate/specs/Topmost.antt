-- The topmost paths at which a test is true, in order.
use Rattle.std.specs.Prelude.{◌≡◌, ◌↔◌, ℕ, List, ◌∷◌, ◌++◌, map, Bool, not, ◌&&◌, IsTrue, IsFalse}
use Rattle.herm_model.specs.Lists.{IsIn}
use Rattle.herm_model.specs.Paths.{Path}
use Rattle.herm_model.specs.laws.ExcessLaws.{AreInOrder}
use Rattle.herm_typestate.specs.declared.tree.Mark.TheVariants.{Here}
use Rattle.herm_typestate.specs.declared.tree.Tree.{Tree}
use Rattle.herm_typestate.specs.Trees.{tree_has, has_mark}

-- the paths at which the test is true and is false at every path before them, in order
pub record AreTopmost (test : Path → Bool) (xs : List Path) : Type 0 where
  pub order : AreInOrder xs
  pub topmost : (x : Path) → IsIn x xs ↔ (IsTrue (test x) × ((q : Path) (i : ℕ) (more : List ℕ) → x ≡ q ++ i ∷ more → IsFalse (test q)))

-- the trees have a value there, and the low ones have none
abbrev pub is_left : List Tree → List Tree → Path → Bool
is_left ts low p = has_mark ts Here p && not (has_mark low Here p)

-- the same of one tree at a place
abbrev pub is_left_at : Tree → List Tree → ℕ → Path → Bool
is_left_at t low i p = tree_has Here p t && not (has_mark low Here (i ∷ p))

-- the new list has the topmost of these paths behind the old one, each said from a path on
pub record AddTopmost (test : Path → Bool) (at : Path) (old new : List Path) : Type 0 where
  pub paths : List Path
  pub topmost : AreTopmost test paths
  pub added : new ≡ old ++ map (at ++◌) paths
