-- What is proved of the excess of values and of sets of facts.
use Rattle.std.specs.Prelude.{◌≡◌, ◌↔◌, ℕ, List, [], ◌∷◌, ◌++◌, Bool, true, false, not, ◌&&◌, ◌||◌, nat_eq, nat_lt, IsTrue, IsFalse, ⊤}
use Rattle.herm_model.specs.Lists.{IsIn}
use Rattle.herm_model.specs.Paths.{Path, Fact, init}
use Rattle.herm_model.specs.Types.{TypeTable, is_within_depth, greatest_depth}
use Rattle.herm_model.specs.Facts.{IsFactOf}
use Rattle.herm_model.specs.Values.{Name, Parts, has_value}
use Rattle.herm_model.specs.FactsOfValues.{HasExactly}
use Rattle.herm_model.specs.Finalising.{excess}

-- The order of paths: by variables and then by parts, a path before those that go on from it.
abbrev pub comes_before : Path → Path → Bool
comes_before [] [] = false
comes_before [] (j ∷ q) = true
comes_before (i ∷ p) [] = false
comes_before (i ∷ p) (j ∷ q) = nat_lt i j || (nat_eq i j && comes_before p q)

-- each path comes before all that stand behind it
abbrev pub AreInOrder : List Path → Type 0
AreInOrder [] = ⊤
AreInOrder (x ∷ xs) = ((y : Path) → IsIn y xs → IsTrue (comes_before x y)) × AreInOrder xs

-- the one set has a value at the path, and the other has none
abbrev pub is_beyond : (here low : Fact → Bool) → Path → Bool
is_beyond here low p = here (init p) && not (low (init p))

-- The excess of a set of facts beyond another, apart from types: the topmost paths at which the one has a value and the
-- other none, in order. Language reference, "Excess".
pub record IsExcess (here low : Fact → Bool) (xs : List Path) : Type 0 where
  pub order : AreInOrder xs
  pub topmost : (x : Path) → IsIn x xs ↔ (IsTrue (is_beyond here low x) × ((q : Path) (i : ℕ) (more : List ℕ) → x ≡ q ++ i ∷ more → IsFalse (is_beyond here low q)))

-- Where the facts are those of variables of types within the depth, it is the list that goes down by the types.
abbrev pub FactsHaveTheirExcess : Type 0
FactsHaveTheirExcess = (table : TypeTable) (variables : List ℕ) (here low : Fact → Bool) → ((t : ℕ) → IsIn t variables → IsTrue (is_within_depth greatest_depth table t))
    → ((p : Path) → IsTrue (here (init p)) → IsFactOf table variables (init p)) → (xs : List Path) → IsExcess here low xs ↔ (xs ≡ excess table variables (λ p. here (init p)) (λ p. low (init p)))

-- Values that have exactly these facts have the excess of the facts, the same paths in the same order.
abbrev pub ValuesHaveTheirExcess : Type 0
ValuesHaveTheirExcess = (table : TypeTable) (variables : List ℕ) (has : Fact → Bool) (ps : Parts Name) (kept : Path → Bool) → HasExactly ps (λ f. IsTrue (has f))
    → excess table variables (has_value ps) kept ≡ excess table variables (λ p. has (init p)) kept
