-- An edge behind which all is in a set.
use Rattle.std.proofs.Common.{◌≡◌, [], Bool, true, false, cond, not, ◌&&◌, ◌||◌, IsTrue, refl, sym, subst, true≢false}
use Rattle.herm_model.specs.Lists.{any_pass}
use Rattle.herm_model.specs.Paths.{Fact, init, same_fact, path_of, is_at_or_below}
use Rattle.herm_model.specs.ControlPaths.{Edge, held_after_edge}
use Rattle.herm_model.specs.laws.ExcessLaws.{IsExcess}
use Rattle.herm_model.proofs.Equality.{same_fact-is}

-- one fact more that is in the set
pub in-set : (low : Fact → Bool) (done : Bool) (f g : Fact) → (done ≡ true → low f ≡ true) → low g ≡ true → (done || same_fact f g) ≡ true → low f ≡ true
in-set low true f g before now h = before h
in-set low false f g before now h = subst (λ x. low x ≡ true) (sym (same_fact-is f g h)) now

pub all-behind : (e : Edge) (low before : Fact → Bool) → ((f : Fact) → any_pass (same_fact f) e.makes ≡ true → low f ≡ true) → ((f : Fact) → before f ≡ true → low f ≡ true)
    → (f : Fact) → held_after_edge e f (before f) ≡ true → low f ≡ true
all-behind e low before makes kept f = by (any_pass (same_fact f) e.makes) (any_pass (λ p. is_at_or_below p (path_of f)) e.kills) (makes f)
  where
    by : (made killed : Bool) → (made ≡ true → low f ≡ true) → cond made true (cond killed false (before f)) ≡ true → low f ≡ true
    by true killed m h = m h
    by false true m h = absurd (true≢false (sym h))
    by false false m h = kept f h

-- where all is in the low set, nothing is beyond it
pub none-beyond : (here low : Fact → Bool) → ((f : Fact) → here f ≡ true → low f ≡ true) → IsExcess here low []
none-beyond here low all = record { order = tt; topmost = λ x. (λ h. absurd h, λ h. absurd (by (here (init x)) (low (init x)) (all (init x)) h.0)) }
  where
    by : (a b : Bool) → (a ≡ true → b ≡ true) → IsTrue (a && not b) → ⊥
    by true true h t = absurd (true≢false (sym t))
    by true false h t = true≢false (sym (h refl))
    by false b h t = absurd (true≢false (sym t))
