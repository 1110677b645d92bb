-- The facts behind an outcome are those that are held there, and values that fit a label fit where it arrives.
use Rattle.std.proofs.Common.{◌≡◌, List, [], ◌∷◌, ◌++◌, filter, Bool, true, false, not, cond, ◌||◌, IsTrue, refl, sym, ap, ◌∙◌}
use Rattle.herm_model.specs.Lists.{any_pass}
use Rattle.herm_model.specs.Paths.{Fact, path_of, same_fact, is_at_or_below}
use Rattle.herm_model.specs.FactsOfStatements.{closed}
use Rattle.herm_model.proofs.Equality.{same_fact-is}
use Rattle.herm_instructions.specs.Effects.{row_of}
use Rattle.herm_instructions.specs.laws.LabelLaws.{FactsAreHeldBehind, ValuesFitWhereTheyArrive}

any-append : {X : Type 0} (test : X → Bool) (xs ys : List X) → any_pass test (xs ++ ys) ≡ cond (any_pass test xs) true (any_pass test ys)
any-append test [] ys = refl
any-append {X} test (x ∷ xs) ys = by (test x) (any-append test xs ys)
  where
    by : (b : Bool) → any_pass test (xs ++ ys) ≡ cond (any_pass test xs) true (any_pass test ys) → (b || any_pass test (xs ++ ys)) ≡ cond (b || any_pass test xs) true (any_pass test ys)
    by true again = refl
    by false again = again

module _ (gone : Fact → Bool) (f : Fact) where
  held-filter : (fs : List Fact) → any_pass (same_fact f) (filter (λ g. not (gone g)) fs) ≡ cond (gone f) false (any_pass (same_fact f) fs)
  held-filter [] = by (gone f)
    where
      by : (b : Bool) → false ≡ cond b false false
      by true = refl
      by false = refl
  held-filter (g ∷ fs) = by (same_fact f g) refl (gone g) refl (held-filter fs)
    where
      rest : List Fact
      rest = filter (λ g. not (gone g)) fs

      as-f : IsTrue (same_fact f g) → (d : Bool) → gone g ≡ d → gone f ≡ d
      as-f s d e = ap gone (same_fact-is f g s) ∙ e

      by : (s : Bool) → same_fact f g ≡ s → (d : Bool) → gone g ≡ d → any_pass (same_fact f) rest ≡ cond (gone f) false (any_pass (same_fact f) fs)
          → any_pass (same_fact f) (cond (not d) (g ∷ rest) rest) ≡ cond (gone f) false (s || any_pass (same_fact f) fs)
      by true s true d again = again ∙ ap (λ b. cond b false (any_pass (same_fact f) fs)) (as-f s true d) ∙ sym (ap (λ b. cond b false true) (as-f s true d))
      by true s false d again = ap (λ b. b || any_pass (same_fact f) rest) s ∙ sym (ap (λ b. cond b false true) (as-f s false d))
      by false s true d again = again
      by false s false d again = ap (λ b. b || any_pass (same_fact f) rest) s ∙ again

pub facts-held_behind : FactsAreHeldBehind
facts-held_behind table variables i o facts f =
    any-append (same_fact f) (closed table variables ((row_of table variables i).made o)) _
    ∙ ap (cond (any_pass (same_fact f) (closed table variables ((row_of table variables i).made o))) true) (held-filter (λ g. any_pass (λ p. is_at_or_below p (path_of g)) ((row_of table variables i).gone o)) f facts)

pub values-fit : ValuesFitWhereTheyArrive
values-fit ps arriving listed a x = record {
  values = λ p. ((λ h. (a.values p).1 ((x.values p).0 h)), λ i. (x.values p).1 ((a.values p).0 i));
  components = λ p c i. x.components p c (a.components p c i);
}
