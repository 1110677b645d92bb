-- The words of a list that are not empty, with their places.
use Rattle.std.proofs.Common.{◌≡◌, ◌⊎◌, inl, inr, ℕ, ◌+◌, ◌/◌, ◌%◌, ◌<◌, ◌≤◌, List, [], ◌∷◌, ◌++◌, length, Bool, true, false, ◌&&◌, ◌||◌, nat_eq, get_or, refl, sym, ◌∙◌, ap, ap₂, arith}
use Rattle.std.proofs.lemmas.Bool.{eq-eqb, eqb-true, cases_eq, cases_lt}
use Rattle.herm_model.specs.Lists.{any_pass}
use Rattle.herm_facts.specs.declared.fact_set.FactSet.{FactSet}
use Rattle.herm_facts.specs.declared.sparse_set.WordAt.{WordAt}
use Rattle.herm_facts.specs.FactSets.{has}
use Rattle.herm_facts.specs.NumberSets.{has_at}
use Rattle.herm_facts.specs.Numbers.{stand_once}
use Rattle.herm_facts.specs.SparseSets.{word_has, places_of}
use Rattle.herm_facts.proofs.NumberSets.{past, at_place}
use Rattle.herm_facts.proofs.SparseSets.{or_false, any-append, places-append, pushed-once, no-word, own-item}

not-equal : (n k : ℕ) → (n ≡ k → ⊥) → nat_eq n k ≡ false
not-equal n k apart = by (nat_eq n k) refl
  where
    by : (b : Bool) → nat_eq n k ≡ b → nat_eq n k ≡ false
    by true e = absurd (apart (eqb-true n k e))
    by false e = e

-- these are the words below a place
pub record AreFilled (words : List FactSet) (i : ℕ) (ws : List WordAt) : Type 0 where
  pub once : stand_once (places_of ws) ≡ true
  pub above : (k : ℕ) → i ≤ k → any_pass (nat_eq k) (places_of ws) ≡ false
  pub same : (n : ℕ) → n / 64 < i → any_pass (word_has n) ws ≡ has_at words (n / 64) (n % 64)

pub none_filled : (words : List FactSet) (ws : List WordAt) → ws ≡ [] → AreFilled words 0 ws
none_filled words ws e = record {
  once = ap (λ vs. stand_once (places_of vs)) e;
  above = λ k h. ap (λ vs. any_pass (nat_eq k) (places_of vs)) e;
  same = λ n h. absurd (omega (arith, h));
}

module _ (words : List FactSet) (i : ℕ) (d : FactSet) (ws : List WordAt) (h : AreFilled words i ws) (within : i < length words) where
  abbrev v : FactSet
  v = get_or words i d

  abbrev w : WordAt
  w = record { at = i; set = v }

  there : (j : ℕ) → has_at words i j ≡ has v j
  there j = at_place words i v j within (own-item words i d within)

  pub empty_next : ((j : ℕ) → has (get_or words i d) j ≡ false) → AreFilled words (i + 1) ws
  empty_next none = record {
    once = h.once;
    above = λ k less. h.above k (omega (arith, less));
    same = λ n less. by n less (cases_eq (n / 64) i);
  }
    where
      by : (n : ℕ) → n / 64 < i + 1 → (n / 64 ≡ i) ⊎ (n / 64 ≡ i → ⊥) → any_pass (word_has n) ws ≡ has_at words (n / 64) (n % 64)
      by n less (inl e) = no-word n ws (h.above (n / 64) (omega (arith, e))) ∙ sym (ap (λ k. has_at words k (n % 64)) e ∙ (there (n % 64) ∙ none (n % 64)))
      by n less (inr apart) = h.same n (omega (arith, less, apart))

  pub filled_next : (vs : List WordAt) → vs ≡ ws ++ record { at = i; set = get_or words i d } ∷ [] → AreFilled words (i + 1) vs
  filled_next vs e = record {
    once = pushed-once ws vs w e h.once (h.above i (omega arith));
    above = λ k less. ap (λ us. any_pass (nat_eq k) (places_of us)) e ∙ (ap (any_pass (nat_eq k)) (places-append ws w) ∙ (any-append (nat_eq k) (places_of ws) i
        ∙ ap₂ ◌||◌ (h.above k (omega (arith, less))) (not-equal k i (λ same. omega (arith, less, same)))));
    same = λ n less. ap (any_pass (word_has n)) e ∙ (any-append (word_has n) ws w ∙ by n less (cases_eq (n / 64) i));
  }
    where
      by : (n : ℕ) → n / 64 < i + 1 → (n / 64 ≡ i) ⊎ (n / 64 ≡ i → ⊥) → (any_pass (word_has n) ws || word_has n w) ≡ has_at words (n / 64) (n % 64)
      by n less (inl f) =
          ap₂ (λ a b. a || (b && has v (n % 64))) (no-word n ws (h.above (n / 64) (omega (arith, f)))) (eq-eqb (n / 64) i f)
          ∙ sym (ap (λ k. has_at words k (n % 64)) f ∙ there (n % 64))
      by n less (inr apart) =
          ap (λ b. any_pass (word_has n) ws || (b && has v (n % 64))) (not-equal (n / 64) i apart)
          ∙ (or_false (any_pass (word_has n) ws) ∙ h.same n (omega (arith, less, apart)))

pub all_filled : (words : List FactSet) (i : ℕ) (ws : List WordAt) → AreFilled words i ws → length words ≤ i → (n : ℕ) → any_pass (word_has n) ws ≡ has_at words (n / 64) (n % 64)
all_filled words i ws h whole n = by (cases_lt (n / 64) i)
  where
    by : (n / 64 < i) ⊎ (i ≤ n / 64) → any_pass (word_has n) ws ≡ has_at words (n / 64) (n % 64)
    by (inl less) = h.same n less
    by (inr above) = no-word n ws (h.above (n / 64) above) ∙ sym (past words (n / 64) (n % 64) (omega (arith, whole, above)))
