-- Sets of numbers, as sets of facts.
use Rattle.std.proofs.Common.{◌≡◌, inl, inr, ℕ, ◌+◌, ◌<◌, List, [], ◌∷◌, length, take, get_or, Bool, true, false, cond, not, ◌&&◌, ◌||◌, Option, Some, None, nat_eq, nat_lt, refl, sym, ◌∙◌, ap, subst, arith, true≢false}
use Rattle.std.proofs.lemmas.Bool.{eqb-true, eqb-false, eq-eqb, lt-ltb, ltb-true}
use Rattle.std.proofs.lemmas.List.{take_more}
use Rattle.herm_model.specs.Lists.{IsIn, any_pass, map_or}
use Rattle.herm_model.specs.Paths.{Fact, Path, path_of, same_fact, is_at_or_below}
use Rattle.herm_model.proofs.Equality.{same_fact-is, same_fact_self}
use Rattle.herm_facts.specs.declared.fact_numbers.FactNumbers.{FactNumbers}
use Rattle.herm_facts.specs.declared.number_set.NumberSet.{NumberSet}
use Rattle.herm_facts.specs.FactNumbers.{number_of, AreApart}
use Rattle.herm_facts.specs.NumberSets.{has_number}
use Rattle.herm_facts.proofs.FactSets.{one-more}
use Rattle.herm_check.proofs.Carried.{any-append}
use Rattle.herm_check.specs.Numberings.{in_set, AreOfFacts}

-- a set without numbers
pub none-in : (ns : FactNumbers) (set : NumberSet) → ((n : ℕ) → has_number set n ≡ false) → (f : Fact) → in_set ns set f ≡ false
none-in ns set none f = by (number_of ns f)
  where
    by : (o : Option ℕ) → map_or false (has_number set) o ≡ false
    by None = refl
    by (Some n) = none n

-- what numbers say of three sets is so of facts
pub in-joined : (ns : FactNumbers) (new old after : NumberSet) (r : Bool) → ((n : ℕ) → has_number new n ≡ cond r (has_number old n && has_number after n) (has_number after n)) → (f : Fact) → in_set ns new f ≡ cond r (in_set ns old f && in_set ns after f) (in_set ns after f)
in-joined ns new old after r is f = by (number_of ns f)
  where
    neither : (b : Bool) → false ≡ cond b (false && false) false
    neither true = refl
    neither false = refl

    by : (o : Option ℕ) → map_or false (has_number new) o ≡ cond r (map_or false (has_number old) o && map_or false (has_number after) o) (map_or false (has_number after) o)
    by None = neither r
    by (Some n) = is n

pub in-same : (ns : FactNumbers) (new old : NumberSet) → ((n : ℕ) → has_number new n ≡ has_number old n) → (f : Fact) → in_set ns new f ≡ in_set ns old f
in-same ns new old is f = by (number_of ns f)
  where
    by : (o : Option ℕ) → map_or false (has_number new) o ≡ map_or false (has_number old) o
    by None = refl
    by (Some n) = is n

pub in-fewer : (ns : FactNumbers) (new old : NumberSet) → ((n : ℕ) → has_number new n ≡ true → has_number old n ≡ true) → (f : Fact) → in_set ns new f ≡ true → in_set ns old f ≡ true
in-fewer ns new old is f h = by (number_of ns f) h
  where
    by : (o : Option ℕ) → map_or false (has_number new) o ≡ true → map_or false (has_number old) o ≡ true
    by None k = k
    by (Some n) k = is n k

-- the fact with a number is in a set where its number is
pub in-by : (ns : FactNumbers) (set : NumberSet) (f : Fact) (n : ℕ) (b : Bool) → number_of ns f ≡ Some n → has_number set n ≡ b → in_set ns set f ≡ b
in-by ns set f n b at is = ap (map_or false (has_number set)) at ∙ is

some-same : (m n : ℕ) → Some m ≡ Some n → m ≡ n
some-same m n e = cc

-- a number is a fact's where the fact is the one that has it
pub same-number : (ns : FactNumbers) → AreApart ns → (f g : Fact) (n : ℕ) → number_of ns g ≡ Some n → (o : Option ℕ) → number_of ns f ≡ o → map_or false (λ k. nat_eq k n) o ≡ same_fact f g
same-number ns apart f g n at None missing = sym (by (same_fact f g) refl)
  where
    by : (b : Bool) → same_fact f g ≡ b → b ≡ false
    by true e = absurd (let k : None ≡ Some n = sym missing ∙ (ap (number_of ns) (same_fact-is f g e) ∙ at) in let z : ⊥ = cc in z)
    by false e = refl
same-number ns apart f g n at (Some k) is = by (nat_eq k n) refl
  where
    other : (b : Bool) → (k ≡ n → ⊥) → same_fact f g ≡ b → false ≡ b
    other true differ e = absurd (differ (some-same k n (sym is ∙ (ap (number_of ns) (same_fact-is f g e) ∙ at))))
    other false differ e = refl

    by : (b : Bool) → nat_eq k n ≡ b → b ≡ same_fact f g
    by true e = sym (subst (λ h. same_fact f h ≡ true) (apart f g n (is ∙ ap Some (eqb-true k n e)) at) (same_fact_self f))
    by false e = other (same_fact f g) (eqb-false k n e) refl

module _ (ns : FactNumbers) (apart : AreApart ns) where
  -- one number more is one fact more
  module _ (g : Fact) (n : ℕ) (at : number_of ns g ≡ Some n) (old new : NumberSet) (more : (k : ℕ) → has_number new k ≡ (nat_eq k n || has_number old k)) where
    pub held-one : (f : Fact) → in_set ns new f ≡ (same_fact f g || in_set ns old f)
    held-one f = joined (number_of ns f) ∙ ap (λ b. b || in_set ns old f) (same-number ns apart f g n at (number_of ns f) refl)
      where
        joined : (o : Option ℕ) → map_or false (has_number new) o ≡ (map_or false (λ k. nat_eq k n) o || map_or false (has_number old) o)
        joined None = refl
        joined (Some k) = more k

    pub known-one : AreOfFacts ns old → AreOfFacts ns new
    known-one known k h = by (nat_eq k n) refl (sym (more k) ∙ h)
      where
        by : (b : Bool) → nat_eq k n ≡ b → (b || has_number old k) ≡ true → (f : Fact) × (number_of ns f ≡ Some k)
        by true e _ = (g, at ∙ ap Some (sym (eqb-true k n e)))
        by false e m = known k m

  -- the numbers of the facts at a path and below are taken: so are these facts
  module _ (p : Path) (out : List ℕ) (listed : (k : ℕ) (f : Fact) → number_of ns f ≡ Some k → is_at_or_below p (path_of f) ≡ true → any_pass (nat_eq k) out ≡ true)
      (below : (k : ℕ) → any_pass (nat_eq k) out ≡ true → (f : Fact) × (number_of ns f ≡ Some k) × (is_at_or_below p (path_of f) ≡ true))
      (old new : NumberSet) (removed : (k : ℕ) → has_number new k ≡ (not (any_pass (nat_eq k) out) && has_number old k)) where
    same-below : (f : Fact) (k : ℕ) → number_of ns f ≡ Some k → any_pass (nat_eq k) out ≡ is_at_or_below p (path_of f)
    same-below f k at = by (any_pass (nat_eq k) out) (is_at_or_below p (path_of f)) refl refl
      where
        by : (a b : Bool) → any_pass (nat_eq k) out ≡ a → is_at_or_below p (path_of f) ≡ b → a ≡ b
        by true true e h = refl
        by false false e h = refl
        by false true e h = absurd (true≢false (sym (listed k f at h) ∙ e))
        by true false e h =
            let g = below k e in
            absurd (true≢false (sym g.2 ∙ (ap (λ x. is_at_or_below p (path_of x)) (apart g.0 f k g.1 at) ∙ h)))

    pub lost-below : (f : Fact) → in_set ns new f ≡ (not (is_at_or_below p (path_of f)) && in_set ns old f)
    lost-below f = by (number_of ns f) refl
      where
        neither : (b : Bool) → false ≡ (not b && false)
        neither true = refl
        neither false = refl

        by : (o : Option ℕ) → number_of ns f ≡ o → map_or false (has_number new) o ≡ (not (is_at_or_below p (path_of f)) && map_or false (has_number old) o)
        by None e = neither (is_at_or_below p (path_of f))
        by (Some k) e = removed k ∙ ap (λ b. not b && has_number old k) (same-below f k e)

    pub fewer-below : (k : ℕ) → has_number new k ≡ true → has_number old k ≡ true
    fewer-below k h = second (not (any_pass (nat_eq k) out)) (has_number old k) (sym (removed k) ∙ h)
      where
        second : (a b : Bool) → (a && b) ≡ true → b ≡ true
        second true b e = e
        second false b e = absurd (true≢false (sym e))

-- what joins a label has the numbers of facts alone
pub known-joined : (ns : FactNumbers) (new old after : NumberSet) (r : Bool) → ((n : ℕ) → has_number new n ≡ cond r (has_number old n && has_number after n) (has_number after n)) → AreOfFacts ns after → AreOfFacts ns new
known-joined ns new old after r is known n h = known n (by r (sym (is n) ∙ h))
  where
    second : (a b : Bool) → (a && b) ≡ true → b ≡ true
    second true b e = e
    second false b e = absurd (true≢false (sym e))

    by : (b : Bool) → cond b (has_number old n && has_number after n) (has_number after n) ≡ true → has_number after n ≡ true
    by true e = second (has_number old n) (has_number after n) e
    by false e = e

-- the facts of a set, as far as their numbers are below a bound
pub below-bound : (ns : FactNumbers) → AreApart ns → (set : NumberSet) (f g : Fact) (n : ℕ) → number_of ns g ≡ Some n → (new : Bool) → new ≡ ((has_number set n && same_fact f g) || map_or false (λ k. nat_lt k n && has_number set k) (number_of ns f))
    → new ≡ map_or false (λ k. nat_lt k (n + 1) && has_number set k) (number_of ns f)
below-bound ns apart set f g n at new is = is ∙ by (number_of ns f) (same-number ns apart f g n at (number_of ns f) refl)
  where
    neither : (b : Bool) → ((b && false) || false) ≡ false
    neither true = refl
    neither false = refl

    none : (a b : Bool) → ((a && false) || b) ≡ b
    none true b = refl
    none false b = refl

    either : (a b : Bool) → ((a && true) || (b && a)) ≡ a
    either true b = refl
    either false true = refl
    either false false = refl

    some : (k : ℕ) (b : Bool) → nat_eq k n ≡ b → ((has_number set n && b) || (nat_lt k n && has_number set k)) ≡ (nat_lt k (n + 1) && has_number set k)
    some k true e =
        ap (λ x. (has_number set n && true) || (nat_lt k n && x)) (ap (has_number set) (eqb-true k n e))
        ∙ (either (has_number set n) (nat_lt k n)
        ∙ (ap (has_number set) (sym (eqb-true k n e)) ∙ sym (ap (λ x. x && has_number set k) (sym (one-more k n) ∙ ap (λ x. x || nat_lt k n) e))))
    some k false e = none (has_number set n) (nat_lt k n && has_number set k) ∙ ap (λ x. x && has_number set k) (sym (ap (λ x. x || nat_lt k n) e) ∙ one-more k n)

    by : (o : Option ℕ) → map_or false (λ k. nat_eq k n) o ≡ same_fact f g → ((has_number set n && same_fact f g) || map_or false (λ k. nat_lt k n && has_number set k) o) ≡ map_or false (λ k. nat_lt k (n + 1) && has_number set k) o
    by None e = ap (λ x. (has_number set n && x) || false) (sym e) ∙ neither (has_number set n)
    by (Some k) e = ap (λ x. (has_number set n && x) || (nat_lt k n && has_number set k)) (sym e) ∙ some k (nat_eq k n) refl

pub all-bound : (ns : FactNumbers) (set : NumberSet) (f : Fact) (n : ℕ) → ((k : ℕ) → number_of ns f ≡ Some k → k < n) → map_or false (λ k. nat_lt k n && has_number set k) (number_of ns f) ≡ in_set ns set f
all-bound ns set f n few = by (number_of ns f) refl
  where
    by : (o : Option ℕ) → number_of ns f ≡ o → map_or false (λ k. nat_lt k n && has_number set k) o ≡ map_or false (has_number set) o
    by None e = refl
    by (Some k) e = ap (λ b. b && has_number set k) (lt-ltb k n (few k e))

pub no-bound : (ns : FactNumbers) (set : NumberSet) (f : Fact) → map_or false (λ k. nat_lt k 0 && has_number set k) (number_of ns f) ≡ false
no-bound ns set f = by (number_of ns f)
  where
    below : (k : ℕ) (b : Bool) → nat_lt k 0 ≡ b → (b && has_number set k) ≡ false
    below k true e = absurd (omega (arith, ltb-true k 0 e))
    below k false e = refl

    by : (o : Option ℕ) → map_or false (λ k. nat_lt k 0 && has_number set k) o ≡ false
    by None = refl
    by (Some k) = below k (nat_lt k 0) refl

-- membership as a test
pub in-any : (n : ℕ) (xs : List ℕ) → IsIn n xs → any_pass (nat_eq n) xs ≡ true
in-any n [] h = absurd h
in-any n (x ∷ xs) (inl e) = ap (λ b. b || any_pass (nat_eq n) xs) (eq-eqb n x e)
in-any n (x ∷ xs) (inr h) = ap (λ b. nat_eq n x || b) (in-any n xs h) ∙ or_true (nat_eq n x)
  where
    or_true : (b : Bool) → (b || true) ≡ true
    or_true true = refl
    or_true false = refl

pub any-in : (n : ℕ) (xs : List ℕ) → any_pass (nat_eq n) xs ≡ true → IsIn n xs
any-in n [] h = absurd (true≢false (sym h))
any-in n (x ∷ xs) h = by (nat_eq n x) refl h (any-in n xs)
  where
    by : (b : Bool) → nat_eq n x ≡ b → (b || any_pass (nat_eq n) xs) ≡ true → (any_pass (nat_eq n) xs ≡ true → IsIn n xs) → IsIn n (x ∷ xs)
    by true e k again = inl (eqb-true n x e)
    by false e k again = inr (again k)

-- one number taken more
pub removed-more : (xs : List ℕ) (i x n : ℕ) (old : Bool) → i < length xs → x ≡ get_or xs i x → (not (nat_eq n x) && (not (any_pass (nat_eq n) (take i xs)) && old)) ≡ (not (any_pass (nat_eq n) (take (i + 1) xs)) && old)
removed-more xs i x n old within is =
    both (nat_eq n x) (any_pass (nat_eq n) (take i xs))
    ∙ ap (λ b. not b && old) (sym (ap (any_pass (nat_eq n)) (take_more xs i x within) ∙ (any-append (nat_eq n) (take i xs) (get_or xs i x) ∙ ap (λ y. any_pass (nat_eq n) (take i xs) || nat_eq n y) (sym is))))
  where
    both : (a b : Bool) → (not a && (not b && old)) ≡ (not (b || a) && old)
    both true true = refl
    both true false = refl
    both false true = refl
    both false false = refl
