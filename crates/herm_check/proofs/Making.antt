-- Lists that are made one element after another, and the facts of a list that pass a test.
use Rattle.std.proofs.Common.{◌≡◌, ◌⊎◌, inl, inr, ℕ, zero, suc, ◌+◌, ◌<◌, ◌≤◌, List, [], ◌∷◌, ◌++◌, map, length, get_or, Bool, true, false, Some, slice_get, nat_eq, nat_lt, ◌&&◌, ◌||◌, refl, sym, ◌∙◌, ap, subst, arith, length-append}
use Rattle.std.proofs.lemmas.Bool.{eqb-true, eq-eqb, lt-ltb, ltb-true, cases_eq}
use Rattle.std.proofs.lemmas.Option.{slice_get_within}
use Rattle.herm_model.specs.Paths.{Fact}
use Rattle.herm_facts.specs.declared.fact_set.FactSet.{FactSet}
use Rattle.herm_facts.specs.FactSets.{has}
use Rattle.herm_facts.proofs.FactSets.{one-more}
use Rattle.herm_check.proofs.Searched.{one-at}
use Rattle.herm_check.proofs.Following.{old-or-last}

-- an element as it is seen
pub at-seen : {X Y : Type 0} (view : X → Y) (xs : List X) (i : ℕ) (x : X) → i < length xs → x ≡ get_or xs i x → slice_get (map view xs) i ≡ Some (view x)
at-seen view [] i x below is = absurd (omega (arith, below))
at-seen view (y ∷ xs) zero x below is = ap (λ z. Some (view z)) (sym is)
at-seen view (y ∷ xs) (suc i) x below is = at-seen view xs i x (omega (arith, below)) is

-- there are so many elements, and each is as it is to be at what stands at its place
abbrev pub AreEach : {Q X : Type 0} → (Q → X → Type 0) → List Q → List X → ℕ → Type 0
AreEach P qs xs n = (length xs ≡ n) × ((i : ℕ) (q : _) (x : _) → slice_get qs i ≡ Some q → slice_get xs i ≡ Some x → P q x)

pub each-more : {Q X : Type 0} (P : Q → X → Type 0) (qs : List Q) (xs ys : List X) (n : ℕ) (q : Q) (x : X) → AreEach P qs xs n → slice_get qs n ≡ Some q → P q x → ys ≡ xs ++ x ∷ [] → AreEach P qs ys (n + 1)
each-more {Q = Q} {X = X} P qs xs ys n q x so_far here new are =
    (omega (arith, ap length are, length-append xs (x ∷ []), so_far.0), λ i r y there at. by i r y there (old-or-last xs x i y (subst (λ zs. slice_get zs i ≡ Some y) are at)))
  where
    by : (i : ℕ) (r : Q) (y : X) → slice_get qs i ≡ Some r → (slice_get xs i ≡ Some y) ⊎ ((i ≡ length xs) × (y ≡ x)) → P r y
    by i r y there (inl old) = so_far.1 i r y there old
    by i r y there (inr last) =
        let same : q ≡ r = one-at (slice_get qs n) q r here (subst (λ k. slice_get qs k ≡ Some r) (last.0 ∙ so_far.0) there) in
        subst (P r) (sym last.1) (subst (λ z. P z x) same new)

-- Of the facts of a list those before a place that pass a test, by their numbers.
abbrev pub ArePicked : (Fact → Bool) → List Fact → ℕ → FactSet → Type 0
ArePicked test facts n s = (j : ℕ) (f : Fact) → slice_get facts j ≡ Some f → has s j ≡ (nat_lt j n && test f)

module _ (test : Fact → Bool) (facts : List Fact) where
  pub picked-none : (s : FactSet) → ((j : ℕ) → has s j ≡ false) → ArePicked test facts 0 s
  picked-none s none j f at = none j ∙ sym (before j)
    where
      before : (k : ℕ) → (nat_lt k 0 && test f) ≡ false
      before k = by (nat_lt k 0) refl
        where
          by : (b : Bool) → nat_lt k 0 ≡ b → (b && test f) ≡ false
          by true e = absurd (omega (arith, ltb-true k 0 e))
          by false e = refl

  module _ (n : ℕ) (s : FactSet) (g : Fact) (so_far : ArePicked test facts n s) (here : slice_get facts n ≡ Some g) where
    unequal : (j : ℕ) → (j ≡ n → ⊥) → nat_eq j n ≡ false
    unequal j other = by (nat_eq j n) refl
      where
        by : (b : Bool) → nat_eq j n ≡ b → b ≡ false
        by true e = absurd (other (eqb-true j n e))
        by false e = refl

    apart : (j : ℕ) → (j ≡ n → ⊥) → nat_lt j n ≡ nat_lt j (n + 1)
    apart j other = ap (λ b. b || nat_lt j n) (sym (unequal j other)) ∙ one-more j n

    pub picked-one : (t : FactSet) → ((j : ℕ) → has t j ≡ (nat_eq j n || has s j)) → test g ≡ true → ArePicked test facts (n + 1) t
    picked-one t more passes j f at = more j ∙ by (cases_eq j n)
      where
        by : (j ≡ n) ⊎ (j ≡ n → ⊥) → (nat_eq j n || has s j) ≡ (nat_lt j (n + 1) && test f)
        by (inl same) =
            let fact : g ≡ f = one-at (slice_get facts n) g f here (subst (λ k. slice_get facts k ≡ Some f) same at) in
            let within : j < n + 1 = omega (arith, same) in
            ap (λ b. b || has s j) (eq-eqb j n same) ∙ sym (ap (λ b. b && test f) (lt-ltb j (n + 1) within) ∙ (ap test (sym fact) ∙ passes))
        by (inr other) = ap (λ b. b || has s j) (unequal j other) ∙ (so_far j f at ∙ ap (λ b. b && test f) (apart j other))

    pub picked-not : test g ≡ false → ArePicked test facts (n + 1) s
    picked-not fails j f at = so_far j f at ∙ by (cases_eq j n)
      where
        neither : (b : Bool) → (b && false) ≡ false
        neither true = refl
        neither false = refl

        by : (j ≡ n) ⊎ (j ≡ n → ⊥) → (nat_lt j n && test f) ≡ (nat_lt j (n + 1) && test f)
        by (inl same) =
            let fact : g ≡ f = one-at (slice_get facts n) g f here (subst (λ k. slice_get facts k ≡ Some f) same at) in
            let none : test f ≡ false = ap test (sym fact) ∙ fails in
            ap (λ b. nat_lt j n && b) none ∙ (neither (nat_lt j n) ∙ sym (ap (λ b. nat_lt j (n + 1) && b) none ∙ neither (nat_lt j (n + 1))))
        by (inr other) = ap (λ b. b && test f) (apart j other)

  pub picked-all : (n : ℕ) (s : FactSet) → ArePicked test facts n s → length facts ≤ n → (j : ℕ) (f : Fact) → slice_get facts j ≡ Some f → has s j ≡ test f
  picked-all n s picked all j f at =
      let within : j < n = omega (arith, slice_get_within facts j f at, all) in
      picked j f at ∙ ap (λ b. b && test f) (lt-ltb j n within)
