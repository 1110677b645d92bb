-- Two lists in order by a number are the same, where the elements of each number are.
use Rattle.std.proofs.Common.{◌≡◌, ℕ, zero, suc, ◌<◌, ◌≤◌, Bool, true, false, List, [], ◌∷◌, length, get_or, filter, nat_cmp, is_lt, refl, sym, ap, subst, ◌∙◌, arith, inl, inr, suc-le-suc, zero-le}
use Rattle.std.proofs.lemmas.Bool.{cond-true, cond-false, cases_Bool}
use Rattle.std.proofs.lemmas.Bool.Decides.{nat_tests}
use Rattle.std.specs.List.Sorted.{ties, IsNonDecreasingBy}

filter-kept : {X : Type 0} (p : X → Bool) (y : X) (ys : List X) → p y ≡ true → filter p (y ∷ ys) ≡ y ∷ filter p ys
filter-kept p y ys h = cond-true _ _ _ h

filter-dropped : {X : Type 0} (p : X → Bool) (y : X) (ys : List X) → p y ≡ false → filter p (y ∷ ys) ≡ filter p ys
filter-dropped p y ys h = cond-false _ _ _ h

-- one test and then another is the other and then the one
pub filters-swap : {X : Type 0} (p q : X → Bool) (xs : List X) → filter p (filter q xs) ≡ filter q (filter p xs)
filters-swap p q [] = refl
filters-swap p q (x ∷ xs) =
    elim (cases_Bool (p x)) [
      | inl yes_p ↦
          elim (cases_Bool (q x)) [
            | inl yes_q ↦
                ap (filter p) (filter-kept q x xs yes_q) ∙ filter-kept p x (filter q xs) yes_p ∙ ap (λ l. x ∷ l) (filters-swap p q xs)
                ∙ sym (ap (filter q) (filter-kept p x xs yes_p) ∙ filter-kept q x (filter p xs) yes_q)
            | inr no_q ↦
                ap (filter p) (filter-dropped q x xs no_q) ∙ filters-swap p q xs ∙ sym (ap (filter q) (filter-kept p x xs yes_p) ∙ filter-dropped q x (filter p xs) no_q)
          ]
      | inr no_p ↦
          elim (cases_Bool (q x)) [
            | inl yes_q ↦
                ap (filter p) (filter-kept q x xs yes_q) ∙ filter-dropped p x (filter q xs) no_p ∙ filters-swap p q xs ∙ sym (ap (filter q) (filter-dropped p x xs no_p))
            | inr no_q ↦
                ap (filter p) (filter-dropped q x xs no_q) ∙ filters-swap p q xs ∙ sym (ap (filter q) (filter-dropped p x xs no_p))
          ]
    ]

ties_at : (m n : ℕ) → (ties (λ x y. is_lt (nat_cmp x y)) m n ≡ true → m ≡ n) × (m ≡ n → ties (λ x y. is_lt (nat_cmp x y)) m n ≡ true)
ties_at m n = (λ h. grind (arith, nat_tests), λ h. grind (arith, nat_tests))

module _ {X : Type 0} (key : X → ℕ) where
  abbrev pub same_class : X → X → Bool
  same_class = ties (λ x y. is_lt (nat_cmp (key x) (key y)))

  pub same_class-true : (x y : X) → same_class x y ≡ true → key x ≡ key y
  same_class-true x y = (ties_at (key x) (key y)).0

  same_class_from : (x y : X) → key x ≡ key y → same_class x y ≡ true
  same_class_from x y = (ties_at (key x) (key y)).1

  abbrev pub AreAtLeast : ℕ → List X → Type 0
  AreAtLeast n [] = Unit {0}
  AreAtLeast n (y ∷ ys) = (n ≤ key y) × AreAtLeast n ys

  -- each is at most those behind it
  abbrev pub Rises : List X → Type 0
  Rises [] = Unit {0}
  Rises (y ∷ ys) = AreAtLeast (key y) ys × Rises ys

  AreAtLeast-at : (n : ℕ) (ys : List X) → ((j : ℕ) (d : X) → j < length ys → n ≤ key (get_or ys j d)) → AreAtLeast n ys
  AreAtLeast-at n [] h = tt
  AreAtLeast-at n (y ∷ ys) h = (h zero y (suc-le-suc zero-le), AreAtLeast-at n ys (λ j d lt. h (suc j) d (suc-le-suc lt)))

  pub rises_from_sort : (ys : List X) → IsNonDecreasingBy key ys → Rises ys
  rises_from_sort [] h = tt
  rises_from_sort (y ∷ ys) h = (
    AreAtLeast-at (key y) ys (λ j d lt. h zero (suc j) d zero-le (suc-le-suc lt)),
    rises_from_sort ys (λ i j d le lt. h (suc i) (suc j) d (suc-le-suc le) (suc-le-suc lt)),
  )

  AreAtLeast-kept : (test : X → Bool) (n : ℕ) (ys : List X) → AreAtLeast n ys → AreAtLeast n (filter test ys)
  AreAtLeast-kept test n [] h = tt
  AreAtLeast-kept test n (y ∷ ys) h =
      elim (cases_Bool (test y)) [
        | inl with ↦ subst (AreAtLeast n) (sym (filter-kept test y ys with)) (h.0, AreAtLeast-kept test n ys h.1)
        | inr without ↦ subst (AreAtLeast n) (sym (filter-dropped test y ys without)) (AreAtLeast-kept test n ys h.1)
      ]

  pub rises_kept : (test : X → Bool) (ys : List X) → Rises ys → Rises (filter test ys)
  rises_kept test [] h = tt
  rises_kept test (y ∷ ys) h =
      elim (cases_Bool (test y)) [
        | inl with ↦ subst Rises (sym (filter-kept test y ys with)) (AreAtLeast-kept test (key y) ys h.0, rises_kept test ys h.1)
        | inr without ↦ subst Rises (sym (filter-dropped test y ys without)) (rises_kept test ys h.1)
      ]

  -- the class of x occurs among them
  AreAtLeast-found : (n : ℕ) (x : X) (ys : List X) (w : X) (ws : List X) → AreAtLeast n ys → filter (same_class x) ys ≡ w ∷ ws → n ≤ key x
  AreAtLeast-found n x [] w ws h e = cc
  AreAtLeast-found n x (y ∷ ys) w ws h e =
      elim (cases_Bool (same_class x y)) [
        | inl with ↦ omega (arith, h.0, same_class-true x y with)
        | inr without ↦ AreAtLeast-found n x ys w ws h.1 (sym (filter-dropped (same_class x) y ys without) ∙ e)
      ]

  pub same_from_classes : (ys zs : List X) → Rises ys → Rises zs → ((x : X) → filter (same_class x) ys ≡ filter (same_class x) zs) → ys ≡ zs
  same_from_classes [] [] left right same = refl
  same_from_classes [] (z ∷ zs) left right same =
      let clash = same z ∙ filter-kept (same_class z) z zs (same_class_from z z refl) in cc
  same_from_classes (y ∷ ys) [] left right same =
      let clash = sym (same y) ∙ filter-kept (same_class y) y ys (same_class_from y y refl) in cc
  same_from_classes (y ∷ ys) (z ∷ zs) left right same =
      let at_y = filter-kept (same_class y) y ys (same_class_from y y refl) in
      let at_z = filter-kept (same_class z) z zs (same_class_from z z refl) in
      let least_z : AreAtLeast (key z) (z ∷ zs) = (omega arith, right.0) in
      let least_y : AreAtLeast (key y) (y ∷ ys) = (omega arith, left.0) in
      let up = AreAtLeast-found (key z) y (z ∷ zs) y _ least_z (sym (same y) ∙ at_y) in
      let down = AreAtLeast-found (key y) z (y ∷ ys) z _ least_y (same z ∙ at_z) in
      let heads = sym at_y ∙ same y ∙ filter-kept (same_class y) z zs (same_class_from y z (omega arith)) in
      let head : y ≡ z = cc in
      let tails : (x : X) → filter (same_class x) ys ≡ filter (same_class x) zs =
      λ x. elim (cases_Bool (same_class x y)) [
        | inl with ↦
            let both = sym (filter-kept (same_class x) y ys with) ∙ same x ∙ filter-kept (same_class x) z zs (ap (same_class x) (sym head) ∙ with) in cc
        | inr without ↦
            sym (filter-dropped (same_class x) y ys without) ∙ same x ∙ filter-dropped (same_class x) z zs (ap (same_class x) (sym head) ∙ without)
      ] in
      ap (λ w. w ∷ ys) head ∙ ap (λ l. z ∷ l) (same_from_classes ys zs left.1 right.1 tails)
