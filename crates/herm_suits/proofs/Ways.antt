-- Paths that begin with others, and what stands on the way to listed facts.
use Rattle.std.proofs.Common.{◌≡◌, ◌<◌, ℕ, zero, suc, ◌+◌, List, [], ◌∷◌, ◌++◌, Bool, true, false, cond, ◌&&◌, ◌⊎◌, inl, inr, Some, length, take, nat_eq, IsTrue, refl, sym, ap, subst, ◌∙◌, arith, append_assoc}
use Rattle.std.proofs.lemmas.Bool.Decides.{nat_tests}
use Rattle.herm_model.specs.Lists.{IsIn, any_pass}
use Rattle.herm_model.specs.Paths.{Fact, is_at_or_below}
use Rattle.herm_model.specs.Values.{Cell, cell, Parts, no_parts, gap, part, opens, inside, has_value}
use Rattle.herm_model.proofs.Lists.{not_true, and-both, both-and, or-either, or-left, or-right}
use Rattle.herm_model.proofs.NothingThere.{nothing-there}
use Rattle.herm_suits.specs.Exact.{is_on_way, is_within, are_within}

-- a path that begins with these parts and this step is longer, and begins with them
pub way-longer : (p : List ℕ) (s : ℕ) (w : List ℕ) → is_at_or_below (p ++ s ∷ []) w ≡ true → length p < length w
way-longer [] s [] h = cc
way-longer [] s (j ∷ w) h = omega arith
way-longer (i ∷ p) s [] h = cc
way-longer (i ∷ p) s (j ∷ w) h = omega (arith, way-longer p s w (and-both (nat_eq i j) (is_at_or_below (p ++ s ∷ []) w) h).1)

same-number : (i j : ℕ) → IsTrue (nat_eq i j) → j ≡ i
same-number i j h = grind (arith, nat_tests)

pub way-begins : (p : List ℕ) (s : ℕ) (w : List ℕ) → is_at_or_below (p ++ s ∷ []) w ≡ true → take (length p + 1) w ≡ p ++ s ∷ []
way-begins [] s [] h = cc
way-begins [] s (j ∷ w) h = ap (λ n. n ∷ []) (same-number s j (and-both (nat_eq s j) true h).0)
way-begins (i ∷ p) s [] h = cc
way-begins (i ∷ p) s (j ∷ w) h =
    let b = and-both (nat_eq i j) (is_at_or_below (p ++ s ∷ []) w) h in
    let e : suc (length p) + 1 ≡ suc (length p + 1) = omega arith in
    ap (λ n. take n (j ∷ w)) e ∙ ap (λ n. n ∷ take (length p + 1) w) (same-number i j b.0) ∙ ap (i ∷◌) (way-begins p s w b.1)

one-longer : (p : List ℕ) (s : ℕ) → length (p ++ s ∷ []) ≡ length p + 1
one-longer [] s = refl
one-longer (i ∷ p) s = omega (arith, one-longer p s)

pub way-bounds : (p : List ℕ) (s : ℕ) (w : List ℕ) → is_at_or_below (p ++ s ∷ []) w ≡ true → length p + 1 ≡ length (take (length p + 1) w)
way-bounds p s w h = sym (ap length (way-begins p s w h) ∙ one-longer p s)

pub ruleset ways = (way-longer, way-begins, way-bounds)

-- a test that some element passes
pub any-in : {X : Type 0} (test : X → Bool) (xs : List X) → IsTrue (any_pass test xs) → (x : X) × IsIn x xs × IsTrue (test x)
any-in test [] h = not_true h
any-in {X} test (y ∷ ys) h = by (or-either (test y) (any_pass test ys) h) (any-in test ys)
  where
    by : IsTrue (test y) ⊎ IsTrue (any_pass test ys) → (IsTrue (any_pass test ys) → (x : X) × IsIn x ys × IsTrue (test x)) → (x : X) × IsIn x (y ∷ ys) × IsTrue (test x)
    by (inl a) f = (y, inl refl, a)
    by (inr b) f = let r = f b in (r.0, inr r.1, r.2)

pub in-any : {X : Type 0} (test : X → Bool) (x : X) (xs : List X) → IsIn x xs → IsTrue (test x) → IsTrue (any_pass test xs)
in-any test x [] i h = absurd i
in-any test x (y ∷ ys) (inl e) h = or-left (test y) (any_pass test ys) (subst (λ z. IsTrue (test z)) e h)
in-any test x (y ∷ ys) (inr i) h = or-right (test y) (any_pass test ys) (in-any test x ys i h)

module _ (facts : List Fact) where
  abbrev On : List ℕ → Type 0
  On p = IsTrue (is_on_way facts p)

  one-on : (p : List ℕ) (i k : ℕ) (q : List ℕ) → On (p ++ (i + suc k) ∷ q) → On (p ++ (suc i + k) ∷ q)
  one-on p i k q h = let e : i + suc k ≡ suc i + k = omega arith in subst (λ n. On (p ++ n ∷ q)) e h

  on-one : (p : List ℕ) (i k : ℕ) (q : List ℕ) → On (p ++ (suc i + k) ∷ q) → On (p ++ (i + suc k) ∷ q)
  on-one p i k q h = let e : suc i + k ≡ i + suc k = omega arith in subst (λ n. On (p ++ n ∷ q)) e h

  at-zero : (p : List ℕ) (k : ℕ) (q : List ℕ) → On (p ++ (0 + k) ∷ q) → On (p ++ k ∷ q)
  at-zero p k q h = let e : 0 + k ≡ k = omega arith in subst (λ n. On (p ++ n ∷ q)) e h

module _ {N : Type 0} where
  behind-gap : (ps : Parts N) (i : ℕ) (q : List ℕ) → has_value (gap ps) (suc i ∷ q) ≡ has_value ps (i ∷ q)
  behind-gap ps i [] = refl
  behind-gap ps i (j ∷ q) = refl

  behind-part : (c : Cell N) (ps : Parts N) (i : ℕ) (q : List ℕ) → has_value (part c ps) (suc i ∷ q) ≡ has_value ps (i ∷ q)
  behind-part c ps i [] = refl
  behind-part c ps i (j ∷ q) = refl

  at-gap : {A : Type 0} (ps : Parts N) (q : List ℕ) → IsTrue (has_value (gap ps) (0 ∷ q)) → A
  at-gap ps [] h = not_true h
  at-gap ps (j ∷ q) h = not_true (sym (nothing-there N (j ∷ q)) ∙ h)

  module _ (facts : List Fact) where
    opened : (b : Bool) (ps : Parts N) (p : List ℕ) (i : ℕ) (q : List ℕ) → (IsTrue (are_within ps facts p 0) → IsTrue (has_value ps (i ∷ q)) → On facts (p ++ (i + 0) ∷ q)) → IsTrue (cond b (are_within ps facts p 0) true) → IsTrue (has_value (cond b ps no_parts) (i ∷ q)) → On facts (p ++ i ∷ q)
    opened true ps p i q f h v = let e : i + 0 ≡ i = omega arith in subst (λ n. On facts (p ++ n ∷ q)) e (f h v)
    opened false ps p i q f h v = not_true (sym (nothing-there N (i ∷ q)) ∙ v)

    -- each value in a cell is on the way to a fact, where the test passes
    mutual
      pub within-on : (c : Cell N) (p : List ℕ) → IsTrue (is_within c facts p) → (i : ℕ) (q : List ℕ) → IsTrue (has_value (inside (Some c)) (i ∷ q)) → On facts (p ++ i ∷ q)
      within-on (cell n k ps) p h i q v = opened (opens k) ps p i q (λ w. are-on ps p 0 w i q) h v

      are-on : (ps : Parts N) (p : List ℕ) (k : ℕ) → IsTrue (are_within ps facts p k) → (i : ℕ) (q : List ℕ) → IsTrue (has_value ps (i ∷ q)) → On facts (p ++ (i + k) ∷ q)
      are-on no_parts p k h i q v = not_true (sym (nothing-there N (i ∷ q)) ∙ v)
      are-on (gap ps) p k h zero q v = at-gap ps q v
      are-on (gap ps) p k h (suc i) q v = one-on facts p i k q (are-on ps p (suc k) h i q (sym (behind-gap ps i q) ∙ v))
      are-on (part c ps) p k h zero [] v =
          let e : k ≡ 0 + k = omega arith in
          let b = and-both (is_on_way facts (p ++ k ∷ []) && is_within c facts (p ++ k ∷ [])) (are_within ps facts p (suc k)) h in
          subst (λ n. On facts (p ++ n ∷ [])) e (and-both (is_on_way facts (p ++ k ∷ [])) (is_within c facts (p ++ k ∷ [])) b.0).0
      are-on (part c ps) p k h zero (j ∷ q) v =
          let e : k ≡ 0 + k = omega arith in
          let b = and-both (is_on_way facts (p ++ k ∷ []) && is_within c facts (p ++ k ∷ [])) (are_within ps facts p (suc k)) h in
          let w = within-on c (p ++ k ∷ []) (and-both (is_on_way facts (p ++ k ∷ [])) (is_within c facts (p ++ k ∷ [])) b.0).1 j q v in
          subst (λ n. On facts (p ++ n ∷ j ∷ q)) e (subst (On facts) (append_assoc p (k ∷ []) (j ∷ q)) w)
      are-on (part c ps) p k h (suc i) q v =
          let b = and-both (is_on_way facts (p ++ k ∷ []) && is_within c facts (p ++ k ∷ [])) (are_within ps facts p (suc k)) h in
          one-on facts p i k q (are-on ps p (suc k) b.1 i q (sym (behind-part c ps i q) ∙ v))

    -- and the test passes where it is so
    opens-in : (b : Bool) (ps : Parts N) (p : List ℕ) → (((i : ℕ) (q : List ℕ) → IsTrue (has_value ps (i ∷ q)) → On facts (p ++ (i + 0) ∷ q)) → IsTrue (are_within ps facts p 0)) → ((i : ℕ) (q : List ℕ) → IsTrue (has_value (cond b ps no_parts) (i ∷ q)) → On facts (p ++ i ∷ q)) → IsTrue (cond b (are_within ps facts p 0) true)
    opens-in true ps p f h = f (λ i q v. let e : i ≡ i + 0 = omega arith in subst (λ n. On facts (p ++ n ∷ q)) e (h i q v))
    opens-in false ps p f h = refl

    mutual
      pub on-within : (c : Cell N) (p : List ℕ) → ((i : ℕ) (q : List ℕ) → IsTrue (has_value (inside (Some c)) (i ∷ q)) → On facts (p ++ i ∷ q)) → IsTrue (is_within c facts p)
      on-within (cell n k ps) p h = opens-in (opens k) ps p (on-are ps p 0) h

      on-are : (ps : Parts N) (p : List ℕ) (k : ℕ) → ((i : ℕ) (q : List ℕ) → IsTrue (has_value ps (i ∷ q)) → On facts (p ++ (i + k) ∷ q)) → IsTrue (are_within ps facts p k)
      on-are no_parts p k h = refl
      on-are (gap ps) p k h = on-are ps p (suc k) (λ i q v. on-one facts p i k q (h (suc i) q (behind-gap ps i q ∙ v)))
      on-are (part c ps) p k h =
          both-and (is_on_way facts (p ++ k ∷ []) && is_within c facts (p ++ k ∷ [])) (are_within ps facts p (suc k))
          (both-and (is_on_way facts (p ++ k ∷ [])) (is_within c facts (p ++ k ∷ [])) (at-zero facts p k [] (h 0 [] refl))
          (on-within c (p ++ k ∷ []) (λ j q v. subst (On facts) (sym (append_assoc p (k ∷ []) (j ∷ q))) (at-zero facts p k (j ∷ q) (h 0 (j ∷ q) v)))))
          (on-are ps p (suc k) (λ i q v. on-one facts p i k q (h (suc i) q (behind-part c ps i q ∙ v))))
