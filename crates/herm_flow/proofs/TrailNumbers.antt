-- Each number on a trail is that of one path, which begins the trail's path.
use Rattle.std.proofs.Common.{◌≡◌, ◌<◌, ◌+◌, ◌*◌, ℕ, List, [], ◌∷◌, ◌++◌, ◌⊎◌, nat_eq, Option, Some, true, inl, inr, refl, sym, ap, ap₂, subst, ◌∙◌, arith, append-nil}
use Rattle.std.proofs.lemmas.Bool.{eq-eqb}
use Rattle.herm_model.specs.Lists.{IsIn}
use Rattle.herm_model.specs.Paths.{Path}
use Rattle.herm_model.proofs.Beginnings.{Begins}
use Rattle.herm_model.proofs.Lists.{or-left, or-right}
use Rattle.herm_flow.specs.Touched.{Numbers, number_by, AreOwn, IsTrail, last_of, is_before_last}

some-one : (o : Option ℕ) (m n : ℕ) → o ≡ Some m → o ≡ Some n → m ≡ n
some-one o m n h k = cc

-- ---- paths from their last step on

-- a path's steps before others, its last step first
abbrev pub onto : Path → Path → Path
onto [] after = after
onto (s ∷ p) after = onto p (s ∷ after)

onto-back : (p after rest : Path) → onto (onto p after) rest ≡ onto after (p ++ rest)
onto-back [] after rest = refl
onto-back (s ∷ p) after rest = onto-back p (s ∷ after) rest

onto-one : (p q : Path) → onto p [] ≡ onto q [] → p ≡ q
onto-one p q e = sym (append-nil p) ∙ (sym (onto-back p [] []) ∙ (ap (λ x. onto x []) e ∙ (onto-back q [] [] ∙ append-nil q)))

-- the path has the number, its last step first
abbrev pub HasNumber : Numbers → Path → ℕ → Type 0
HasNumber m [] n = n ≡ 0
HasNumber m (s ∷ p) n = (before : ℕ) × (s < 4294967296) × (number_by m before s ≡ Some n) × HasNumber m p before

number-one : (m : Numbers) (p : Path) (n k : ℕ) → HasNumber m p n → HasNumber m p k → n ≡ k
number-one m [] n k h g = h ∙ sym g
number-one m (s ∷ p) n k h g = some-one (number_by m h.0 s) n k h.2 (subst (λ b. number_by m b s ≡ Some k) (sym (number-one m p h.0 g.0 h.3 g.3)) g.2)

module _ (m : Numbers) (last : ℕ) (own : AreOwn m last) where
  not-none : {A : Type 0} (s before n : ℕ) → number_by m before s ≡ Some n → n ≡ 0 → A
  not-none s before n h e = let b = (own.within (before * 4294967296 + s) n h).0 in absurd (omega (arith, b, e))

  path-one : (p q : Path) (n : ℕ) → HasNumber m p n → HasNumber m q n → p ≡ q
  path-one [] [] n h g = refl
  path-one [] (s ∷ q) n h g = not-none s g.0 n g.2 h
  path-one (s ∷ p) [] n h g = not-none s h.0 n h.2 g
  path-one (s ∷ p) (t ∷ q) n h g =
      let key = own.one (h.0 * 4294967296 + s) (g.0 * 4294967296 + t) n h.2 g.2 in
      let small = h.1 in
      let narrow = g.1 in
      let step : s ≡ t = omega (arith, key, small, narrow) in
      let before : h.0 ≡ g.0 = omega (arith, key, small, narrow) in
      ap₂ ◌∷◌ step (path-one p q h.0 h.3 (subst (HasNumber m q) (sym before) g.3))

  -- ---- trails

  -- a number on a trail is that of a path that begins the trail's
  trail-has : (p after : Path) (before : ℕ) (ns : List ℕ) (n : ℕ) → IsTrail p (number_by m) before ns → HasNumber m after before → IsIn n ns → (q : Path) × Begins q p × HasNumber m (onto q after) n
  trail-has [] after before ns n t h i = absurd (subst (IsIn n) t i)
  trail-has (s ∷ p) after before [] n t h i = absurd t
  trail-has (s ∷ p) after before (k ∷ ns) n t h (inl e) = (s ∷ [], (p, refl), subst (λ x. HasNumber m (s ∷ after) x) (sym e) (before, t.0, t.1, h))
  trail-has (s ∷ p) after before (k ∷ ns) n t h (inr i) =
      let r = trail-has p (s ∷ after) k ns n t.2 (before, t.0, t.1, h) i in
      (s ∷ r.0, (r.1.0, ap (s ∷◌) r.1.1), r.2)

  -- a path that begins a trail's has a number there
  trail-number : (s : ℕ) (q r after : Path) (before : ℕ) (ns : List ℕ) → IsTrail ((s ∷ q) ++ r) (number_by m) before ns → HasNumber m after before → (n : ℕ) × IsIn n ns × HasNumber m (onto (s ∷ q) after) n
  trail-number s q r after before [] t h = absurd t
  trail-number s [] r after before (k ∷ ns) t h = (k, inl refl, (before, t.0, t.1, h))
  trail-number s (u ∷ q) r after before (k ∷ ns) t h =
      let x = trail-number u q r (s ∷ after) k ns t.2 (before, t.0, t.1, h) in
      (x.0, inr x.1, x.2)

  -- the number of a path, and the trails that it is on
  pub numbered-way : (v : ℕ) (q p : Path) (ns : List ℕ) → IsTrail p (number_by m) 0 ns → Begins (v ∷ q) p → (n : ℕ) × IsIn n ns × HasNumber m (onto (v ∷ q) []) n
  numbered-way v q p ns t b = trail-number v q b.0 [] 0 ns (subst (λ x. IsTrail x (number_by m) 0 ns) b.1 t) refl

  pub way-on : (v : ℕ) (q p : Path) (ns : List ℕ) (n : ℕ) → HasNumber m (onto (v ∷ q) []) n → IsTrail p (number_by m) 0 ns → Begins (v ∷ q) p → IsIn n ns
  way-on v q p ns n h t b = let x = numbered-way v q p ns t b in subst (λ k. IsIn k ns) (number-one m (onto (v ∷ q) []) x.0 n x.2 h) x.1

  pub on-trail : (q p : Path) (ns : List ℕ) (n : ℕ) → HasNumber m (onto q []) n → IsTrail p (number_by m) 0 ns → IsIn n ns → Begins q p
  on-trail q p ns n h t i = let x = trail-has p [] 0 ns n t refl i in subst (λ k. Begins k p) (onto-one x.0 q (path-one (onto x.0 []) (onto q []) n x.2 h)) x.1

-- the last of a trail stands before the last of a longer one
pub passed : (m : Numbers) (v : ℕ) (q : Path) (s : ℕ) (r : Path) (before : ℕ) (ns ks : List ℕ) → IsTrail (v ∷ q) (number_by m) before ns → IsTrail ((v ∷ q) ++ s ∷ r) (number_by m) before ks → (n : ℕ) × (last_of ns ≡ Some n) × (is_before_last ks n ≡ true)
passed m v q s r before [] ks t u = absurd t
passed m v q s r before (n ∷ ns) [] t u = absurd u
passed m v [] s r before (n ∷ ns) (k ∷ []) t u = absurd u.2
passed m v [] s r before (n ∷ ns) (k ∷ l ∷ ks) t u =
    let same : n ≡ k = some-one (number_by m before v) n k t.1 u.1 in
    (n, ap (λ xs. last_of (n ∷ xs)) t.2, or-left (nat_eq n k) _ (eq-eqb n k same))
passed m v (w ∷ q) s r before (n ∷ []) (k ∷ ks) t u = absurd t.2
passed m v (w ∷ q) s r before (n ∷ o ∷ ns) (k ∷ []) t u = absurd u.2
passed m v (w ∷ q) s r before (n ∷ o ∷ ns) (k ∷ l ∷ ks) t u =
    let same : n ≡ k = some-one (number_by m before v) n k t.1 u.1 in
    let x = passed m w q s r n (o ∷ ns) (l ∷ ks) t.2 (subst (λ b. IsTrail ((w ∷ q) ++ s ∷ r) (number_by m) b (l ∷ ks)) (sym same) u.2) in
    (x.0, x.1, or-right (nat_eq x.0 k) _ x.2)
