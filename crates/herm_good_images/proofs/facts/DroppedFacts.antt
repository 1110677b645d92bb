-- Without the excess of a set of facts beyond another, the values of the other are left.
use Rattle.std.proofs.Common.{◌≡◌, ◌↔◌, ℕ, List, [], ◌∷◌, ◌++◌, filter, Bool, true, false, cond, not, ◌&&◌, ◌||◌, IsTrue, IsFalse, Option, slice_get, ◌⊎◌, inl, inr, refl, sym, ap, ap₂, subst, ◌∙◌, append_assoc, true≢false}
use Rattle.std.proofs.lemmas.List.{append-nil}
use Rattle.herm_model.specs.Lists.{IsIn, any_pass}
use Rattle.herm_model.specs.Paths.{Path, Fact, init, case, parent, path_of, is_at_or_below}
use Rattle.herm_model.specs.Types.{TypeTable, part_of, is_variant, enters_component}
use Rattle.herm_model.specs.Facts.{facts_from, facts_to, prefixes, IsFactOf}
use Rattle.herm_model.specs.laws.ExcessLaws.{is_beyond, IsExcess}
use Rattle.herm_model.proofs.Lists.{cons-head, cons-tail, in-filter, in-filter_from, and-both}
use Rattle.herm_model.proofs.TypedPaths.{or-falses}
use Rattle.herm_model.proofs.Beginnings.{Begins, begins-with, above-longer}
use Rattle.herm_model.proofs.Prefixes.{to-longer}

-- the paths are not above the fact
abbrev pub AreNotAbove : List Path → Fact → Type 0
AreNotAbove ps f = (q : Path) → IsIn q ps → is_at_or_below q (path_of f) ≡ false

not-one : (a b : Bool) → not (a || false) ≡ true → a ≡ b → b ≡ false
not-one true b h e = absurd (true≢false (sym h))
not-one false b h e = sym e

one-not : (a : Bool) → a ≡ false → not (a || false) ≡ true
one-not a e = ap (λ b. not (b || false)) e

-- what is left without facts at and below paths
pub left-one : (p : Path) (fs : List Fact) (f : Fact) → IsIn f (filter (λ f. not (any_pass (λ q. is_at_or_below q (path_of f)) (p ∷ []))) fs) ↔ (IsIn f fs × (is_at_or_below p (path_of f) ≡ false))
left-one p fs f = (
  λ m. (let r = in-filter_from (λ f. not (any_pass (λ q. is_at_or_below q (path_of f)) (p ∷ []))) f fs m in (r.0, not-one (is_at_or_below p (path_of f)) (is_at_or_below p (path_of f)) r.1 refl)),
  λ h. in-filter (λ f. not (any_pass (λ q. is_at_or_below q (path_of f)) (p ∷ []))) f fs h.0 (one-not (is_at_or_below p (path_of f)) h.1),
)

-- A path begins another: it is that path, or a beginning of its parent.
beginning-parent : (q : Path) (i : ℕ) (r : List ℕ) → (s : List ℕ) × (parent (q ++ i ∷ r) ≡ q ++ s)
beginning-parent [] i r = (parent (i ∷ r), refl)
beginning-parent (x ∷ []) i r = (parent (i ∷ r), refl)
beginning-parent (x ∷ y ∷ q) i r = let s = beginning-parent (y ∷ q) i r in (s.0, ap (x ∷◌) s.1)

module _ (table : TypeTable) (variables : List ℕ) where
  own-from : (at p : List ℕ) (t : Option ℕ) → enters_component table t p ≡ false → IsIn (init (at ++ p)) (facts_from table at t false p)
  own-from at [] t e = inl (ap init (append-nil at))
  own-from at (i ∷ p) t e =
      let h = or-falses (is_variant table t) (enters_component table (part_of table t i) p) e in
      subst (λ b. IsIn (init (at ++ i ∷ p)) (init at ∷ [] ++ (cond b (case at i ∷ []) [] ++ facts_from table (at ++ i ∷ []) (part_of table t i) b p))) (sym h.0)
      (inr (subst (λ q. IsIn (init q) (facts_from table (at ++ i ∷ []) (part_of table t i) false p)) (append_assoc at (i ∷ []) p) (own-from (at ++ i ∷ []) p (part_of table t i) h.1)))

  -- `init` of a path through no component is among the facts to it
  own-fact : (p : Path) → IsFactOf table variables (init p) → IsIn (init p) (facts_to table variables p)
  own-fact [] h = absurd (true≢false (sym h.0))
  own-fact (v ∷ p) h = own-from (v ∷ []) p (slice_get variables v) h.1

  -- a closed set has with a fact the values above its path
  pub closed-above : (S : Fact → Type 0) → ((f g : Fact) → S f → IsIn g (prefixes table variables f) → S g) → (q : Path) (f : Fact) → IsFactOf table variables (init q) → Begins q (path_of f) → S f → S (init q)
  closed-above S closed q (init p) known (r, e) h = by r e
    where
      by : (r : List ℕ) → p ≡ q ++ r → S (init q)
      by [] e = subst (λ x. S (init x)) (e ∙ append-nil q) h
      by (i ∷ r) e =
          let s = beginning-parent q i r in
          closed (init p) (init q) h (subst (λ x. IsIn (init q) (facts_to table variables x)) (sym (ap parent e ∙ s.1)) (to-longer table variables q s.0 (init q) (own-fact q known)))
  closed-above S closed q (case p c) known (r, e) h = closed (case p c) (init q) h (subst (λ x. IsIn (init q) (facts_to table variables x)) (sym e) (to-longer table variables q r (init q) (own-fact q known)))

  -- the facts to a path through no component are `init` of its beginnings
  pub plain-from : (at p : List ℕ) (t : Option ℕ) → enters_component table t p ≡ false → (f : Fact) → IsIn f (facts_from table at t false p) → (r s : List ℕ) × (f ≡ init (at ++ r)) × (p ≡ r ++ s) × (enters_component table t r ≡ false)
  plain-from at [] t e f (inl m) = ([], [], m ∙ ap init (sym (append-nil at)), refl, refl)
  plain-from at [] t e f (inr m) = absurd m
  plain-from at (i ∷ p) t e f m =
      by (subst (λ b. IsIn f (init at ∷ [] ++ (cond b (case at i ∷ []) [] ++ facts_from table (at ++ i ∷ []) (part_of table t i) b p))) h.0 m) (plain-from (at ++ i ∷ []) p (part_of table t i) h.1 f)
    where
      h : (is_variant table t ≡ false) × (enters_component table (part_of table t i) p ≡ false)
      h = or-falses (is_variant table t) (enters_component table (part_of table t i) p) e

      by : IsIn f (init at ∷ facts_from table (at ++ i ∷ []) (part_of table t i) false p)
          → (IsIn f (facts_from table (at ++ i ∷ []) (part_of table t i) false p) → (r s : List ℕ) × (f ≡ init ((at ++ i ∷ []) ++ r)) × (p ≡ r ++ s) × (enters_component table (part_of table t i) r ≡ false))
          → (r s : List ℕ) × (f ≡ init (at ++ r)) × (i ∷ p ≡ r ++ s) × (enters_component table t r ≡ false)
      by (inl x) again = ([], i ∷ p, x ∙ ap init (sym (append-nil at)), refl, refl)
      by (inr x) again = let a = again x in (i ∷ a.0, a.1, a.2 ∙ ap init (append_assoc at (i ∷ []) a.0), ap (i ∷◌) a.3, ap₂ ◌||◌ h.0 a.4)

module _ (here low : Fact → Bool) (xs : List Path) (excess : IsExcess here low xs) where
  split-last : (done : List ℕ) (i : ℕ) (q : List ℕ) (j : ℕ) (more : List ℕ) → done ++ i ∷ [] ≡ q ++ j ∷ more → (q ≡ done) ⊎ ((less : List ℕ) × (done ≡ q ++ j ∷ less))
  split-last [] i [] j more e = inl refl
  split-last [] i (x ∷ []) j more e = let k : ⊥ = cc in absurd k
  split-last [] i (x ∷ y ∷ q) j more e = let k : ⊥ = cc in absurd k
  split-last (d ∷ done) i [] j more e = inr (done, ap (λ x. x ∷ done) (cons-head e))
  split-last (d ∷ done) i (x ∷ q) j more e = by (split-last done i q j more (cons-tail e))
    where
      by : (q ≡ done) ⊎ ((less : List ℕ) × (done ≡ q ++ j ∷ less)) → (x ∷ q ≡ d ∷ done) ⊎ ((less : List ℕ) × (d ∷ done ≡ x ∷ q ++ j ∷ less))
      by (inl a) = inl (ap₂ ◌∷◌ (sym (cons-head e)) a)
      by (inr b) = inr (b.0, ap₂ ◌∷◌ (cons-head e) b.1)

  -- the topmost path that is beyond
  topmost-from : (done rest : List ℕ) → ((q : Path) (j : ℕ) (more : List ℕ) → done ≡ q ++ j ∷ more → IsFalse (is_beyond here low q)) → IsTrue (is_beyond here low (done ++ rest)) → (q : Path) × IsIn q xs × Begins q (done ++ rest)
  topmost-from done [] none b = (done, (excess.topmost done).1 (subst (λ x. IsTrue (is_beyond here low x)) (append-nil done) b, none), ([], refl))
  topmost-from done (i ∷ rest) none b =
      by (is_beyond here low done) refl
      (λ none'. topmost-from (done ++ i ∷ []) rest none' (subst (λ x. IsTrue (is_beyond here low x)) (sym (append_assoc done (i ∷ []) rest)) b))
    where
      by : (t : Bool) → is_beyond here low done ≡ t
          → (((q : Path) (j : ℕ) (more : List ℕ) → done ++ i ∷ [] ≡ q ++ j ∷ more → IsFalse (is_beyond here low q)) → (q : Path) × IsIn q xs × Begins q ((done ++ i ∷ []) ++ rest))
          → (q : Path) × IsIn q xs × Begins q (done ++ i ∷ rest)
      by true e again = (done, (excess.topmost done).1 (e, none), (i ∷ rest, refl))
      by false e again =
          let r = again further in
          (r.0, r.1, subst (Begins r.0) (append_assoc done (i ∷ []) rest) r.2)
        where
          further : (q : Path) (j : ℕ) (more : List ℕ) → done ++ i ∷ [] ≡ q ++ j ∷ more → IsFalse (is_beyond here low q)
          further q j more s = side (split-last done i q j more s)
            where
              side : (q ≡ done) ⊎ ((less : List ℕ) × (done ≡ q ++ j ∷ less)) → IsFalse (is_beyond here low q)
              side (inl a) = ap (is_beyond here low) a ∙ e
              side (inr c) = none q j c.0 c.1

  dropped-above : (p : Path) → IsTrue (is_beyond here low p) → (q : Path) × IsIn q xs × Begins q p
  dropped-above p b = topmost-from [] p (λ q j more e. nothing q j more e) b
    where
      nothing : (q : Path) (j : ℕ) (more : List ℕ) → [] ≡ q ++ j ∷ more → IsFalse (is_beyond here low q)
      nothing [] j more e = let k : ⊥ = cc in absurd k
      nothing (x ∷ q) j more e = let k : ⊥ = cc in absurd k

  beyond-low : (q : Path) → IsTrue (is_beyond here low q) → (here (init q) ≡ true) × (low (init q) ≡ false)
  beyond-low q b = let both = and-both (here (init q)) (not (low (init q))) b in (both.0, un-not (low (init q)) both.1)
    where
      un-not : (b : Bool) → not b ≡ true → b ≡ false
      un-not true e = absurd (true≢false (sym e))
      un-not false e = refl

  pub dropped-here : (q : Path) → IsIn q xs → (here (init q) ≡ true) × (low (init q) ≡ false)
  dropped-here q m = beyond-low q (((excess.topmost q).0 m).0)

  -- of what is dropped, no path is above another
  pub dropped-apart : (p q : Path) → IsIn p xs → IsIn q xs → is_at_or_below q p ≡ true → p ≡ q
  dropped-apart p q in-p in-q above = by (begins-with q p above)
    where
      by : Begins q p → p ≡ q
      by ([], e) = e ∙ append-nil q
      by (i ∷ r, e) = absurd (true≢false (sym ((excess.topmost q).0 in-q).0 ∙ ((excess.topmost p).0 in-p).1 q i r e))

  module _ (table : TypeTable) (variables : List ℕ) (there : (p : Path) → here (init p) ≡ true → IsFactOf table variables (init p))
      (low_closed : (f g : Fact) → low f ≡ true → IsIn g (prefixes table variables f) → low g ≡ true) (below : (f : Fact) → low f ≡ true → here f ≡ true) where
    -- nothing of the lower set is at or below what is dropped
    pub low-kept : (f : Fact) → low f ≡ true → AreNotAbove xs f
    low-kept f h q m = by (is_at_or_below q (path_of f)) refl
      where
        by : (b : Bool) → is_at_or_below q (path_of f) ≡ b → b ≡ false
        by false e = refl
        by true e =
            let d = dropped-here q m in
            absurd (true≢false (sym (closed-above table variables (λ f. low f ≡ true) low_closed q f (there q d.0) (begins-with q (path_of f) e) h) ∙ d.1))

    -- and each value that is left is of the lower set
    pub kept-low : (p : Path) → here (init p) ≡ true → AreNotAbove xs (init p) → low (init p) ≡ true
    kept-low p h none = by (low (init p)) refl
      where
        by : (b : Bool) → low (init p) ≡ b → b ≡ true
        by true e = refl
        by false e =
            let r = dropped-above p (ap₂ (λ a b. a && not b) h e) in
            absurd (true≢false (sym (subst (λ x. is_at_or_below r.0 x ≡ true) (sym r.2.1) (above-longer r.0 r.2.0)) ∙ none r.0 r.1))
