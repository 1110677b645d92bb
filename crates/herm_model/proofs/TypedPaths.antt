-- Paths that have types: longer and shorter ones, and the facts to them.
use Rattle.std.proofs.Common.{◌≡◌, ℕ, zero, suc, ◌<◌, List, [], ◌∷◌, ◌++◌, length, Bool, true, false, cond, ◌||◌, ◌⊎◌, inl, inr, Option, Some, None, is_some, slice_get, IsTrue, IsFalse, refl, sym, ap, subst, subst₂, ◌∙◌, arith, true≢false}
use Rattle.std.proofs.Math.Bool.{or-false}
use Rattle.herm_model.specs.Lists.{IsIn, map_or, list_of}
use Rattle.herm_model.specs.Paths.{Path, Fact, init, case, parent}
use Rattle.herm_model.specs.Types.{Shape, fields, cases, callmessage, TypeTable, part_type, part_of, type_below, type_at, is_cases, is_variant, enters_component, passes_component, full_parts, IsPartPath}
use Rattle.herm_model.specs.Facts.{facts_from, facts_to, prefixes, with_prefixes, component_count, IsFactOf}
use Rattle.herm_model.proofs.Lists.{not_true, in-append_cases}
use Rattle.herm_model.proofs.Options.{none-not_some}
use Rattle.herm_model.proofs.Prefixes.{full-part}
use Rattle.herm_model.proofs.TypesBelow.{type_below-append, enters-append, known-above}

-- the parts of a false choice
pub or-falses : (a b : Bool) → IsFalse (a || b) → IsFalse a × IsFalse b
or-falses true b h = absurd (true≢false h)
or-falses false b h = (refl, h)

pub falses-or : (a b : Bool) → IsFalse a → IsFalse b → IsFalse (a || b)
falses-or true b h k = absurd (true≢false h)
falses-or false b h k = k

pub some-of : {X : Type 0} (o : Option X) → IsTrue (is_some o) → (x : X) × (o ≡ Some x)
some-of None h = not_true h
some-of (Some x) h = (x, refl)

pub is-some : {X : Type 0} {x : X} (o : Option X) → o ≡ Some x → IsTrue (is_some o)
is-some o e = ap is_some e

pub slice_get-below : {X : Type 0} (xs : List X) (i : ℕ) (x : X) → slice_get xs i ≡ Some x → i < length xs
slice_get-below [] i x e = none-not_some e
slice_get-below (y ∷ ys) zero x e = omega arith
slice_get-below (y ∷ ys) (suc i) x e = omega (arith, slice_get-below ys i x e)

-- the parent of a path, and the last step
pub parent-split : (i j : ℕ) (p : List ℕ) → (k : ℕ) × (i ∷ j ∷ p ≡ parent (i ∷ j ∷ p) ++ k ∷ [])
parent-split i j [] = (j, refl)
parent-split i j (l ∷ p) = let r = parent-split j l p in (r.0, ap (i ∷◌) r.1)

module _ (table : TypeTable) where
  -- a component of a variant that has a type
  component-there : (t : Option ℕ) (i : ℕ) → IsTrue (is_variant table t) → IsTrue (is_some (part_of table t i)) → i < map_or 0 (λ u. map_or 0 component_count (slice_get table u)) t
  component-there None i v h = not_true v
  component-there (Some t) i v h = by (slice_get table t) v h
    where
      by : (o : Option Shape) → IsTrue (map_or false (λ s. is_cases s) o) → IsTrue (is_some (map_or None (λ s. part_type s i) o)) → i < map_or 0 component_count o
      by None v h = not_true v
      by (Some (cases ts)) v h = let r = some-of (slice_get ts i) h in slice_get-below ts i r.0 r.1
      by (Some s) v h = not_true v

  -- steps through parts that a full value has lead to a type, and through no component
  pub leads-typed : (q : List ℕ) (t : ℕ) → IsPartPath full_parts table t q → IsTrue (is_some (type_below table (Some t) q)) × IsFalse (enters_component table (Some t) q)
  leads-typed [] t l = (refl, refl)
  leads-typed (i ∷ q) t l =
      let again = leads-typed q l.0 l.2 in
      let part : part_of table (Some t) i ≡ Some l.0 = full-part (slice_get table t) i l.0 l.1 in (
        subst (λ o. IsTrue (is_some (type_below table o q))) (sym part) again.0,
        falses-or (is_variant table (Some t)) _ (no_variant (slice_get table t) l.0 l.1) (subst (λ o. IsFalse (enters_component table o q)) (sym part) again.1),
      )
    where
      no_variant : (o : Option Shape) (u : ℕ) → IsIn (i, u) (list_of full_parts o) → IsFalse (map_or false (λ s. is_cases s) o)
      no_variant (Some (fields ts)) u h = refl
      no_variant (Some (callmessage ps raises)) u h = refl
      no_variant o u h = absurd h

  module _ (variables : List ℕ) where
    pub at-append : (v : ℕ) (p q : List ℕ) → type_at table variables ((v ∷ p) ++ q) ≡ type_below table (type_at table variables (v ∷ p)) q
    at-append v p q = type_below-append table (slice_get variables v) p q

    pub passes-append : (v : ℕ) (p q : List ℕ) → passes_component table variables ((v ∷ p) ++ q) ≡ (passes_component table variables (v ∷ p) || enters_component table (type_at table variables (v ∷ p)) q)
    passes-append v p q = enters-append table (slice_get variables v) p q

    -- each fact on the way to a path that has a type is one that there is
    pub from-facts : (v : ℕ) (at : List ℕ) (t : Option ℕ) (w : Bool) (p : List ℕ) (g : Fact) → type_at table variables (v ∷ at) ≡ t → passes_component table variables (v ∷ at) ≡ w
        → IsTrue (is_some (type_below table t p)) → IsIn g (facts_from table (v ∷ at) t w p) → IsFactOf table variables g
    from-facts v at t w [] g e f h i = here w f i
      where
        here : (w : Bool) → passes_component table variables (v ∷ at) ≡ w → IsIn g (cond w [] (init (v ∷ at) ∷ [])) → IsFactOf table variables g
        here true f k = absurd k
        here false f (inl k) = subst (IsFactOf table variables) (sym k) (subst (λ o. IsTrue (is_some o)) (sym e) h, f)
        here false f (inr k) = absurd k
    from-facts v at t w (i ∷ p) g e f h k = by (in-append_cases g (cond w [] (init (v ∷ at) ∷ [])) _ k) (from-facts v (at ++ i ∷ []) (part_of table t i) (w || is_variant table t) p g longer passes h)
      where
        typed : IsTrue (is_some t)
        typed = known-above table t (i ∷ p) h

        longer : type_at table variables ((v ∷ at) ++ i ∷ []) ≡ part_of table t i
        longer = at-append v at (i ∷ []) ∙ ap (λ o. part_of table o i) e

        passes : passes_component table variables ((v ∷ at) ++ i ∷ []) ≡ (w || is_variant table t)
        passes = passes-append v at (i ∷ []) ∙ ap (passes_component table variables (v ∷ at) ||◌) (or-false _) ∙ subst₂ (λ a b. (passes_component table variables (v ∷ at) || is_variant table (type_at table variables (v ∷ at))) ≡ (a || is_variant table b)) f e refl

        here : (w : Bool) → passes_component table variables (v ∷ at) ≡ w → IsIn g (cond w [] (init (v ∷ at) ∷ [])) → IsFactOf table variables g
        here true f k = absurd k
        here false f (inl k) = subst (IsFactOf table variables) (sym k) (subst (λ o. IsTrue (is_some o)) (sym e) typed, f)
        here false f (inr k) = absurd k

        component : (b : Bool) → is_variant table t ≡ b → IsIn g (cond b (case (v ∷ at) i ∷ []) []) → IsFactOf table variables g
        component true is (inl k) = subst (IsFactOf table variables) (sym k) (subst (λ o. i < map_or 0 (λ u. map_or 0 component_count (slice_get table u)) o) (sym e) (component-there t i is (known-above table (part_of table t i) p h)))
        component true is (inr k) = absurd k
        component false is k = absurd k

        deep : IsIn g (cond (is_variant table t) (case (v ∷ at) i ∷ []) []) ⊎ IsIn g (facts_from table ((v ∷ at) ++ i ∷ []) (part_of table t i) (w || is_variant table t) p) → (IsIn g (facts_from table ((v ∷ at) ++ i ∷ []) (part_of table t i) (w || is_variant table t) p) → IsFactOf table variables g) → IsFactOf table variables g
        deep (inl c) again = component (is_variant table t) refl c
        deep (inr d) again = again d

        by : IsIn g (cond w [] (init (v ∷ at) ∷ [])) ⊎ IsIn g (cond (is_variant table t) (case (v ∷ at) i ∷ []) [] ++ facts_from table ((v ∷ at) ++ i ∷ []) (part_of table t i) (w || is_variant table t) p) → (IsIn g (facts_from table ((v ∷ at) ++ i ∷ []) (part_of table t i) (w || is_variant table t) p) → IsFactOf table variables g) → IsFactOf table variables g
        by (inl a) again = here w f a
        by (inr b) again = deep (in-append_cases g (cond (is_variant table t) (case (v ∷ at) i ∷ []) []) _ b) again

    pub to-facts : (p : Path) (g : Fact) → IsTrue (is_some (type_at table variables p)) → IsIn g (facts_to table variables p) → IsFactOf table variables g
    to-facts [] g h k = absurd k
    to-facts (v ∷ p) g h k = from-facts v [] (slice_get variables v) false p g refl refl h k

    -- what a shorter path has
    pub begins-typed : (v : ℕ) (p q : List ℕ) → IsTrue (is_some (type_at table variables ((v ∷ p) ++ q))) → IsTrue (is_some (type_at table variables (v ∷ p)))
    begins-typed v p q h = known-above table (type_at table variables (v ∷ p)) q (subst (λ o. IsTrue (is_some o)) (at-append v p q) h)

    pub parent-facts : (p : Path) (g : Fact) → IsTrue (is_some (type_at table variables p)) → IsIn g (facts_to table variables (parent p)) → IsFactOf table variables g
    parent-facts [] g h k = absurd k
    parent-facts (i ∷ []) g h k = absurd k
    parent-facts (i ∷ j ∷ p) g h k =
        let r = parent-split i j p in
        to-facts (parent (i ∷ j ∷ p)) g (begins-typed i (parent (j ∷ p)) (r.0 ∷ []) (subst (λ q. IsTrue (is_some (type_at table variables q))) r.1 h)) k

    case-typed : (p : Path) (c : ℕ) → IsFactOf table variables (case p c) → IsTrue (is_some (type_at table variables p))
    case-typed p c h = by (type_at table variables p) h
      where
        by : (o : Option ℕ) → c < map_or 0 (λ t. map_or 0 component_count (slice_get table t)) o → IsTrue (is_some o)
        by None l = let z : ⊥ = omega arith in absurd z
        by (Some t) l = refl

    -- what is before a fact that there is
    pub prefix-facts : (f g : Fact) → IsFactOf table variables f → IsIn g (prefixes table variables f) → IsFactOf table variables g
    prefix-facts (init p) g h k = parent-facts p g h.0 k
    prefix-facts (case p c) g h k = to-facts p g (case-typed p c h) k

    pub with-facts : (f g : Fact) → IsFactOf table variables f → IsIn g (with_prefixes table variables f) → IsFactOf table variables g
    with-facts f g h k = by (in-append_cases g (prefixes table variables f) (f ∷ []) k)
      where
        by : IsIn g (prefixes table variables f) ⊎ IsIn g (f ∷ []) → IsFactOf table variables g
        by (inl a) = prefix-facts f g h a
        by (inr (inl e)) = subst (IsFactOf table variables) (sym e) h
        by (inr (inr b)) = absurd b
