-- Facts of full values and of messages are facts that there are.
use Rattle.std.proofs.Common.{◌≡◌, ℕ, zero, suc, ◌<◌, List, [], ◌∷◌, ◌++◌, flat_map, Bool, true, false, cond, ◌⊎◌, inl, inr, Option, Some, None, is_some, slice_get, option_and_then, IsTrue, IsFalse, refl, sym, ap, subst, ◌∙◌, arith}
use Rattle.herm_model.specs.Lists.{IsIn, map_or, list_of}
use Rattle.herm_model.specs.Paths.{Path, Fact, init, case}
use Rattle.herm_model.specs.Types.{Shape, fields, inport, TypeTable, part_type, part_of, type_below, type_at, is_cases, is_variant, enters_component, passes_component, full_parts, part_paths, greatest_depth}
use Rattle.herm_model.specs.Facts.{with_prefixes, full_facts, said_at, message_facts, component_count, IsFactOf}
use Rattle.herm_model.specs.FactsOfStatements.{present, full, room_for, closed}
use Rattle.herm_model.specs.WellFormedTables.{field_type, field_below, IsFieldPath, IsOfField, IsOfFullField, DeclaresFields}
use Rattle.herm_model.proofs.Lists.{not_true, in-append_cases, in-map_from, in-flat_map_from}
use Rattle.herm_model.proofs.Options.{none-not_some}
use Rattle.herm_model.proofs.Steps.{steps-lead}
use Rattle.herm_model.proofs.ClosedFacts.{once-IsIn}
use Rattle.herm_model.proofs.TypedPaths.{falses-or, is-some, leads-typed, at-append, passes-append, to-facts, parent-facts, with-facts}
use Rattle.herm_model.proofs.TypesBelow.{known-above}

-- every fact of a list is one that there is
abbrev pub AllAre : TypeTable → List ℕ → List Fact → Type 0
AllAre table variables fs = (g : Fact) → IsIn g fs → IsFactOf table variables g

module _ (table : TypeTable) where
  -- the steps through fields alone
  field-typed : (t : Option ℕ) (q : List ℕ) (u : ℕ) → field_below table t q ≡ Some u → (type_below table t q ≡ Some u) × IsFalse (enters_component table t q)
  field-typed t [] u e = (e, refl)
  field-typed t (i ∷ q) u e = by t e (λ o. field-typed o q u)
    where
      Goal : Option ℕ → Type 0
      Goal o = (type_below table o (i ∷ q) ≡ Some u) × IsFalse (enters_component table o (i ∷ q))

      Again : Type 0
      Again = (o : Option ℕ) → field_below table o q ≡ Some u → (type_below table o q ≡ Some u) × IsFalse (enters_component table o q)

      none-field : {A : Type 0} → (p : List ℕ) → field_below table None p ≡ Some u → A
      none-field [] e = none-not_some e
      none-field (j ∷ p) e = none-field p e

      at_shape : (n : ℕ) (o : Option Shape) → slice_get table n ≡ o → field_below table (option_and_then (λ s. field_type s i) o) q ≡ Some u → Again → Goal (Some n)
      at_shape n None s e again = none-field q e
      at_shape n (Some (fields ts)) s e again =
          let r = again (slice_get ts i) e in
          let part : part_of table (Some n) i ≡ slice_get ts i = ap (map_or None (λ s. part_type s i)) s in (
            ap (λ o. type_below table o q) part ∙ r.0,
            falses-or (is_variant table (Some n)) _ (ap (map_or false (λ s. is_cases s)) s) (ap (λ o. enters_component table o q) part ∙ r.1),
          )
      at_shape n (Some s') s e again = none-field q e

      by : (o : Option ℕ) → field_below table o (i ∷ q) ≡ Some u → Again → Goal o
      by None e again = none-field q e
      by (Some n) e again = at_shape n (slice_get table n) refl e again

  module _ (variables : List ℕ) where
    pub all-append : (fs gs : List Fact) → AllAre table variables fs → AllAre table variables gs → AllAre table variables (fs ++ gs)
    all-append fs gs f g h i = by (in-append_cases h fs gs i)
      where
        by : IsIn h fs ⊎ IsIn h gs → IsFactOf table variables h
        by (inl a) = f h a
        by (inr b) = g h b

    pub all-none : AllAre table variables []
    all-none g i = absurd i

    pub all-one : (f : Fact) → IsFactOf table variables f → AllAre table variables (f ∷ [])
    all-one f h g (inl e) = subst (IsFactOf table variables) (sym e) h
    all-one f h g (inr i) = absurd i

    pub all-flat : {X : Type 0} (f : X → List Fact) (xs : List X) → ((x : X) → IsIn x xs → AllAre table variables (f x)) → AllAre table variables (flat_map f xs)
    all-flat f xs h g i = let r = in-flat_map_from f g xs i in h r.0 r.1 g r.2

    pub all-closed : (fs : List Fact) → AllAre table variables fs → AllAre table variables (closed table variables fs)
    all-closed fs h g i =
        let r = in-flat_map_from (with_prefixes table variables) g fs (once-IsIn g _ i) in
        with-facts table variables r.0 g (h r.0 r.1) r.2

    -- a path of this type through no component: its own fact, and what is below it
    pub path-fact : (p : Path) (t : ℕ) → type_at table variables p ≡ Some t → IsFalse (passes_component table variables p) → IsFactOf table variables (init p)
    path-fact p t e n = (is-some _ e, n)

    pub below-fact : (p : Path) (t : ℕ) (q : List ℕ) → type_at table variables p ≡ Some t → IsFalse (passes_component table variables p) → IsTrue (is_some (type_below table (Some t) q)) → IsFalse (enters_component table (Some t) q) → IsFactOf table variables (init (p ++ q))
    below-fact [] t q e n h k = none-not_some e
    below-fact (v ∷ p) t q e n h k = (
      subst (λ o. IsTrue (is_some o)) (sym (at-append table variables v p q ∙ ap (λ o. type_below table o q) e)) h,
      passes-append table variables v p q ∙ falses-or _ _ n (ap (λ o. enters_component table o q) e ∙ k),
    )

    pub full-facts : (p : Path) (t : ℕ) → type_at table variables p ≡ Some t → IsFalse (passes_component table variables p) → AllAre table variables (full_facts table t p)
    full-facts p t e n g i =
        let r = in-map_from (λ q. init (p ++ q)) g (part_paths full_parts table t) i in
        let l = leads-typed table r.0 t (steps-lead full_parts table greatest_depth t r.0 r.1) in
        subst (IsFactOf table variables) (sym r.2) (below-fact p t r.0 e n l.0 l.1)

    pub present-facts : (p : Path) (t : ℕ) → type_at table variables p ≡ Some t → AllAre table variables (present table variables p)
    present-facts p t e g i = to-facts table variables p g (is-some _ e) i

    pub room-facts : (p : Path) (t : ℕ) → type_at table variables p ≡ Some t → AllAre table variables (room_for table variables p)
    room-facts p t e g i = parent-facts table variables p g (is-some _ e) i

    pub whole-facts : (p : Path) (t : ℕ) → type_at table variables p ≡ Some t → AllAre table variables (full table variables p)
    whole-facts p t e = all-append (present table variables p) _ (present-facts p t e) (by (passes_component table variables p) refl)
      where
        of : (o : Option ℕ) → type_at table variables p ≡ o → IsFalse (passes_component table variables p) → AllAre table variables (list_of (λ t. full_facts table t p) o)
        of None e n = all-none
        of (Some u) e n = full-facts p u e n

        by : (b : Bool) → passes_component table variables p ≡ b → AllAre table variables (cond b [] (list_of (λ t. full_facts table t p) (type_at table variables p)))
        by true n = all-none
        by false n = of (type_at table variables p) refl n

    -- a fact of a message, said of the message at a path
    pub said-fact : (x : Path) (message : ℕ) (f : Fact) → type_at table variables x ≡ Some message → IsFalse (passes_component table variables x) → IsFactOf table (message ∷ []) f → IsFactOf table variables (said_at x f)
    said-fact x message (init []) e n h = not_true h.0
    said-fact x message (init (zero ∷ q)) e n h = below-fact x message q e n h.0 h.1
    said-fact x message (init (suc v ∷ q)) e n h = not_true (known-above table None q h.0)
    said-fact x message (case [] c) e n h = let z : ⊥ = omega arith in absurd z
    said-fact [] message (case (zero ∷ q) c) e n h = none-not_some e
    said-fact (v ∷ p) message (case (zero ∷ q) c) e n h = subst (λ o. c < map_or 0 (λ t. map_or 0 component_count (slice_get table t)) o) (sym (at-append table variables v p q ∙ ap (λ o. type_below table o q) e)) h
    said-fact x message (case (suc v ∷ q) c) e n h = by (type_below table None q) refl h
      where
        by : (o : Option ℕ) → type_below table None q ≡ o → c < map_or 0 (λ t. map_or 0 component_count (slice_get table t)) o → IsFactOf table variables (said_at x (case (suc v ∷ q) c))
        by None z l = let k : ⊥ = omega arith in absurd k
        by (Some t) z l = not_true (known-above table None q (is-some _ z))

  module _ (message : ℕ) (declared : List Fact) (declares : DeclaresFields table (inport message declared)) where
    field-path : (p : Path) (t : ℕ) → IsFieldPath table message p t → (type_at table (message ∷ []) p ≡ Some t) × IsFalse (passes_component table (message ∷ []) p)
    field-path [] t h = absurd h
    field-path (v ∷ []) t h = absurd h
    field-path (v ∷ i ∷ q) t h =
        let r = field-typed (Some message) (i ∷ q) t h.1 in
        subst (λ w. (type_at table (message ∷ []) (w ∷ i ∷ q) ≡ Some t) × IsFalse (passes_component table (message ∷ []) (w ∷ i ∷ q))) (sym h.0) r

    -- a declared fact is one of the message
    pub declared-facts : AllAre table (message ∷ []) declared
    declared-facts f i = by f (declares f i)
      where
        of_field : (f : Fact) → IsOfField table message f → IsFactOf table (message ∷ []) f
        of_field (init p) h = let r = field-path p h.0 h.1 in path-fact (message ∷ []) p h.0 r.0 r.1
        of_field (case p c) h = let r = field-path p h.0 h.2 in subst (λ o. c < map_or 0 (λ t. map_or 0 component_count (slice_get table t)) o) (sym r.0) (subst (λ o. c < map_or 0 component_count o) (sym h.3) h.4)

        by : (f : Fact) → IsOfField table message f ⊎ IsOfFullField table message declared f → IsFactOf table (message ∷ []) f
        by f (inl h) = of_field f h
        by f (inr h) = let r = field-path h.0 h.1 h.2 in full-facts (message ∷ []) h.0 h.1 r.0 r.1 f h.3

    pub message-facts : AllAre table (message ∷ []) (message_facts table message declared)
    message-facts = by declared declared-facts
      where
        root : AllAre table (message ∷ []) (init (0 ∷ []) ∷ [])
        root = all-one (message ∷ []) (init (0 ∷ [])) (refl, refl)

        by : (fs : List Fact) → AllAre table (message ∷ []) fs → AllAre table (message ∷ []) (message_facts table message fs)
        by [] h g i = full-facts (message ∷ []) (0 ∷ []) message refl refl g i
        by (f ∷ fs) h g i = split (once-IsIn g (init (0 ∷ []) ∷ flat_map (with_prefixes table (message ∷ [])) (f ∷ fs)) i)
          where
            split : IsIn g (init (0 ∷ []) ∷ flat_map (with_prefixes table (message ∷ [])) (f ∷ fs)) → IsFactOf table (message ∷ []) g
            split (inl e) = root g (inl e)
            split (inr k) = let r = in-flat_map_from (with_prefixes table (message ∷ [])) g (f ∷ fs) k in with-facts table (message ∷ []) r.0 g (h r.0 r.1) r.2
