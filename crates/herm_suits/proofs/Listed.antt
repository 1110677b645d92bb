-- The facts at which messages travel where some are listed: init of each path on the way to a listed fact, and the listed
-- cases.
use Rattle.std.proofs.Common.{◌≡◌, ℕ, zero, suc, List, [], ◌∷◌, ◌++◌, map, flat_map, true, false, cond, ◌||◌, ◌⊎◌, inl, inr, Option, Some, None, nat_eq, IsTrue, IsFalse, refl, sym, ap, ap₂, subst, ◌∙◌, arith, append_assoc, append-nil}
use Rattle.std.proofs.lemmas.Bool.Decides.{nat_tests}
use Rattle.herm_model.specs.Lists.{IsIn}
use Rattle.herm_model.specs.Paths.{Path, Fact, init, case, path_of, parent, is_at_or_below}
use Rattle.herm_model.specs.Types.{inport, TypeTable, part_of, is_variant, enters_component, full_parts, part_paths}
use Rattle.herm_model.specs.Facts.{facts_from, facts_to, prefixes, with_prefixes, said_at, message_facts, IsFactOf}
use Rattle.herm_model.specs.WellFormedTables.{IsFieldPath, IsOfField, IsOfFullField, DeclaresFields}
use Rattle.herm_model.proofs.Lists.{cons-tail, not_true, and-both, both-and, in-append_left, in-append_right, in-append_cases, in-map, in-map_from, in-flat_map, in-flat_map_from}
use Rattle.herm_model.proofs.ClosedFacts.{once-IsIn, IsIn-once}
use Rattle.herm_model.proofs.Prefixes.{to-parent}
use Rattle.herm_model.proofs.TypedPaths.{or-falses, parent-split}
use Rattle.herm_model.proofs.TypesBelow.{known-above}
use Rattle.herm_model.proofs.TypedFacts.{declared-facts}
use Rattle.herm_suits.specs.Exact.{steps, steps_of, is_on_way}
use Rattle.herm_suits.proofs.Ways.{any-in, in-any}

same-number : (i j : ℕ) → IsTrue (nat_eq i j) → i ≡ j
same-number i j h = grind (arith, nat_tests)

number-same : (i : ℕ) → IsTrue (nat_eq i i)
number-same i = grind (arith, nat_tests)

pub way-itself : (p : List ℕ) → IsTrue (is_at_or_below p p)
way-itself [] = refl
way-itself (i ∷ p) = both-and (nat_eq i i) (is_at_or_below p p) (number-same i) (way-itself p)

-- what a path begins with that has one step more: the path, or what this begins with
one-less : (r q : List ℕ) (k : ℕ) → IsTrue (is_at_or_below r (q ++ k ∷ [])) → (r ≡ q ++ k ∷ []) ⊎ IsTrue (is_at_or_below r q)
one-less [] q k h = inr refl
one-less (i ∷ []) [] k h = inl (ap (λ n. n ∷ []) (same-number i k (and-both (nat_eq i k) true h).0))
one-less (i ∷ j ∷ r) [] k h = not_true (and-both (nat_eq i k) false h).1
one-less (i ∷ r) (j ∷ q) k h = let b = and-both (nat_eq i j) (is_at_or_below r (q ++ k ∷ [])) h in by b.0 (one-less r q k b.1)
  where
    by : IsTrue (nat_eq i j) → (r ≡ q ++ k ∷ []) ⊎ IsTrue (is_at_or_below r q) → (i ∷ r ≡ j ∷ (q ++ k ∷ [])) ⊎ IsTrue (is_at_or_below (i ∷ r) (j ∷ q))
    by e (inl f) = inl (ap₂ ◌∷◌ (same-number i j e) f)
    by e (inr f) = inr (both-and (nat_eq i j) (is_at_or_below r q) e f)

module _ (table : TypeTable) where
  enters-less : (t : Option ℕ) (p r : List ℕ) → IsFalse (enters_component table t (p ++ r)) → IsFalse (enters_component table t p)
  enters-less t [] r h = refl
  enters-less t (i ∷ p) r h =
      let b = or-falses (is_variant table t) (enters_component table (part_of table t i) (p ++ r)) h in
      ap₂ ◌||◌ b.0 (enters-less (part_of table t i) p r b.1)

  -- the facts to a path that passes through no component are init of each path that it begins with
  pub along : (at : Path) (t : Option ℕ) (q : List ℕ) (g : Fact) → IsFalse (enters_component table t q) → IsIn g (facts_from table at t false q) → (r : List ℕ) × IsTrue (is_at_or_below r q) × (g ≡ init (at ++ r))
  along at t [] g h (inl e) = ([], refl, e ∙ ap init (sym (append-nil at)))
  along at t [] g h (inr i) = absurd i
  along at t (i ∷ q) g h k =
      let b = or-falses (is_variant table t) (enters_component table (part_of table t i) q) h in
      by (subst (λ v. IsIn g (init at ∷ (cond v (case at i ∷ []) [] ++ facts_from table (at ++ i ∷ []) (part_of table t i) (false || v) q))) b.0 k) (along (at ++ i ∷ []) (part_of table t i) q g b.1)
    where
      by : IsIn g (init at ∷ facts_from table (at ++ i ∷ []) (part_of table t i) false q) → (IsIn g (facts_from table (at ++ i ∷ []) (part_of table t i) false q) → (r : List ℕ) × IsTrue (is_at_or_below r q) × (g ≡ init ((at ++ i ∷ []) ++ r))) → (r : List ℕ) × IsTrue (is_at_or_below r (i ∷ q)) × (g ≡ init (at ++ r))
      by (inl e) f = ([], refl, e ∙ ap init (sym (append-nil at)))
      by (inr k) f = let r = f k in (i ∷ r.0, both-and (nat_eq i i) (is_at_or_below r.0 q) (number-same i) r.1, r.2 ∙ ap init (append_assoc at (i ∷ []) r.0))

  pub all-along : (at : Path) (t : Option ℕ) (q r : List ℕ) → IsFalse (enters_component table t q) → IsTrue (is_at_or_below r q) → IsIn (init (at ++ r)) (facts_from table at t false q)
  all-along at t [] [] h w = inl (ap init (append-nil at))
  all-along at t [] (j ∷ r) h w = not_true w
  all-along at t (i ∷ q) [] h w = inl (ap init (append-nil at))
  all-along at t (i ∷ q) (j ∷ r) h w =
      let b = or-falses (is_variant table t) (enters_component table (part_of table t i) q) h in
      let v = and-both (nat_eq j i) (is_at_or_below r q) w in
      let k : IsIn (init ((at ++ i ∷ []) ++ r)) (facts_from table (at ++ i ∷ []) (part_of table t i) false q) = all-along (at ++ i ∷ []) (part_of table t i) q r b.1 v.1 in
      let e : (at ++ i ∷ []) ++ r ≡ at ++ j ∷ r = append_assoc at (i ∷ []) r ∙ ap (λ n. at ++ n ∷ r) (sym (same-number j i v.0)) in
      subst (λ v. IsIn (init (at ++ j ∷ r)) (init at ∷ (cond v (case at i ∷ []) [] ++ facts_from table (at ++ i ∷ []) (part_of table t i) (false || v) q))) (sym b.0)
      (inr (subst (λ p. IsIn (init p) (facts_from table (at ++ i ∷ []) (part_of table t i) false q)) e k))

  module _ (message : ℕ) where
    -- a listed fact speaks of variable 0, and its path passes through no component
    pub record Plain (f : Fact) : Type 0 where
      pub from : path_of f ≡ 0 ∷ steps_of f
      pub plain : IsFalse (enters_component table (Some message) (steps_of f))

    abbrev vars : List ℕ
    vars = message ∷ []

    abbrev with : Fact → List Fact
    with f = with_prefixes table vars f

    -- the facts with those before them
    init-with : (q : List ℕ) (g : Fact) → IsFalse (enters_component table (Some message) q) → IsIn g (with (init (0 ∷ q))) → (r : List ℕ) × IsTrue (is_at_or_below r q) × (g ≡ init (0 ∷ r))
    init-with q g h k = by (in-append_cases g (facts_to table vars (parent (0 ∷ q))) (init (0 ∷ q) ∷ []) k)
      where
        by : IsIn g (facts_to table vars (parent (0 ∷ q))) ⊎ IsIn g (init (0 ∷ q) ∷ []) → (r : List ℕ) × IsTrue (is_at_or_below r q) × (g ≡ init (0 ∷ r))
        by (inl i) = along (0 ∷ []) (Some message) q g h (to-parent table vars (0 ∷ q) g i)
        by (inr (inl e)) = (q, way-itself q, e)
        by (inr (inr i)) = absurd i

    with-init : (q r : List ℕ) → IsFalse (enters_component table (Some message) q) → IsTrue (is_at_or_below r q) → IsIn (init (0 ∷ r)) (with (init (0 ∷ q)))
    with-init [] [] h w = inl refl
    with-init [] (j ∷ r) h w = not_true w
    with-init (i ∷ q) r h w = by (parent-split 0 i q)
      where
        split : (k : ℕ) → i ∷ q ≡ parent (i ∷ q) ++ k ∷ [] → (r ≡ parent (i ∷ q) ++ k ∷ []) ⊎ IsTrue (is_at_or_below r (parent (i ∷ q))) → IsIn (init (0 ∷ r)) (with (init (0 ∷ i ∷ q)))
        split k e (inl f) = in-append_right (init (0 ∷ r)) (facts_to table vars (parent (0 ∷ i ∷ q))) (init (0 ∷ i ∷ q) ∷ []) (inl (ap (λ p. init (0 ∷ p)) (f ∙ sym e)))
        split k e (inr v) =
            in-append_left (init (0 ∷ r)) (facts_to table vars (parent (0 ∷ i ∷ q))) (init (0 ∷ i ∷ q) ∷ [])
            (all-along (0 ∷ []) (Some message) (parent (i ∷ q)) r (enters-less (Some message) (parent (i ∷ q)) (k ∷ []) (subst (λ p. IsFalse (enters_component table (Some message) p)) e h)) v)

        by : (k : ℕ) × (0 ∷ i ∷ q ≡ parent (0 ∷ i ∷ q) ++ k ∷ []) → IsIn (init (0 ∷ r)) (with (init (0 ∷ i ∷ q)))
        by b = let tail : i ∷ q ≡ parent (i ∷ q) ++ b.0 ∷ [] = cons-tail b.1 in split b.0 tail (one-less r (parent (i ∷ q)) b.0 (subst (λ p. IsTrue (is_at_or_below r p)) tail w))

    -- what is among a listed fact and those before it
    abbrev OnWayTo : Fact → Fact → Type 0
    OnWayTo f g = ((r : List ℕ) × IsTrue (is_at_or_below r (steps_of f)) × (g ≡ init (0 ∷ r))) ⊎ ((g ≡ f) × ((p : Path) → f ≡ init p → ⊥))

    with-way : (f g : Fact) → Plain f → IsIn g (with f) → OnWayTo f g
    with-way (init p) g h k = inl (init-with (steps p) g h.plain (subst (λ q. IsIn g (with (init q))) h.from k))
    with-way (case p d) g h k = by (in-append_cases g (facts_to table vars p) (case p d ∷ []) k)
      where
        by : IsIn g (facts_to table vars p) ⊎ IsIn g (case p d ∷ []) → OnWayTo (case p d) g
        by (inl i) = inl (along (0 ∷ []) (Some message) (steps p) g h.plain (subst (λ q. IsIn g (facts_to table vars q)) h.from i))
        by (inr (inl e)) = inr (e, λ q e. cc)
        by (inr (inr i)) = absurd i

    way-with : (f : Fact) (r : List ℕ) → Plain f → IsTrue (is_at_or_below r (steps_of f)) → IsIn (init (0 ∷ r)) (with f)
    way-with (init p) r h w = subst (λ q. IsIn (init (0 ∷ r)) (with (init q))) (sym h.from) (with-init (steps p) r h.plain w)
    way-with (case p d) r h w = in-append_left (init (0 ∷ r)) (facts_to table vars p) (case p d ∷ []) (subst (λ q. IsIn (init (0 ∷ r)) (facts_to table vars q)) (sym h.from) (all-along (0 ∷ []) (Some message) (steps p) r h.plain w))

    itself-with : (f : Fact) → IsIn f (with f)
    itself-with f = in-append_right f (prefixes table vars f) (f ∷ []) (inl refl)

    -- the facts that a type lists are plain
    field-plain : (p : Path) (t : ℕ) → IsFieldPath table message p t → IsFactOf table vars (init p)
    field-plain p t h = declared-facts table message (init p ∷ []) declares (init p) (inl refl)
      where
        declares : (f : Fact) → IsIn f (init p ∷ []) → IsOfField table message f ⊎ IsOfFullField table message (init p ∷ []) f
        declares f (inl e) = inl (subst (IsOfField table message) (sym e) (t, h))
        declares f (inr i) = absurd i

    there-plain : (p : Path) → IsFactOf table vars (init p) → (p ≡ 0 ∷ steps p) × IsFalse (enters_component table (Some message) (steps p))
    there-plain [] h = not_true h.0
    there-plain (zero ∷ q) h = (refl, h.1)
    there-plain (suc v ∷ q) h = not_true (known-above table None q h.0)

    module _ (f0 : Fact) (fs : List Fact) (declares : DeclaresFields table (inport message (f0 ∷ fs))) where
      pub listed-plain : (f : Fact) → IsIn f (f0 ∷ fs) → Plain f
      listed-plain (init p) i = let r = there-plain p (declared-facts table message (f0 ∷ fs) declares (init p) i) in record { from = r.0; plain = r.1 }
      listed-plain (case p d) i = by (declares (case p d) i)
        where
          by : IsOfField table message (case p d) ⊎ IsOfFullField table message (f0 ∷ fs) (case p d) → Plain (case p d)
          by (inl h) = let r = there-plain p (field-plain p h.0 h.2) in record { from = r.0; plain = r.1 }
          by (inr h) = let r = in-map_from (λ q. init (h.0 ++ q)) (case p d) (part_paths full_parts table h.1) h.3 in cc

      abbrev Travels : Fact → Type 0
      Travels g = IsIn g (map (said_at (0 ∷ [])) (message_facts table message (f0 ∷ fs)))

      abbrev unsaid : List Fact
      unsaid = init (0 ∷ []) ∷ flat_map with (f0 ∷ fs)

      travels : (g : Fact) → IsIn g unsaid → Travels (said_at (0 ∷ []) g)
      travels g i = in-map (said_at (0 ∷ [])) g (message_facts table message (f0 ∷ fs)) (IsIn-once g unsaid i)

      -- what travels is init on the way to a listed fact, or a listed case
      abbrev pub Known : Fact → Type 0
      Known g = ((r : List ℕ) × IsTrue (is_on_way (f0 ∷ fs) r) × (g ≡ init (0 ∷ r))) ⊎ (IsIn g (f0 ∷ fs) × (g ≡ said_at (0 ∷ []) g) × ((p : Path) → g ≡ init p → ⊥))

      said-plain : (f : Fact) → Plain f → f ≡ said_at (0 ∷ []) f
      said-plain (init []) h = refl
      said-plain (init (v ∷ q)) h = ap init h.from
      said-plain (case [] d) h = refl
      said-plain (case (v ∷ q) d) h = ap (λ p. case p d) h.from

      pub travels-known : (g : Fact) → Travels g → Known g
      travels-known g h =
          let r = in-map_from (said_at (0 ∷ [])) g (message_facts table message (f0 ∷ fs)) h in
          by r.0 r.2 (once-IsIn r.0 unsaid r.1)
        where
          on : (f x : Fact) → g ≡ said_at (0 ∷ []) x → IsIn f (f0 ∷ fs) → OnWayTo f x → Known g
          on f x e i (inl w) = inl (w.0, in-any (λ f. is_at_or_below w.0 (steps_of f)) f (f0 ∷ fs) i w.1, e ∙ ap (said_at (0 ∷ [])) w.2)
          on f x e i (inr c) =
              let s : g ≡ f = e ∙ ap (said_at (0 ∷ [])) c.0 ∙ sym (said-plain f (listed-plain f i)) in
              inr (subst (λ f. IsIn f (f0 ∷ fs)) (sym s) i, s ∙ said-plain f (listed-plain f i) ∙ ap (said_at (0 ∷ [])) (sym s), λ p z. c.1 p (sym s ∙ z))

          by : (x : Fact) → g ≡ said_at (0 ∷ []) x → IsIn x unsaid → Known g
          by x e (inl i) = inl ([], refl, e ∙ ap (said_at (0 ∷ [])) i)
          by x e (inr i) = let r = in-flat_map_from with x (f0 ∷ fs) i in on r.0 x e r.1 (with-way r.0 x (listed-plain r.0 r.1) r.2)

      pub way-travels : (r : List ℕ) → IsTrue (is_on_way (f0 ∷ fs) r) → Travels (init (0 ∷ r))
      way-travels r h =
          let f = any-in (λ f. is_at_or_below r (steps_of f)) (f0 ∷ fs) h in
          travels (init (0 ∷ r)) (inr (in-flat_map with f.0 (init (0 ∷ r)) (f0 ∷ fs) f.1 (way-with f.0 r (listed-plain f.0 f.1) f.2)))

      pub listed-travels : (f : Fact) → IsIn f (f0 ∷ fs) → Travels f
      listed-travels f i = subst Travels (sym (said-plain f (listed-plain f i))) (travels f (inr (in-flat_map with f f (f0 ∷ fs) i (itself-with f))))
