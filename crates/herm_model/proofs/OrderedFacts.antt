-- Lists of facts in which each stands behind its prefixes.
use Rattle.std.proofs.Common.{◌≡◌, ◌⊎◌, inl, inr, ℕ, List, [], ◌∷◌, ◌++◌, flat_map, filter, Bool, true, false, cond, not, ◌||◌, Option, slice_get, refl, sym, ap, ap₂, subst, ◌∙◌, true≢false}
use Rattle.herm_model.specs.Lists.{IsIn}
use Rattle.herm_model.specs.Paths.{Path, Fact, init, case, same_fact, parent}
use Rattle.herm_model.specs.Types.{TypeTable, part_of, is_variant, type_below, enters_component}
use Rattle.herm_model.specs.Facts.{facts_from, facts_to, prefixes, with_prefixes, without_repeats}
use Rattle.herm_model.specs.FactsOfStatements.{closed}
use Rattle.herm_model.specs.laws.OrderedFacts.{StandBehindPrefixes}
use Rattle.herm_model.proofs.Lists.{cons-not_nil, cons-head, cons-tail, in-append_cases}
use Rattle.herm_model.proofs.Equality.{same_fact-is}
use Rattle.herm_model.proofs.Prefixes.{own, component, split}
use Rattle.herm_model.proofs.TypesBelow.{type_below-append, enters-more}

-- the fact, or one of the set
abbrev With : Fact → (Fact → Type 0) → Fact → Type 0
With f S g = (g ≡ f) ⊎ S g

abbrev Among : List Fact → (Fact → Type 0) → Fact → Type 0
Among fs S g = IsIn g fs ⊎ S g

abbrev Nothing : Fact → Type 0
Nothing g = ⊥

module _ (table : TypeTable) (variables : List ℕ) where
  -- the facts before each fact are of the set or stand before it
  abbrev Ordered : List Fact → (Fact → Type 0) → Type 0
  Ordered [] S = Unit {0}
  Ordered (f ∷ fs) S = ((g : Fact) → IsIn g (prefixes table variables f) → S g) × Ordered fs (With f S)

  ordered-weaken : (fs : List Fact) (S T : Fact → Type 0) → ((g : Fact) → S g → T g) → Ordered fs S → Ordered fs T
  ordered-weaken [] S T h o = tt
  ordered-weaken (f ∷ fs) S T h o = ((λ g i. h g (o.0 g i)), ordered-weaken fs (With f S) (With f T) more o.1)
    where
      more : (g : Fact) → With f S g → With f T g
      more g (inl e) = inl e
      more g (inr s) = inr (h g s)

  ordered-append : (xs ys : List Fact) (S : Fact → Type 0) → Ordered xs S → Ordered ys (Among xs S) → Ordered (xs ++ ys) S
  ordered-append [] ys S o p = ordered-weaken ys (Among [] S) S none p
    where
      none : (g : Fact) → Among [] S g → S g
      none g (inl a) = absurd a
      none g (inr s) = s
  ordered-append (x ∷ xs) ys S o p = (o.0, ordered-append xs ys (With x S) o.1 (ordered-weaken ys (Among (x ∷ xs) S) (Among xs (With x S)) moved p))
    where
      moved : (g : Fact) → Among (x ∷ xs) S g → Among xs (With x S) g
      moved g (inl (inl e)) = inr (inl e)
      moved g (inl (inr i)) = inl i
      moved g (inr s) = inr (inr s)

  ordered-stand : (fs : List Fact) (S : Fact → Type 0) → Ordered fs S → (before after : List Fact) (f g : Fact) → fs ≡ before ++ f ∷ after → IsIn g (prefixes table variables f) → IsIn g before ⊎ S g
  ordered-stand [] S o [] after f g e h = cons-not_nil f after (sym e)
  ordered-stand [] S o (b ∷ before) after f g e h = cons-not_nil b (before ++ f ∷ after) (sym e)
  ordered-stand (x ∷ fs) S o [] after f g e h = inr (o.0 g (subst (λ y. IsIn g (prefixes table variables y)) (sym (cons-head e)) h))
  ordered-stand (x ∷ fs) S o (b ∷ before) after f g e h = by (ordered-stand fs (With x S) o.1 before after f g (cons-tail e) h)
    where
      by : IsIn g before ⊎ With x S g → IsIn g (b ∷ before) ⊎ S g
      by (inl i) = inl (inr i)
      by (inr (inl s)) = inl (inl (s ∙ cons-head e))
      by (inr (inr s)) = inr s

  stand-behind : (fs : List Fact) → Ordered fs Nothing → StandBehindPrefixes table variables fs
  stand-behind fs o before after f g e h = by (ordered-stand fs Nothing o before after f g e h)
    where
      by : IsIn g before ⊎ ⊥ → IsIn g before
      by (inl i) = i
      by (inr b) = absurd b

  -- what is filtered out is of the set
  ordered-filter : (test : Fact → Bool) (fs : List Fact) (S : Fact → Type 0) → ((f : Fact) → test f ≡ false → S f) → Ordered fs S → Ordered (filter test fs) S
  ordered-filter test [] S out o = tt
  ordered-filter test (f ∷ fs) S out o = by (test f) refl (ordered-filter test fs (With f S) (λ g e. inr (out g e)) o.1)
    where
      drop : S f → (g : Fact) → With f S g → S g
      drop s g (inl e) = subst S (sym e) s
      drop s g (inr t) = t

      by : (b : Bool) → test f ≡ b → Ordered (filter test fs) (With f S) → Ordered (cond b (f ∷ filter test fs) (filter test fs)) S
      by true e later = (o.0, later)
      by false e later = ordered-weaken (filter test fs) (With f S) S (drop (out f e)) later

  ordered-once : (fs : List Fact) (S : Fact → Type 0) → Ordered fs S → Ordered (without_repeats fs) S
  ordered-once [] S o = tt
  ordered-once (f ∷ fs) S o = (o.0, ordered-filter (λ g. not (same_fact f g)) (without_repeats fs) (With f S) (λ g e. inl (sym (same-one g (same_fact f g) refl e))) (ordered-once fs (With f S) o.1))
    where
      same-one : (g : Fact) (b : Bool) → same_fact f g ≡ b → not b ≡ false → f ≡ g
      same-one g true h e = same_fact-is f g h
      same-one g false h e = absurd (true≢false e)

  -- the facts to a path: each step adds those that need what was there
  parent-more : (v : ℕ) (a : List ℕ) (i : ℕ) → parent (v ∷ (a ++ i ∷ [])) ≡ v ∷ a
  parent-more v [] i = refl
  parent-more v (k ∷ a) i = ap (v ∷◌) (parent-more k a i)

  -- what has to be there before the facts from here on
  pub record IsBegun (at : Path) (w : Bool) (S : Fact → Type 0) : Type 0 where
    pub parents : (g : Fact) → IsIn g (facts_to table variables (parent at)) → S g
    pub facts : (g : Fact) → IsIn g (facts_to table variables at) → IsIn g (own table at w) ⊎ S g

  own-ordered : (at : Path) (w : Bool) (S : Fact → Type 0) → IsBegun at w S → Ordered (own table at w) S
  own-ordered at true S b = tt
  own-ordered at false S b = (b.parents, tt)

  component-ordered : (at : Path) (variant : Bool) (i : ℕ) (S : Fact → Type 0) → ((g : Fact) → IsIn g (facts_to table variables at) → S g) → Ordered (cond variant (case at i ∷ []) []) S
  component-ordered at true i S h = (h, tt)
  component-ordered at false i S h = tt

  module _ (v : ℕ) where
    abbrev root : Option ℕ
    root = slice_get variables v

    from-ordered : (p a : List ℕ) (t : Option ℕ) (w : Bool) (S : Fact → Type 0) → t ≡ type_below table root a → w ≡ enters_component table root a → IsBegun (v ∷ a) w S → Ordered (facts_from table (v ∷ a) t w p) S
    from-ordered [] a t w S e x b = own-ordered (v ∷ a) w S b
    from-ordered (i ∷ p) a t w S e x b =
        ordered-append first (middle ++ last) S (own-ordered (v ∷ a) w S b)
        (ordered-append middle last (Among first S) (component-ordered (v ∷ a) (is_variant table t) i (Among first S) b.facts)
        (from-ordered p (a ++ i ∷ []) (part_of table t i) (w || is_variant table t) (Among middle (Among first S))
        (ap (λ o. part_of table o i) e ∙ sym (type_below-append table root a (i ∷ [])))
        (ap₂ ◌||◌ x (ap (is_variant table) e) ∙ sym (enters-more table root a i)) next))
      where
        first : List Fact
        first = own table (v ∷ a) w

        middle : List Fact
        middle = component table (v ∷ a) t i

        last : List Fact
        last = facts_from table (v ∷ (a ++ i ∷ [])) (part_of table t i) (w || is_variant table t) p

        Own : List Fact
        Own = own table (v ∷ (a ++ i ∷ [])) (w || is_variant table t)

        ending : (g : Fact) → IsIn g first ⊎ IsIn g (middle ++ Own) → IsIn g Own ⊎ Among middle (Among first S) g
        ending g (inl f) = inr (inr (inl f))
        ending g (inr m) = by (in-append_cases g middle Own m)
          where
            by : IsIn g middle ⊎ IsIn g Own → IsIn g Own ⊎ Among middle (Among first S) g
            by (inl k) = inr (inl k)
            by (inr k) = inl k

        longer : (g : Fact) → IsIn g (facts_to table variables (v ∷ a)) ⊎ IsIn g (facts_from table (v ∷ a) (type_below table root a) (enters_component table root a) (i ∷ [])) → IsIn g Own ⊎ Among middle (Among first S) g
        longer g (inl k) = inr (inr (b.facts g k))
        longer g (inr k) = ending g (in-append_cases g first (middle ++ Own) (subst (λ u. IsIn g (facts_from table (v ∷ a) t u (i ∷ []))) (sym x) (subst (λ o. IsIn g (facts_from table (v ∷ a) o (enters_component table root a) (i ∷ []))) (sym e) k)))

        next : IsBegun (v ∷ (a ++ i ∷ [])) (w || is_variant table t) (Among middle (Among first S))
        next = record {
          parents = λ g k. inr (b.facts g (subst (λ q. IsIn g (facts_to table variables q)) (parent-more v a i) k));
          facts = λ g k. longer g (split table (v ∷ []) root false a (i ∷ []) g k);
        }

  to-ordered : (p : Path) → Ordered (facts_to table variables p) Nothing
  to-ordered [] = tt
  to-ordered (v ∷ p) = from-ordered v p [] (slice_get variables v) false Nothing refl refl (record { parents = λ g k. absurd k; facts = λ g k. inl k })

  prefixes-ordered : (f : Fact) → Ordered (prefixes table variables f) Nothing
  prefixes-ordered (init p) = to-ordered (parent p)
  prefixes-ordered (case p c) = to-ordered p

  with-ordered : (f : Fact) → Ordered (with_prefixes table variables f) Nothing
  with-ordered f = ordered-append (prefixes table variables f) (f ∷ []) Nothing (prefixes-ordered f) ((λ g k. inl k), tt)

  all-ordered : (fs : List Fact) (S : Fact → Type 0) → Ordered (flat_map (with_prefixes table variables) fs) S
  all-ordered [] S = tt
  all-ordered (f ∷ fs) S = ordered-append (with_prefixes table variables f) (flat_map (with_prefixes table variables) fs) S (ordered-weaken (with_prefixes table variables f) Nothing S (λ g k. absurd k) (with-ordered f)) (all-ordered fs (Among (with_prefixes table variables f) S))

  pub to-stand : (p : Path) → StandBehindPrefixes table variables (facts_to table variables p)
  to-stand p = stand-behind (facts_to table variables p) (to-ordered p)

  pub closed-stand : (fs : List Fact) → StandBehindPrefixes table variables (closed table variables fs)
  closed-stand fs = stand-behind (closed table variables fs) (ordered-once (flat_map (with_prefixes table variables) fs) Nothing (all-ordered fs Nothing))
