-- Where the fact that ends those before a fact was pushed, they all were.
use Rattle.std.proofs.Common.{◌≡◌, ◌≤◌, ◌<◌, ℕ, length, refl, arith, List, [], ◌∷◌, ◌++◌, flat_map, Bool, true, false, cond, ◌||◌, Option, slice_get, sym, ap, subst, ◌∙◌, ◌⊎◌, inl, inr, append_assoc}
use Rattle.std.proofs.lemmas.List.{append-nil}
use Rattle.herm_model.specs.Lists.{IsIn}
use Rattle.herm_model.specs.Paths.{Path, Fact, init, case, parent}
use Rattle.herm_model.specs.Types.{TypeTable, part_of, is_variant, enters_component, passes_component}
use Rattle.herm_model.specs.Facts.{facts_from, facts_to, prefixes, with_prefixes}
use Rattle.herm_model.proofs.Lists.{in-append_cases}
use Rattle.herm_model.proofs.ClosedFacts.{closed-IsClosed}
use Rattle.herm_effects.specs.Pushed.{IsPushed, IsBegunAt, IsBegun}
use Rattle.herm_effects.proofs.Repeats.{some-in, pushed_already}

module _ (table : TypeTable) where
  -- of a path that passes no component, the facts are those of its parent and that there is a value at it
  from-plain : (at : Path) (t : Option ℕ) (i : ℕ) (p : List ℕ) (g : Fact) → enters_component table t (i ∷ p) ≡ false → IsIn g (facts_from table at t false (i ∷ p)) → IsIn g (facts_from table at t false (parent (i ∷ p))) ⊎ (g ≡ init (at ++ i ∷ p))
  from-plain at t i [] g n h = by (is_variant table t) n h
    where
      by : (b : Bool) → (b || false) ≡ false → IsIn g (init at ∷ (cond b (case at i ∷ []) [] ++ cond b [] (init (at ++ i ∷ []) ∷ []))) → IsIn g (init at ∷ []) ⊎ (g ≡ init (at ++ i ∷ []))
      by true e k = absurd cc
      by false e (inl k) = inl (inl k)
      by false e (inr (inl k)) = inr k
      by false e (inr (inr k)) = absurd k
  from-plain at t i (j ∷ p) g n h = by (is_variant table t) n h (from-plain (at ++ i ∷ []) (part_of table t i) j p g)
    where
      Again : Type 0
      Again = enters_component table (part_of table t i) (j ∷ p) ≡ false → IsIn g (facts_from table (at ++ i ∷ []) (part_of table t i) false (j ∷ p)) → IsIn g (facts_from table (at ++ i ∷ []) (part_of table t i) false (parent (j ∷ p))) ⊎ (g ≡ init ((at ++ i ∷ []) ++ j ∷ p))

      further : IsIn g (facts_from table (at ++ i ∷ []) (part_of table t i) false (parent (j ∷ p))) ⊎ (g ≡ init ((at ++ i ∷ []) ++ j ∷ p)) → IsIn g (init at ∷ facts_from table (at ++ i ∷ []) (part_of table t i) false (parent (j ∷ p))) ⊎ (g ≡ init (at ++ i ∷ j ∷ p))
      further (inl k) = inl (inr k)
      further (inr k) = inr (k ∙ ap init (append_assoc at (i ∷ []) (j ∷ p)))

      by : (b : Bool) → (b || enters_component table (part_of table t i) (j ∷ p)) ≡ false → IsIn g (init at ∷ (cond b (case at i ∷ []) [] ++ facts_from table (at ++ i ∷ []) (part_of table t i) b (j ∷ p))) → Again → IsIn g (init at ∷ (cond b (case at i ∷ []) [] ++ facts_from table (at ++ i ∷ []) (part_of table t i) b (parent (j ∷ p)))) ⊎ (g ≡ init (at ++ i ∷ j ∷ p))
      by true e k again = absurd cc
      by false e (inl k) again = inl (inl k)
      by false e (inr k) again = further (again e k)

  module _ (variables : List ℕ) where
    plain : (v : ℕ) (p : List ℕ) (g : Fact) → passes_component table variables (v ∷ p) ≡ false → IsIn g (facts_to table variables (v ∷ p)) → IsIn g (prefixes table variables (init (v ∷ p))) ⊎ (g ≡ init (v ∷ p))
    plain v [] g n (inl e) = inr e
    plain v [] g n (inr h) = absurd h
    plain v (i ∷ p) g n h = from-plain (v ∷ []) (slice_get variables v) i p g n h

    abbrev Closing : List Fact → List Fact
    Closing fs = flat_map (with_prefixes table variables) fs

    -- what was pushed is there with all before it
    before-pushed : (has : Fact → Bool) (pushed fs : List Fact) (f g : Fact) → IsPushed has pushed (Closing fs) → IsIn f pushed → IsIn g (prefixes table variables f) → IsIn g pushed
    before-pushed has pushed fs f g p h k = subst (IsIn g) (sym p.once) (closed-IsClosed table variables fs f g (subst (IsIn f) p.once h) k)

    told-in : (has : Fact → Bool) (pushed facts : List Fact) (f : Fact) → IsPushed has pushed facts → has f ≡ true → IsIn f pushed
    told-in has pushed facts f p h = some-in f pushed (sym (p.tells f) ∙ h)

    to-begun : (has : Fact → Bool) (pushed fs : List Fact) (p : Path) → IsBegunAt table variables has p → IsPushed has pushed (Closing fs) → (g : Fact) → IsIn g (facts_to table variables p) → IsIn g pushed
    to-begun has pushed fs [] b is g h = absurd h
    to-begun has pushed fs (v ∷ p) b is g h = by (plain v p g b.0 h)
      where
        by : IsIn g (prefixes table variables (init (v ∷ p))) ⊎ (g ≡ init (v ∷ p)) → IsIn g pushed
        by (inl k) = before-pushed has pushed fs (init (v ∷ p)) g is (told-in has pushed (Closing fs) (init (v ∷ p)) is b.1) k
        by (inr k) = told-in has pushed (Closing fs) g is (ap has k ∙ b.1)

    begun-before : (has : Fact → Bool) (pushed fs : List Fact) (f : Fact) → IsBegun table variables has f → IsPushed has pushed (Closing fs) → (g : Fact) → IsIn g (prefixes table variables f) → IsIn g pushed
    begun-before has pushed fs (init p) b is = to-begun has pushed fs (parent p) b is
    begun-before has pushed fs (case p c) b is = to-begun has pushed fs p b is

    -- the facts before a fact that is begun are pushed already
    pub begun_is_pushed : (has : Fact → Bool) (pushed fs : List Fact) (f : Fact) → IsBegun table variables has f → IsPushed has pushed (Closing fs) → IsPushed has pushed (Closing fs ++ prefixes table variables f)
    begun_is_pushed has pushed fs f b is = pushed_already has pushed (Closing fs) (prefixes table variables f) (begun-before has pushed fs f b is) is

    -- so is a fact that was pushed, with all before it
    pub held_is_pushed : (has : Fact → Bool) (pushed fs : List Fact) (f : Fact) → has f ≡ true → IsPushed has pushed (Closing fs) → IsPushed has pushed (Closing fs ++ with_prefixes table variables f)
    held_is_pushed has pushed fs f h is = pushed_already has pushed (Closing fs) (with_prefixes table variables f) (λ g k. by g (in-append_cases g (prefixes table variables f) (f ∷ []) k)) is
      where
        by : (g : Fact) → IsIn g (prefixes table variables f) ⊎ IsIn g (f ∷ []) → IsIn g pushed
        by g (inl k) = before-pushed has pushed fs f g is (told-in has pushed (Closing fs) f is h) k
        by g (inr (inl e)) = told-in has pushed (Closing fs) g is (ap has e ∙ h)
        by g (inr (inr k)) = absurd k

    -- one fact more with those before it
    pub closing_more : (fs : List Fact) (f : Fact) → Closing fs ++ with_prefixes table variables f ≡ Closing (fs ++ f ∷ [])
    closing_more [] f = sym (append-nil (with_prefixes table variables f))
    closing_more (g ∷ fs) f = append_assoc (with_prefixes table variables g) (Closing fs) (with_prefixes table variables f) ∙ ap (with_prefixes table variables g ++◌) (closing_more fs f)

-- before the value of a part of a variable there is the variable's alone
pub one-before : (table : TypeTable) (variables : List ℕ) (v : ℕ) (p : List ℕ) → 1 ≤ length p → length p < 2 → prefixes table variables (init (v ∷ p)) ≡ init (v ∷ []) ∷ []
one-before table variables v [] some few = absurd (omega arith)
one-before table variables v (i ∷ []) some few = refl
one-before table variables v (i ∷ j ∷ p) some few = absurd (omega arith)
