-- What is listed is closed: a fact that is there has those before it there.
use Rattle.std.proofs.Common.{◌≡◌, ◌⊎◌, inl, inr, append-nil, ℕ, List, [], ◌∷◌, ◌++◌, map, flat_map, Bool, true, false, cond, ◌&&◌, ◌||◌, nat_eq, refl, sym, ◌∙◌, ap, ap₂, subst}
use Rattle.std.specs.Prelude.{if◌then◌else◌}
use Rattle.std.specs.List.{list_any}
use Rattle.herm_model.specs.Lists.{IsIn, any_pass}
use Rattle.herm_model.specs.Paths.{init, same_fact}
use Rattle.herm_model.specs.Paths as model
use Rattle.herm_model.specs.Types.{TypeTable}
use Rattle.herm_model.specs.Facts.{prefixes, with_prefixes, without_repeats}
use Rattle.herm_model.proofs.Lists.{in-append_cases, in-flat_map, in-flat_map_from}
use Rattle.herm_model.proofs.Prefixes.{with-closed}
use Rattle.herm_model.proofs.ClosedFacts.{once-IsIn}
use Rattle.herm_types.specs.declared.fact.Fact.{Fact}
use Rattle.herm_types.specs.declared.fact.Fact.TheVariants.{Init, Case}
use Rattle.herm_types.specs.contracts.fact.FactPartialEq.TheImpl.{eq-value}
use Rattle.herm_types.specs.View.{fact_view}
use Rattle.herm_types.specs.Messages.{closed_list}
use Rattle.herm_types.proofs.Extended.{map-append}
use Rattle.herm_types.proofs.Walks.{flat-snoc}
use Rattle.herm_types.proofs.Repeats.{same-slices, any-in, nothing-new}

-- ---- facts of the code are the same where those of the model are

pub fact-same : (f g : Fact) → (eq-value).it f g ≡ same_fact (fact_view f) (fact_view g)
fact-same (Init p) (Init q) = ap (λ t. nat_eq p.var.0 q.var.0 && t) (same-slices p.parts.items q.parts.items)
fact-same (Init p) (Case q d) = refl
fact-same (Case p c) (Init q) = refl
fact-same (Case p c) (Case q d) = ap (λ t. (nat_eq p.var.0 q.var.0 && t) && nat_eq c d) (same-slices p.parts.items q.parts.items)

module _ (eq : Fact → Fact → Bool) (same : (f g : Fact) → eq f g ≡ same_fact (fact_view f) (fact_view g)) where
  pub any-same : (f : Fact) (fs : List Fact) → list_any (eq f) fs ≡ any_pass (same_fact (fact_view f)) (map fact_view fs)
  any-same f [] = refl
  any-same f (g ∷ fs) = ap₂ (λ a b. a || b) (same f g) (any-same f fs)

  pub with-fact : (fs : List Fact) (f : Fact) → map fact_view (if list_any (eq f) fs then fs else fs ++ f ∷ []) ≡ map fact_view fs ++ cond (any_pass (same_fact (fact_view f)) (map fact_view fs)) [] (fact_view f ∷ [])
  with-fact fs f = rw (← any-same f fs) (by (list_any (eq f) fs))
    where
      by : (b : Bool) → map fact_view (if b then fs else fs ++ f ∷ []) ≡ map fact_view fs ++ cond b [] (fact_view f ∷ [])
      by true = sym (append-nil (map fact_view fs))
      by false = map-append fact_view fs (f ∷ [])

-- ---- a listed fact more

module _ (table : TypeTable) (message : ℕ) where
  pub listed-more : (done : List model.Fact) (f : model.Fact) → closed_list table message (done ++ f ∷ []) ≡ without_repeats ((init (0 ∷ []) ∷ flat_map (with_prefixes table (message ∷ [])) done) ++ with_prefixes table (message ∷ []) f)
  listed-more done f = ap (λ fs. without_repeats (init (0 ∷ []) ∷ fs)) (flat-snoc (with_prefixes table (message ∷ [])) done f)

  -- what stands before a fact that is there is there
  closed-has : (done : List model.Fact) (f g : model.Fact) → IsIn f (closed_list table message done) → IsIn g (with_prefixes table (message ∷ []) f) → IsIn g (init (0 ∷ []) ∷ flat_map (with_prefixes table (message ∷ [])) done)
  closed-has done f g h k = by (once-IsIn f (init (0 ∷ []) ∷ flat_map (with_prefixes table (message ∷ [])) done) h)
    where
      alone : IsIn g (with_prefixes table (message ∷ []) (init (0 ∷ []))) → IsIn g (init (0 ∷ []) ∷ flat_map (with_prefixes table (message ∷ [])) done)
      alone (inl e) = inl e
      alone (inr b) = absurd b

      within : (d : model.Fact) → IsIn f (with_prefixes table (message ∷ []) d) → IsIn g (prefixes table (message ∷ []) f) ⊎ IsIn g (f ∷ []) → IsIn g (with_prefixes table (message ∷ []) d)
      within d i (inl a) = with-closed table (message ∷ []) d f g i a
      within d i (inr (inl e)) = subst (λ x. IsIn x (with_prefixes table (message ∷ []) d)) (sym e) i
      within d i (inr (inr b)) = absurd b

      by : IsIn f (init (0 ∷ []) ∷ flat_map (with_prefixes table (message ∷ [])) done) → IsIn g (init (0 ∷ []) ∷ flat_map (with_prefixes table (message ∷ [])) done)
      by (inl e) = alone (subst (λ x. IsIn g (with_prefixes table (message ∷ []) x)) e k)
      by (inr b) =
          let r = in-flat_map_from (with_prefixes table (message ∷ [])) f done b in
          inr (in-flat_map (with_prefixes table (message ∷ [])) r.0 g done r.1 (within r.0 r.2 (in-append_cases g (prefixes table (message ∷ []) f) (f ∷ []) k)))

  -- a fact that is there adds nothing
  pub listed-again : (done : List model.Fact) (f : model.Fact) → any_pass (same_fact f) (closed_list table message done) ≡ true → closed_list table message done ≡ closed_list table message (done ++ f ∷ [])
  listed-again done f e =
      sym (listed-more done f ∙ nothing-new (init (0 ∷ []) ∷ flat_map (with_prefixes table (message ∷ [])) done) (with_prefixes table (message ∷ []) f) (λ g k. closed-has done f g (any-in f (closed_list table message done) e) k))
