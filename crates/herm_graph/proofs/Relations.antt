-- What is reached along the next types is reached by the names in shapes.
use Rattle.std.proofs.Common.{◌≡◌, ◌<◌, ℕ, zero, suc, Bool, true, false, ◌⊎◌, inl, inr, List, map, Option, Some, None, slice_get, option_map, IsTrue, refl, sym, ◌∙◌, ap, subst, arith, true≢false, replicate}
use Rattle.std.proofs.Math.ListN.{set}
use Rattle.std.proofs.lemmas.Option.{slice_get-map}
use Rattle.herm_model.specs.Lists.{IsIn, list_of}
use Rattle.herm_model.specs.Types.{TypeTable, Shape, named_types}
use Rattle.herm_model.specs.WellFormedTables.{Reaches, at_once, further}
use Rattle.herm_types.specs.Table.{says}
use Rattle.herm_graph.specs.declared.graph.Rule.{Rule}
use Rattle.herm_graph.specs.declared.graph.Rule.TheVariants.{AnyOf, AllOf}
use Rattle.herm_graph.specs.Graph.{IsReached, at_goal, through, by_all}
use Rattle.herm_graph.proofs.Reaching.{says-set}

pub trans : (shapes : TypeTable) (t u v : ℕ) → Reaches shapes t u → Reaches shapes u v → Reaches shapes t v
trans shapes t u v (at_once t' u' i) r = further t u v i r
trans shapes t u v (further t' w u' i s) r = further t w v i (trans shapes w u v s r)

module _ (shapes : TypeTable) (next : List (List ℕ)) (same : next ≡ map named_types shapes) where
  -- the next ones of a type are those that it names
  pub named-next : (t v : ℕ) (ns : List ℕ) → slice_get next t ≡ Some ns → IsIn v ns → IsIn v (list_of named_types (slice_get shapes t))
  named-next t v ns e i = by (slice_get shapes t) (sym (slice_get-map named_types shapes t) ∙ (ap (λ xs. slice_get xs t) (sym same) ∙ e))
    where
      by : (o : Option Shape) → option_map named_types o ≡ Some ns → IsIn v (list_of named_types o)
      by None h = absurd cc
      by (Some s) h = let names : named_types s ≡ ns = cc in subst (λ xs. IsIn v xs) (sym names) i

  pub next-named : (t v : ℕ) → IsIn v (list_of named_types (slice_get shapes t)) → (ns : List ℕ) × (slice_get next t ≡ Some ns) × IsIn v ns
  next-named t v i = by (slice_get shapes t) refl i
    where
      by : (o : Option Shape) → slice_get shapes t ≡ o → IsIn v (list_of named_types o) → (ns : List ℕ) × (slice_get next t ≡ Some ns) × IsIn v ns
      by None e h = absurd h
      by (Some s) e h = (named_types s, ap (λ xs. slice_get xs t) same ∙ (slice_get-map named_types shapes t ∙ ap (option_map named_types) e), h)

  module _ (goal : List Bool) where
    pub leads : (r : Rule) → r ≡ AnyOf → (t : ℕ) → IsReached r goal next t → (w : ℕ) × Reaches shapes t w × IsTrue (says goal w)
    leads r any t (at_goal t' v ns e n i g) = (v, at_once t v (named-next t v ns n i), g)
    leads r any t (through t' v ns e n i h) = let below = leads r any v h in (below.0, further t v below.0 (named-next t v ns n i) below.1, below.2)
    leads r any t (by_all t' ns e n g each) = absurd (different (sym e ∙ any))
      where
        different : AllOf ≡ AnyOf → ⊥
        different h = absurd cc

    pub led : (t w : ℕ) → Reaches shapes t w → IsTrue (says goal w) → IsReached AnyOf goal next t
    led t w (at_once t' w' i) g = let n = next-named t w i in at_goal t w n.0 refl n.1 n.2 g
    led t w (further t' u w' i r) g = let n = next-named t u i in through t u n.0 refl n.1 n.2 (led u w r g)

-- ---- one goal alone

none-said : (n t : ℕ) → says (replicate n false) t ≡ false
none-said zero t = refl
none-said (suc n) zero = refl
none-said (suc n) (suc t) = none-said n t

pub only-said : (n t u : ℕ) → IsTrue (says (set (replicate n false) t true) u) → u ≡ t
only-said n t u h = by (says-set (replicate n false) t u h)
  where
    by : (u ≡ t) ⊎ IsTrue (says (replicate n false) u) → u ≡ t
    by (inl e) = e
    by (inr s) = absurd (true≢false (sym s ∙ none-said n u))

pub said-only : (n t : ℕ) → t < n → IsTrue (says (set (replicate n false) t true) t)
said-only zero t l = absurd (omega (arith, l))
said-only (suc n) zero l = refl
said-only (suc n) (suc t) l = said-only n t (omega (arith, l))
