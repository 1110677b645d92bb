-- Lists of facts that are closed under prefixes and have no repeats.
use Rattle.std.proofs.Common.{◌≡◌, ℕ, List, [], ◌∷◌, filter, Bool, true, false, cond, not, refl, sym, ap, ◌∙◌, inl, inr, true≢false}
use Rattle.herm_model.specs.Lists.{IsIn}
use Rattle.herm_model.specs.Paths.{Fact, same_fact}
use Rattle.herm_model.specs.Types.{TypeTable}
use Rattle.herm_model.specs.Facts.{with_prefixes, without_repeats, IsClosed}
use Rattle.herm_model.specs.Statements.{Differ}
use Rattle.herm_model.specs.FactsOfStatements.{closed}
use Rattle.herm_model.proofs.Lists.{in-filter, in-filter_from, in-flat_map, in-flat_map_from}
use Rattle.herm_model.proofs.Prefixes.{with-closed}
use Rattle.herm_model.proofs.Equality.{same_fact-is, same_fact_self}

-- dropping repeats keeps each fact
pub once-IsIn : (f : Fact) (fs : List Fact) → IsIn f (without_repeats fs) → IsIn f fs
once-IsIn f [] h = h
once-IsIn f (g ∷ fs) (inl e) = inl e
once-IsIn f (g ∷ fs) (inr h) = inr (once-IsIn f fs (in-filter_from _ f (without_repeats fs) h).0)

pub IsIn-once : (f : Fact) (fs : List Fact) → IsIn f fs → IsIn f (without_repeats fs)
IsIn-once f [] h = h
IsIn-once f (g ∷ fs) (inl e) = inl e
IsIn-once f (g ∷ fs) (inr h) = go (same_fact g f) refl (IsIn-once f fs h)
  where
    go : (b : Bool) → same_fact g f ≡ b → IsIn f (without_repeats fs) → IsIn f (without_repeats (g ∷ fs))
    go true same k = inl (sym (same_fact-is g f same))
    go false same k = inr (in-filter (λ x. not (same_fact g x)) f (without_repeats fs) k (ap not same))

-- what has no repeats has none behind a filter
kept-Differ : (test : Fact → Bool) (fs : List Fact) → Differ fs → Differ (filter test fs)
kept-Differ test [] h = h
kept-Differ test (f ∷ fs) h = go (test f) (kept-Differ test fs h.1)
  where
    go : (b : Bool) → Differ (filter test fs) → Differ (cond b (f ∷ filter test fs) (filter test fs))
    go true later = ((λ k. h.0 (in-filter_from test f fs k).0), later)
    go false later = later

pub once-Differ : (fs : List Fact) → Differ (without_repeats fs)
once-Differ [] = tt
once-Differ (f ∷ fs) =
    ((λ k. true≢false (sym (in-filter_from (λ x. not (same_fact f x)) f (without_repeats fs) k).1 ∙ ap not (same_fact_self f))), kept-Differ _ (without_repeats fs) (once-Differ fs))

-- facts with those before each of them are closed
pub closed-IsClosed : (types : TypeTable) (variables : List ℕ) (fs : List Fact) → IsClosed types variables (λ f. IsIn f (closed types variables fs))
closed-IsClosed types variables fs f g h k =
    let from = in-flat_map_from (with_prefixes types variables) f fs (once-IsIn f _ h) in
    IsIn-once g _ (in-flat_map (with_prefixes types variables) from.0 g fs from.1 (with-closed types variables from.0 f g from.2 k))
