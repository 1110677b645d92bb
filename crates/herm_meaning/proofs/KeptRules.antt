-- Parameters that exceptions keep, without a fault.
use Rattle.std.proofs.Common.{◌≡◌, inl, inr, ℕ, suc, ◌+◌, List, [], ◌∷◌, map, slice_get, Bool, true, false, cond, ◌||◌, Option, Some, None, IsTrue, refl, sym, ◌∙◌, ap, subst, arith, true≢false}
use Rattle.std.specs.Str.{bytes_eq}
use Rattle.std.specs.List.{list_any}
use Rattle.std.proofs.lemmas.Slice.Eq.{bytes_eq-Decides}
use Rattle.herm_model.specs.Lists.{IsIn}
use Rattle.herm_model.specs.Calls.{is_returned}
use Rattle.herm_model.specs.laws.FlowLaws.{Rise}
use Rattle.herm_model.specs.Outcomes.{disconnected}
use Rattle.herm_model.specs.Statements.{Differ}
use Rattle.herm_model.specs.Types as types
use Rattle.herm_model.proofs.Lists.{cons-not_nil, in-map_from}
use Rattle.herm_model.proofs.Options.{some-injective, none-not_some}
use Rattle.herm_syntax.specs.Trees.{Letters, Param, Raising}
use Rattle.herm_meaning.specs.Names.{NamedTable}
use Rattle.herm_meaning.specs.Walks.{place_of}
use Rattle.herm_meaning.specs.Meaning.{kept_places, parameter_meant, raising_meant}
use Rattle.herm_meaning.specs.DefinitionFaults.{IsNotReturned, KeepsBadly}
use Rattle.herm_meaning.proofs.NamePlaces.{its-place}
use Rattle.herm_meaning.proofs.TypeRules.{not-false}

found : (x : Letters) (xs : List Letters) → list_any (bytes_eq x) xs ≡ true → IsIn x xs
found x [] e = absurd (true≢false (sym e))
found x (y ∷ ys) e = by (bytes_eq x y) refl (found x ys) e
  where
    by : (b : Bool) → bytes_eq x y ≡ b → (list_any (bytes_eq x) ys ≡ true → IsIn x ys) → (b || list_any (bytes_eq x) ys) ≡ true → IsIn x (y ∷ ys)
    by true s again h = inl ((bytes_eq-Decides x y).0 s)
    by false s again h = inr (again h)

-- what is kept is a place at which a kept name stands
abbrev pub IsKeptAt : ℕ → List Letters → List Letters → ℕ → Type 0
IsKeptAt i names keeps m = (j : ℕ) × (x : Letters) × (m ≡ i + j) × (slice_get names j ≡ Some x) × IsIn x keeps

pub kept-in : (i : ℕ) (names keeps : List Letters) (m : ℕ) → IsIn m (kept_places i names keeps) → IsKeptAt i names keeps m
kept-in i [] keeps m h = absurd h
kept-in i (name ∷ names) keeps m h = by (list_any (bytes_eq name) keeps) refl h (kept-in (suc i) names keeps m)
  where
    later : IsKeptAt (suc i) names keeps m → IsKeptAt i (name ∷ names) keeps m
    later k = (suc k.0, k.1, (omega (arith, k.2)), k.3, k.4)

    by : (b : Bool) → list_any (bytes_eq name) keeps ≡ b → IsIn m (cond b (i ∷ kept_places (suc i) names keeps) (kept_places (suc i) names keeps)) → (IsIn m (kept_places (suc i) names keeps) → IsKeptAt (suc i) names keeps m) → IsKeptAt i (name ∷ names) keeps m
    by true e (inl s) again = (0, name, (omega (arith, s)), refl, found name keeps e)
    by true e (inr k) again = later (again k)
    by false e k again = later (again k)

kept-rise : (i : ℕ) (names keeps : List Letters) → Rise (kept_places i names keeps)
kept-rise i [] keeps = tt
kept-rise i (name ∷ names) keeps = by (list_any (bytes_eq name) keeps) (kept-rise (suc i) names keeps)
  where
    by : (b : Bool) → Rise (kept_places (suc i) names keeps) → Rise (cond b (i ∷ kept_places (suc i) names keeps) (kept_places (suc i) names keeps))
    by true again = ((λ m h. let k = kept-in (suc i) names keeps m h in omega (arith, k.2)), again)
    by false again = again

kept-none : (i : ℕ) (names : List Letters) → kept_places i names [] ≡ []
kept-none i [] = refl
kept-none i (name ∷ names) = kept-none (suc i) names

module _ (o : NamedTable) (params : List Param) (raises : List Raising) (right : (r : Raising) → IsIn r raises → KeepsBadly o params r → ⊥) where
  abbrev meant : Raising → types.Raised
  meant = raising_meant o.names o.exceptions params

  abbrev parameters : List types.Parameter
  parameters = map (parameter_meant o.names) params

  returned-at : (x : Letters) → (IsNotReturned o params x → ⊥) → (p : types.Parameter) × (slice_get parameters (place_of (map (λ p. p.1.0) params) x) ≡ Some p) × IsTrue (is_returned p.mode)
  returned-at x h = by (slice_get parameters (place_of (map (λ p. p.1.0) params) x)) refl
    where
      by : (s : Option types.Parameter) → slice_get parameters (place_of (map (λ p. p.1.0) params) x) ≡ s → (p : types.Parameter) × (slice_get parameters (place_of (map (λ p. p.1.0) params) x) ≡ Some p) × IsTrue (is_returned p.mode)
      by None e = absurd (h (λ p f r. none-not_some (sym e ∙ f)))
      by (Some p) e = (p, e, not-false (is_returned p.mode) (λ never. h (λ q f r. true≢false (sym r ∙ (ap (λ (s : types.Parameter). is_returned s.mode) (some-injective (sym f ∙ e)) ∙ never)))))

  pub kept-returned : Differ (map (λ p. p.1.0) params) → (r : types.Raised) → IsIn r (map meant raises) → (i : ℕ) → IsIn i r.kept → (p : types.Parameter) × (slice_get parameters i ≡ Some p) × IsTrue (is_returned p.mode)
  kept-returned differ r h i k =
      let from = in-map_from meant r raises h in
      let kept = kept-in 0 (map (λ p. p.1.0) params) from.0.1 i (subst (λ (s : types.Raised). IsIn i s.kept) from.2 k) in
      let place = its-place (map (λ p. p.1.0) params) kept.0 kept.1 differ kept.3 in
      let back = returned-at kept.1 (λ never. right from.0 from.1 (inl (kept.1, kept.4, never))) in
      let same : place_of (map (λ p. p.1.0) params) kept.1 ≡ i = omega (arith, place, kept.2) in
      (back.0, subst (λ j. slice_get parameters j ≡ Some back.0) same back.1, back.2)

  pub kept-rising : (r : types.Raised) → IsIn r (map meant raises) → Rise r.kept
  kept-rising r h =
      let from = in-map_from meant r raises h in
      subst (λ (s : types.Raised). Rise s.kept) (sym from.2) (kept-rise 0 (map (λ p. p.1.0) params) from.0.1)

  pub kept-disconnected : (r : types.Raised) → IsIn r (map meant raises) → r.exception ≡ disconnected → r.kept ≡ []
  kept-disconnected r h e =
      let from = in-map_from meant r raises h in
      ap (λ (s : types.Raised). s.kept) from.2 ∙ by from.0 from.0.1 refl (sym (ap (λ (s : types.Raised). s.exception) from.2) ∙ e) (right from.0 from.1)
    where
      by : (r : Raising) (keeps : List Letters) → r.1 ≡ keeps → place_of o.exceptions r.0 ≡ disconnected → (KeepsBadly o params r → ⊥) → kept_places 0 (map (λ p. p.1.0) params) keeps ≡ []
      by r [] same lost fine = kept-none 0 (map (λ p. p.1.0) params)
      by r (k ∷ keeps) same lost fine = absurd (fine (inr (lost, λ none. cons-not_nil k keeps (sym same ∙ none))))
