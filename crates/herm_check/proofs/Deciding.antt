-- Tests of each element of a list.
use Rattle.std.proofs.Common.{◌≡◌, ◌⊎◌, inl, inr, ℕ, zero, suc, ◌+◌, ◌<◌, ◌≤◌, List, [], ◌∷◌, ◌++◌, map, take, drop, get_or, length, Bool, true, false, ◌||◌, refl, sym, ◌∙◌, ap, subst, arith, true≢false}
use Rattle.std.proofs.lemmas.List.{map_more, take_all}
use Rattle.herm_model.specs.Lists.{IsIn, any_pass}
use Rattle.herm_model.specs.Outcomes.{Outcome, same_outcome}
use Rattle.herm_model.proofs.Reached.{same_outcome_self}
use Rattle.herm_model.specs.ControlPaths as paths
use Rattle.herm_typed.specs.View.{outcome_view}
use Rattle.herm_flow.specs.declared.onward.OnwardPoint.{OnwardPoint}
use Rattle.herm_check.specs.View.{edge_in}
use Rattle.herm_flow.specs.declared.onward.OnwardEdge.{OnwardEdge as Edge}

before-or-last : {X : Type 0} (xs : List X) (x y : X) → IsIn y (xs ++ x ∷ []) → IsIn y xs ⊎ (y ≡ x)
before-or-last [] x y (inl e) = inr e
before-or-last [] x y (inr h) = absurd h
before-or-last (z ∷ xs) x y (inl e) = inl (inl e)
before-or-last (z ∷ xs) x y (inr h) = by (before-or-last xs x y h)
  where
    by : IsIn y xs ⊎ (y ≡ x) → IsIn y (z ∷ xs) ⊎ (y ≡ x)
    by (inl g) = inl (inr g)
    by (inr e) = inr e

pub all-more : {X Y : Type 0} (P : Y → Type 0) (view : X → Y) (xs : List X) (i : ℕ) (x : X) → i < length xs → x ≡ get_or xs i x → ((y : Y) → IsIn y (map view (take i xs)) → P y) → P (view x) → (y : Y) → IsIn y (map view (take (i + 1) xs)) → P y
all-more P view xs i x within is before last y member = by (before-or-last (map view (take i xs)) (view x) y (subst (IsIn y) (map_more view xs i x within ∙ ap (λ z. map view (take i xs) ++ view z ∷ []) (sym is)) member))
  where
    by : IsIn y (map view (take i xs)) ⊎ (y ≡ view x) → P y
    by (inl h) = before y h
    by (inr e) = subst P (sym e) last

pub all-done : {X Y : Type 0} (P : Y → Type 0) (view : X → Y) (xs : List X) (i : ℕ) → length xs ≤ i → ((y : Y) → IsIn y (map view (take i xs)) → P y) → (y : Y) → IsIn y (map view xs) → P y
all-done P view xs i all h = subst (λ ys. (y : _) → IsIn y (map view ys) → P y) (take_all i xs all) h

pub drop-step : {X : Type 0} (xs : List X) (i : ℕ) (x : X) → i < length xs → x ≡ get_or xs i x → drop i xs ≡ x ∷ drop (i + 1) xs
drop-step [] i x within is = absurd (omega arith)
drop-step (y ∷ xs) zero x within is = ap (λ z. z ∷ xs) (sym is)
drop-step (y ∷ xs) (suc i) x within is = drop-step xs i x (omega arith) is ∙ ap (λ n. x ∷ drop n (y ∷ xs)) (let e : suc (i + 1) ≡ suc i + 1 = omega arith in e)

pub apart : (o : Outcome) (es : List Edge) → any_pass (same_outcome o) (map (λ (e : Edge). outcome_view e.outcome) es) ≡ false → IsIn o (map (λ (e : Edge). outcome_view e.outcome) es) → ⊥
apart o [] none member = member
apart o (e ∷ es) none (inl same) = by (same_outcome o (outcome_view e.outcome)) (subst (λ x. same_outcome o x ≡ true) same (same_outcome_self o)) none
  where
    by : (b : Bool) → b ≡ true → (b || any_pass (same_outcome o) (map (λ (d : Edge). outcome_view d.outcome) es)) ≡ false → ⊥
    by true t n = true≢false n
    by false t n = true≢false (sym t)
apart o (e ∷ es) none (inr m) = apart o es (by (same_outcome o (outcome_view e.outcome)) none) m
  where
    by : (b : Bool) → (b || any_pass (same_outcome o) (map (λ (d : Edge). outcome_view d.outcome) es)) ≡ false → any_pass (same_outcome o) (map (λ (d : Edge). outcome_view d.outcome) es) ≡ false
    by true n = absurd (true≢false n)
    by false n = n

-- outcomes as contracts see them
pub same-outcomes : (p : OnwardPoint) (es : List Edge) → map (λ (e : Edge). outcome_view e.outcome) es ≡ map (λ (e : paths.Edge). e.outcome) (map (edge_in p) es)
same-outcomes p [] = refl
same-outcomes p (e ∷ es) = ap (λ os. outcome_view e.outcome ∷ os) (same-outcomes p es)
