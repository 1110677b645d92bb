-- The texts of refusals, part by part.
use Rattle.std.proofs.Common.{◌≡◌, ℕ, List, [], ◌∷◌, ◌++◌, Bool, true, false, cond, nat_eq, codes, get_or, refl, ap, ◌∙◌, append_assoc, append-nil, sym}
use Rattle.std.specs.Prelude.{decimal}
use Rattle.std.proofs.lemmas.Bool.{eqb-true}
use Rattle.herm_refusals.specs.declared.fault.Fault.{Fault}
use Rattle.herm_refusals.specs.RefusalLines.{place_text, refusal_text, refusals_text}

-- the place of a fault of a file
pub place-spot : (names : List (List ℕ)) (fault : Fault) (name : List ℕ) → (fault.line ≡ 0 → ⊥) → name ≡ get_or names fault.file [] → name ++ (58 ∷ (decimal fault.line ++ (58 ∷ decimal fault.column))) ≡ place_text names fault
place-spot names fault name other is = ap (λ xs. xs ++ (58 ∷ (decimal fault.line ++ (58 ∷ decimal fault.column)))) is ∙ by (nat_eq fault.line 0) refl
  where
    spot : List ℕ
    spot = get_or names fault.file [] ++ (58 ∷ (decimal fault.line ++ (58 ∷ decimal fault.column)))

    by : (b : Bool) → nat_eq fault.line 0 ≡ b → spot ≡ cond b (codes "hermes") spot
    by true e = absurd (other (eqb-true fault.line 0 e))
    by false e = refl

-- one refusal more
pub refusals-more : (names : List (List ℕ)) (faults : List Fault) (fault : Fault) → refusals_text names faults ++ refusal_text names fault ≡ refusals_text names (faults ++ fault ∷ [])
refusals-more names [] fault = sym (append-nil (refusal_text names fault))
refusals-more names (f ∷ faults) fault = append_assoc (refusal_text names f) (refusals_text names faults) (refusal_text names fault) ∙ ap (λ xs. refusal_text names f ++ xs) (refusals-more names faults fault)

-- the lines of the first refusals and those behind them
pub refusals-apart : (names : List (List ℕ)) (faults more : List Fault) → refusals_text names faults ++ refusals_text names more ≡ refusals_text names (faults ++ more)
refusals-apart names [] more = refl
refusals-apart names (f ∷ faults) more = append_assoc (refusal_text names f) (refusals_text names faults) (refusals_text names more) ∙ ap (λ xs. refusal_text names f ++ xs) (refusals-apart names faults more)
