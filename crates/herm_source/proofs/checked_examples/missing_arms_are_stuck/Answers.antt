use Rattle.std.proofs.Common.{◌≡◌, inl, inr, ℕ, ◌<◌, arith, [], ◌∷◌, ◌++◌, length, sym, ap, ◌∙◌, slice_get, subst}
use Rattle.herm_model.specs.Lists.{IsIn}
use Rattle.herm_model.specs.Nodes.{Node}
use Rattle.herm_model.specs.Types.{predefined, cases, named_types}
use Rattle.herm_model.specs.Statements.{Case}
use Rattle.herm_model.specs.TypedStatements.{IsTypedForm}
use Rattle.herm_model.proofs.Options.{some-injective}
use Rattle.herm_source.proofs.checked_examples.missing_arms_are_stuck.Goals as goal

no-zero : IsIn {X = ℕ} 0 (1 ∷ []) → ⊥
no-zero (inl e) = let same = e in let z : ⊥ = omega (arith, same) in z
no-zero (inr h) = absurd h

untyped : IsTypedForm (predefined ++ cases (1 ∷ 2 ∷ []) ∷ []) (7 ∷ 8 ∷ 1 ∷ []) 7 [] (Case (1 ∷ []) (1 ∷ [])) → ⊥
untyped h =
    let type : 8 ≡ h.0 = some-injective h.2.0 in
    let shape : cases (1 ∷ 2 ∷ []) ≡ cases h.1 = some-injective (ap (slice_get (predefined ++ cases (1 ∷ 2 ∷ []) ∷ [])) type ∙ h.3) in
    no-zero ((h.5 0).1 (subst (λ ts. 0 < length ts) (ap named_types shape) (omega arith)))

pub returns-clause-untyped : goal.returns-clause-untyped
returns-clause-untyped c h = untyped (subst (λ (n : Node). IsTypedForm (predefined ++ cases (1 ∷ 2 ∷ []) ∷ []) (7 ∷ 8 ∷ 1 ∷ []) 7 [] n.form) (sym (some-injective h.1)) h.2)
