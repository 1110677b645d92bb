use Rattle.std.proofs.Common.{◌≡◌, refl, inl, inr, arith, sym, [], subst, true≢false}
use Rattle.herm_model.specs.Nodes.{Node}
use Rattle.herm_model.specs.TypedStatements.{IsTypedForm}
use Rattle.herm_model.specs.Values.{an_inport}
use Rattle.herm_model.proofs.Options.{some-injective}
use Rattle.herm_source.specs.examples.CheckedExamples.{port_to_component}
use Rattle.herm_source.proofs.checked_examples.targets_in_components_break_places.Goals as goal

pub returns-clause-broken : goal.returns-clause-broken
returns-clause-broken c all = let same : 7 ≡ 1 = some-injective (all 1 (an_inport 1) (inr (inl refl))) in let z : ⊥ = omega (arith, same) in z

pub returns-clause-untyped : goal.returns-clause-untyped
returns-clause-untyped c h =
    let typed = subst (λ (n : Node). IsTypedForm port_to_component.types port_to_component.variables 7 [] n.form) (sym (some-injective h.1)) h.2 in
    true≢false typed.2.1
