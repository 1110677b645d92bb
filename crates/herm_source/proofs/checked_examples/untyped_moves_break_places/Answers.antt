use Rattle.std.proofs.Common.{◌≡◌, refl, inl, arith, sym, ◌∙◌, [], subst}
use Rattle.herm_model.specs.Nodes.{Node}
use Rattle.herm_model.specs.TypedStatements.{IsTypedForm}
use Rattle.herm_model.specs.Values.{an_inport}
use Rattle.herm_model.proofs.Options.{some-injective}
use Rattle.herm_source.specs.examples.CheckedExamples.{other_port}
use Rattle.herm_source.proofs.checked_examples.untyped_moves_break_places.Goals as goal

pub returns-clause-broken : goal.returns-clause-broken
returns-clause-broken c all = let same : 7 ≡ 8 = some-injective (all 8 (an_inport 1) (inl refl)) in let z : ⊥ = omega (arith, same) in z

pub returns-clause-untyped : goal.returns-clause-untyped
returns-clause-untyped c h =
    let typed = subst (λ (n : Node). IsTypedForm other_port.types other_port.variables 7 [] n.form) (sym (some-injective h.1)) h.2 in
    let same : 7 ≡ 8 = some-injective (typed.1.0.0 ∙ sym typed.2.0.0) in
    let z : ⊥ = omega (arith, same) in z
