use Rattle.std.proofs.Common.{sym, [], true≢false}
use Rattle.herm_model.specs.Nodes.{Node}
use Rattle.herm_model.specs.TypedStatements.{IsTypedForm}
use Rattle.herm_model.proofs.Options.{some-injective}
use Rattle.std.proofs.Common.{subst}
use Rattle.herm_source.specs.examples.CheckedExamples.{component_target}
use Rattle.herm_source.proofs.checked_examples.targets_in_components_are_stuck.Goals as goal

pub returns-clause-untyped : goal.returns-clause-untyped
returns-clause-untyped c h =
    let typed = subst (λ (n : Node). IsTypedForm component_target.types component_target.variables 7 [] n.form) (sym (some-injective h.1)) h.2 in
    true≢false typed.2.1
