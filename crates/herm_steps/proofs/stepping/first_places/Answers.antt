use Rattle.std.proofs.Common.{None, Some, ◌++◌, ◌∷◌, [], sym, ap, subst, ◌∙◌}
use Rattle.herm_values.specs.Whole.{AllWhole}
use Rattle.herm_values.specs.declared.value.Value.TheVariants as values
use Rattle.herm_steps.proofs.Begun.{first_whole, one_nothing}
use Rattle.herm_steps.proofs.stepping.first_places.Goals as goal

pub others-preserved : goal.others-preserved
others-preserved c = c.in_ok-push-2.ensures.items ∙ ap (λ vs. vs ++ None ∷ []) c.others.invariant ∙ ap (Some (values.Inport c.args.port) ∷◌) (one_nothing c.others._place)

pub returns-clause-whole : goal.returns-clause-whole
returns-clause-whole c = subst AllWhole (sym c.others.invariant) (first_whole c.args.port c.others._place)
