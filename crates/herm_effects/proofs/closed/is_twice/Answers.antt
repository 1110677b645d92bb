use Rattle.std.proofs.Common.{sym, ◌∙◌}
use Rattle.herm_types.specs.View.{fact_view}
use Rattle.herm_effects.proofs.Single.{closed_first}
use Rattle.herm_effects.proofs.closed.is_twice.Goals as goal

pub returns-then-is_of_variable : goal.returns-then-is_of_variable
returns-then-is_of_variable c = λ t types variables.
    closed_first types variables fact_view c.args.facts.now c.fact-item.result c.other-item.result c.in-len2.len_at_least c.in-len2.len_below c.fact-item.is c.other-item.is
    (c.is_of_variable.ensures c.if-is_of_variable.true types variables) (sym c.same_fact.ensures ∙ t)
