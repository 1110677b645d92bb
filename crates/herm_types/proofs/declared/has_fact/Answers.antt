use Rattle.std.proofs.Common.{◌∙◌}
use Rattle.herm_types.specs.contracts.fact.FactPartialEq.TheImpl.{eq-value}
use Rattle.herm_types.proofs.ClosedLists.{fact-same, any-same}
use Rattle.herm_types.proofs.declared.has_fact.Goals as goal

pub returns : goal.returns
returns c = c.contains.ensures ∙ any-same (eq-value).it fact-same c.args.fact.now c.args.list.now.keys
