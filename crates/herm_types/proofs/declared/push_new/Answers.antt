use Rattle.std.proofs.Common.{◌∙◌, ap, map}
use Rattle.herm_types.specs.contracts.fact.FactPartialEq.TheImpl.{eq-value}
use Rattle.herm_types.specs.View.{fact_view}
use Rattle.herm_types.proofs.ClosedLists.{fact-same, with-fact}
use Rattle.herm_types.proofs.declared.push_new.Goals as goal

pub returns : goal.returns
returns c = ap (map fact_view) c.in_ok-insert.ensures.keys ∙ with-fact (eq-value).it fact-same c.args.list.now.keys c.args.fact
