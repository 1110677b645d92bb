use Rattle.std.proofs.Common.{sym, subst, ℕ}
use Rattle.herm_model.specs.Types.{TypeTable}
use Rattle.herm_model.specs.Copyable.{IsCopyable}
use Rattle.herm_model.specs.WellFormedTables.{IsType}
use Rattle.herm_types.specs.Table.{says}
use Rattle.herm_graph.specs.Depth.{IsBeyond}
use Rattle.herm_graph.specs.Met.{SayCycles}
use Rattle.herm_graph.specs.Tells.{Tells}
use Rattle.herm_graph.proofs.analysis.tests_of.Goals as goal

pub returns : goal.returns
returns c = record {
  analyses = λ table e r. record {
    cycles = subst (λ (shapes : TypeTable). SayCycles shapes c.in_ok-cycles.cycles.items) (sym e) c.in_ok-cycles.ensures.said;
    meets_cycle = c.in_ok-meets_cycle.ensures table e;
    meets_unknown = c.in_ok-meets_unknown.ensures table e r;
    deep = subst (λ (shapes : TypeTable). (t : ℕ) → IsType shapes t → Tells (says c.in_ok-deep.deep.items t) (IsBeyond shapes t)) (sym e) c.in_ok-deep.ensures;
    copyable = subst (λ (shapes : TypeTable). (t : ℕ) → Tells (says c.in_ok-copyable.copyable.items t) (IsCopyable shapes t)) (sym e) c.in_ok-copyable.ensures;
    unsettled = c.in_ok-unsettled.ensures table e;
  };
}
