use Rattle.std.proofs.Common.{◌≡◌, map, take}
use Rattle.herm_types.specs.View.{fact_view}
use Rattle.herm_types.specs.Table.{shapes_view}
use Rattle.herm_types.specs.Messages.{closed_list}
use Rattle.herm_types.proofs.declared.closed.Given as goal

abbrev pub invariant-loop-fact : goal.invariant-loop-fact
invariant-loop-fact l = map fact_view l.list.keys ≡ closed_list (shapes_view l.shapes) l.message.0 (map fact_view (take l.fact-index l.listed))
