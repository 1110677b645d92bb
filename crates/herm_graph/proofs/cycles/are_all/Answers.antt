use Rattle.herm_types.specs.Table.{shapes_view}
use Rattle.herm_types.specs.Chosen.{lists}
use Rattle.herm_graph.proofs.Orders.{all-told}
use Rattle.herm_graph.proofs.cycles.are_all.Goals as goal

pub returns : goal.returns
returns c holds = all-told (shapes_view c.args.shapes.now) (lists c.args.next.now) c.requires.named c.args.places.now c.args.rings.now (c.are_in_order.ensures holds)
