use Rattle.std.proofs.Common.{◌∙◌}
use Rattle.herm_types.specs.Table.{says}
use Rattle.herm_types.specs.Chosen.{lists}
use Rattle.herm_graph.proofs.Copying.{copyable-exact}
use Rattle.herm_graph.proofs.Telling.{told}
use Rattle.herm_graph.proofs.copies.copyable_of.Goals as goal

pub returns : goal.returns
returns c t = told (says c.in_ok-copyable.copyable.items t) (copyable-exact c.args.shapes.now c.as_slice.result.now c.in_ok-copyable.copyable.items (lists c.args.composed.now) (c.as_slice.ensures.value ∙ c.in_ok-may.ensures) c.requires.composed c.in_ok-copyable.ensures t)
