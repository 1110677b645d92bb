use Rattle.std.proofs.Common.{◌∙◌}
use Rattle.herm_graph.proofs.UnknownNames.{named-at}
use Rattle.herm_graph.proofs.unknown.unknown_in.Goals as goal

pub has_unknown-requires : goal.has_unknown-requires
has_unknown-requires c = record {
  named = c.as_slice.ensures.value ∙ named-at c.args.shapes.now c.args.next.now c.requires.named c.loop-t.t c.index-next-t.result c.index-shapes-t.result c.loop-t-test.true c.index-next-t.is c.index-shapes-t.is;
}
