use Rattle.std.proofs.Common.{◌<◌, ◌∙◌, ap, sym, arith, length}
use Rattle.herm_graph.specs.Graph.{follows}
use Rattle.herm_graph.proofs.Reaching.{set-missing, reached-set, next-read}
use Rattle.herm_graph.proofs.graph.visit.Goals as goal

pub returns-clause-reached : goal.returns-clause-reached
returns-clause-reached c = reached-set c.args.rule c.args.goal.now _ c.args.found.now c.args.t c.index-next-place.result.items (next-read c.args.next.now c.args.t c.index-next-place.result c.if-place-next.false c.index-next-place.is)
    (ap (follows c.args.rule c.args.goal.now c.args.found.now c.args.t) (sym c.as_slice.ensures.value) ∙ sym c.if-not-follows.ensures)

pub returns-clause-count : goal.returns-clause-count
returns-clause-count c =
    let within : c.args.t < length c.args.found.now = omega (arith, c.requires.each, c.if-place-next.false) in
    set-missing c.args.found.now c.args.t _ within c.if-found-place.false
