use Rattle.std.proofs.Common.{◌∙◌, ap, length, arith, filter, nat_eq}
use Rattle.herm_graph.specs.Graph.{number_at}
use Rattle.herm_graph.proofs.Nexts.{inside-more, length-push}
use Rattle.herm_graph.proofs.cycles.within_groups.Goals as goal

pub loop-t-preserved : goal.loop-t-preserved
loop-t-preserved c =
    let same = c.in_ok-same.ensures
    ∙ (ap (λ f. filter (λ u. nat_eq (number_at c.args.firsts.now u) f) c.as_slice.result.now) c.number_at-first.ensures
    ∙ ap (filter (λ u. nat_eq (number_at c.args.firsts.now u) (number_at c.args.firsts.now c.loop-t.t))) c.as_slice.ensures.value) in
    record {
      each = omega (arith, ap length c.in_ok-push.ensures.items, length-push c.loop-t.all.items c.in_ok-same.same, c.loop-t.invariant.each);
      inside = rw c.in_ok-push.ensures.items (inside-more c.args.firsts.now c.args.next.now c.loop-t.all.items c.in_ok-same.same c.index-next-t.result c.loop-t.t c.loop-t.invariant.inside c.loop-t.invariant.each c.loop-t-test.true c.index-next-t.is same);
    }
