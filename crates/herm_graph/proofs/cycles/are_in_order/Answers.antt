use Rattle.std.proofs.Common.{◌≡◌, ◌<◌, ◌≤◌, sym, refl, arith, ℕ, false, length}
use Rattle.herm_types.specs.Table.{says}
use Rattle.herm_types.specs.Chosen.{lists}
use Rattle.herm_graph.specs.Graph.{IsNext, number_at}
use Rattle.herm_graph.proofs.Nexts.{order-more, up-to, next-within}
use Rattle.herm_graph.proofs.cycles.are_in_order.Goals as goal

pub loop-t-preserved : goal.loop-t-preserved
loop-t-preserved c =
    up-to (λ t. (u : ℕ) → IsNext (lists c.args.next.now) t u → u < length (lists c.args.next.now) → (number_at c.args.places.now t ≤ number_at c.args.places.now u) × (says c.args.rings.now t ≡ false → number_at c.args.places.now t < number_at c.args.places.now u))
    c.loop-t.t c.loop-t.invariant
    (order-more c.args.next.now c.args.places.now c.args.rings.now c.as_slice.result.now c.index-next-t.result c.loop-t.t (length c.args.next.now) c.number_at-place.result c.says-in_ring.result c.loop-t-test.true c.index-next-t.is c.as_slice.ensures.value refl c.number_at-place.ensures c.says-in_ring.ensures (sym c.if-not-come_behind.ensures))

pub returns : goal.returns
returns c holds t u n there = c.loop-t.invariant t (omega (arith, next-within c.args.next.now t u n, c.loop-t-test.false)) u n there
