use Rattle.std.proofs.Common.{suc, sym, subst, arith}
use Rattle.herm_events.specs.Rising.{HistoryState, IsAboveLast}
use Rattle.herm_queue.proofs.AboveLast.{above-more, above-self}
use Rattle.herm_queue.proofs.log.Log.record_action.Goals as goal

pub push-requires-clause-above : goal.push-requires-clause-above
push-requires-clause-above c = above-more c.self.inside.history.entries (suc c.self.inside.clock.0) c.next_stamp-stamp.result.0 c.self.invariant (omega (arith, c.next_stamp-stamp.ensures.stamp))

pub invariant_of-self : goal.invariant_of-self
invariant_of-self c = subst (λ (h : HistoryState). IsAboveLast (suc c.next_stamp-stamp.result.0) h.entries) (sym c.push.ensures.pushed) (above-self c.self.inside.history.entries _)
