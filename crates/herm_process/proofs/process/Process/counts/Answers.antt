use Rattle.std.proofs.Common.{arith}
use Rattle.herm_process.proofs.process.Process.counts.Goals as goal

pub returns : goal.returns
returns c = record {
  counts = λ image main x h.
      let n = c.sums-sums.ensures.sums image main x h in
      (omega (arith, n.steps, h.steps, c.sums-sums.ensures.few, c.min.ensures), omega (arith, n.actions, h.actions, c.min-2.ensures));
}
