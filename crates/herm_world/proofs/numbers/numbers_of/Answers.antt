use Rattle.std.proofs.Common.{length, ap, arith}
use Rattle.herm_world.specs.Reported.{AreCountsOf}
use Rattle.herm_world.proofs.AlikeOn.{alike-long}
use Rattle.herm_world.proofs.numbers.numbers_of.Goals as goal

pub counts_of-requires : goal.counts_of-requires
counts_of-requires c = record {
  few = omega (arith, c.requires.few, ap length c.as_slice.ensures.value, alike-long AreCountsOf c.args.processes.now c.in_ok-counts.counts.items c.in_ok-counts.ensures.counts);
}
