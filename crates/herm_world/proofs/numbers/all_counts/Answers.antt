use Rattle.std.proofs.Common.{◌≡◌, None, arith}
use Rattle.herm_process.specs.Processes.{ProcessState}
use Rattle.herm_world.specs.Reported.{AreCountsOf}
use Rattle.herm_world.proofs.AlikeOn.{alike-all, alike-next, one-of-all}
use Rattle.herm_world.proofs.numbers.all_counts.Goals as goal

pub loop-process-preserved : goal.loop-process-preserved
loop-process-preserved c =
    alike-next AreCountsOf c.args.processes.now c.loop-process.process-index c.process-item.result c.loop-process.counts.items c.push.new.self.items c.process_counts.result c.loop-process-test.true c.process-item.is c.in_ok-push.ensures.items
    c.process_counts.ensures.counts c.loop-process.invariant

pub returns : goal.returns
returns c = record { counts = alike-all AreCountsOf c.args.processes.now c.loop-process.process-index c.loop-process.counts.items c.loop-process-test.false c.loop-process.invariant }
