use Rattle.std.proofs.Common.{◌+◌, arith}
use Rattle.herm_world.specs.Reported.{IsAtRest, IsEndOf}
use Rattle.herm_world.proofs.AlikeOn.{alike-all, alike-next, one-of-all}
use Rattle.herm_world.proofs.ends.ends_of.Goals as goal

pub end_of-requires : goal.end_of-requires
end_of-requires c = record { rest = one-of-all IsAtRest c.args.processes.now c.loop-process.process-index c.process-item.result c.loop-process-test.true c.process-item.is c.requires.rest }

pub loop-process-preserved : goal.loop-process-preserved
loop-process-preserved c =
    alike-next IsEndOf c.args.processes.now c.loop-process.process-index c.process-item.result c.loop-process.ends.items c.push.new.self.items c.in_ok-end.end c.loop-process-test.true c.process-item.is c.in_ok-push.ensures.items c.in_ok-end.ensures.end
    c.loop-process.invariant

pub returns : goal.returns
returns c = record { ends = alike-all IsEndOf c.args.processes.now c.loop-process.process-index c.loop-process.ends.items c.loop-process-test.false c.loop-process.invariant }
