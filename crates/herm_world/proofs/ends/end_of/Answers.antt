use Rattle.std.proofs.Common.{ap, subst, ◌∙◌}
use Rattle.herm_system.specs.ProcessFates.{waits}
use Rattle.herm_world.proofs.ProcessEnds.{IsNextFor, ended-end, local-never, stopped-end, waiting-end}
use Rattle.herm_world.proofs.ends.end_of.Goals as goal

pub waits_on-requires-clause-wants : goal.waits_on-requires-clause-wants
waits_on-requires-clause-wants c image main x is = let h = subst (IsNextFor c.args.process.now) c.in-Act.is c.next.ensures.next image main x is in (h.1, h.2, h.3)

pub returns-in-Act : goal.returns-in-Act
returns-in-Act c = record {
  end = waiting-end c.args.process.now c.in-Act.want c.wait_of.result (subst (IsNextFor c.args.process.now) c.in-Act.is c.next.ensures.next) (λ image main x is. c.wait_of.ensures.waits ∙ ap waits (c.in_ok-ports-in-Act.ensures.ports image main x is));
}

pub returns-in-Ended : goal.returns-in-Ended
returns-in-Ended c = record { end = ended-end c.args.process.now c.in-Ended.stop c.stop_of.result (subst (IsNextFor c.args.process.now) c.in-Ended.is c.next.ensures.next) c.stop_of.ensures.end }

pub returns-in-Stopped : goal.returns-in-Stopped
returns-in-Stopped c = record { end = stopped-end c.args.process.now c.in-Stopped.reached c.spent_of.result (subst (IsNextFor c.args.process.now) c.in-Stopped.is c.next.ensures.next) c.spent_of.ensures.spent }

pub unreachable-requires : goal.unreachable-requires
unreachable-requires c = local-never c.args.process.now c.requires.rest (subst (IsNextFor c.args.process.now) c.in-Local.is c.next.ensures.next)
