use Rattle.std.proofs.Common.{subst}
use Rattle.herm_process.specs.declared.next.Next.TheVariants as nexts
use Rattle.herm_world.proofs.TakenFrom.{IsNextFor, taking-acts, taken-ports}
use Rattle.herm_world.proofs.doing.ports_of.Goals as goal

pub returns : goal.returns
returns c = record { takes = taken-ports c.args.process.now c.in-Act.want c.ports_in.result c.requires.taking (subst (IsNextFor c.args.process.now) c.in-Act.is c.next.ensures.next) c.ports_in.ensures.ports }

pub unreachable-requires : goal.unreachable-requires
unreachable-requires c = taking-acts c.args.process.now nexts.Local c.requires.taking (subst (IsNextFor c.args.process.now) c.in-Local.is c.next.ensures.next) tt

pub unreachable-requires-in-Ended : goal.unreachable-requires-in-Ended
unreachable-requires-in-Ended c = taking-acts c.args.process.now (nexts.Ended c.in-Ended.field-0) c.requires.taking (subst (IsNextFor c.args.process.now) c.in-Ended.is c.next.ensures.next) tt

pub unreachable-requires-in-Stopped : goal.unreachable-requires-in-Stopped
unreachable-requires-in-Stopped c = taking-acts c.args.process.now (nexts.Stopped c.in-Stopped.field-0) c.requires.taking (subst (IsNextFor c.args.process.now) c.in-Stopped.is c.next.ensures.next) tt
