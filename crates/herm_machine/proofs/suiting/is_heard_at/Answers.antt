use Rattle.std.proofs.Common.{ap}
use Rattle.herm_code.specs.View.{instr_view}
use Rattle.herm_letters.specs.View.{reply_view}
use Rattle.herm_pieces.specs.View.{position_view, ready_view}
use Rattle.herm_machine.proofs.Awaited.{heard-at}
use Rattle.herm_machine.proofs.suiting.is_heard_at.Goals as goal

pub returns : goal.returns
returns c = record {
  exactly = heard-at (ready_view c.args.code.now) (position_view c.args.position) c.in-At.index (instr_view c.in-Some.instruction.now) (reply_view c.args.reply.now) c.is_heard_by.result (ap position_view c.in-At.is) c.in-Some.ensures.instruction c.is_heard_by.ensures.exactly;
}
