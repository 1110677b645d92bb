use Rattle.std.proofs.Common.{Some}
use Rattle.herm_letters.specs.View.{reply_view}
use Rattle.herm_suits.proofs.Calls.{replies}
use Rattle.herm_suits.proofs.replies.is_reply_to.Goals as goal

pub returns : goal.returns
returns c = record { exactly = replies c.args.types.now.shapes (Some c.args.call_type.0) (reply_view c.args.reply.now) c.is_reply-answer.result c.is_reply-answer.ensures }
