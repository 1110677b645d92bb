use Rattle.std.proofs.Common.{length}
use Rattle.herm_values.specs.View.{value_view}
use Rattle.herm_suits.proofs.Suited.{messages}
use Rattle.herm_suits.proofs.messages.is_message.Goals as goal

pub returns : goal.returns
returns c = record { exactly = messages c.args.types.now.shapes (length c.args.types.now.exceptions) c.keeps.ensures.well_named.well_formed (value_view c.args.message.now) c.args.port_type.0 c.is_message_at-answer.result c.is_message_at-answer.ensures }
