-- The reply that a want carries.
use Rattle.std.specs.Prelude.{Option, Some, None, ⊤}
use Rattle.herm_journal.specs.Actions.{new_port, new_process, to_put, to_take, to_close, to_answer, to_hear}
use Rattle.herm_journal.specs.Messages.{CellReply, CellWant}

abbrev pub reply_in : CellWant ⊤ → Option (CellReply ⊤)
reply_in new_port = None
reply_in (new_process code) = None
reply_in (to_put port m) = None
reply_in (to_take ports) = None
reply_in (to_close port) = None
reply_in (to_answer caller call reply) = Some reply
reply_in to_hear = None
