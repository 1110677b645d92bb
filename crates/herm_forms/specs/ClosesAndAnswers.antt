-- What waits on a work list: the close of an inport, with what is left at its port, and the answer of a callmessage.
use Rattle.std.specs.Prelude.{Option, Some, None}
use Rattle.herm_model.specs.Values.{a_callmessage, an_inport, Cell, cell}
use Rattle.herm_journal.specs.Actions.{gone, to_close, to_answer, close, answer}
use Rattle.herm_forms.specs.Frames.{Frame, Completion, stays, stuck, finalise_all, finalise_at_once}
use Rattle.herm_journal.specs.Messages.{CellWant, CellAction}

-- What the front of a work list wants: an inport to be closed, a callmessage to be answered with nothing.
-- Language reference, "Finalising".
abbrev pub work_wants : {N : Type 0} → Cell N → Option (CellWant N)
work_wants (cell n (an_inport port) ps) = Some (to_close port)
work_wants (cell n (a_callmessage caller call) ps) = Some (to_answer caller call gone)
work_wants (cell n k ps) = None

-- What was done with the front of the work list: of a closed port the messages are finalised in the order of its
-- queue and then its own cell, and a callmessage's cell is. Language reference, "Finalising".
abbrev pub work_done : {N : Type 0} → Cell N → CellAction N → Frame N → Completion N
work_done item (close count left) b = stays (finalise_at_once item (finalise_all left b))
work_done item (answer k r) b = stays (finalise_at_once item b)
work_done item _ b = stuck
