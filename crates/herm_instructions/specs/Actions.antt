-- Which instructions begin a step, and which are actions.
use Rattle.std.specs.Prelude.{Bool, true, false, slice_get}
use Rattle.herm_model.specs.Lists.{map_or}
use Rattle.herm_model.specs.Types.{TypeTable, Shape, inport}
use Rattle.herm_instructions.specs.Instructions.{Instruction, Step, New, Send, Receive, Select, Call, Return, ReturnBy, Create}

abbrev pub is_step : Instruction → Bool
is_step Step = true
is_step _ = false

abbrev pub is_inport_shape : Shape → Bool
is_inport_shape (inport message declared) = true
is_inport_shape _ = false

-- These instructions want something of a place outside the process: a new inport, a message that goes or comes, a call, an
-- answer, a new process. Code reference, "Pieces".
abbrev pub is_action : TypeTable → Instruction → Bool
is_action types (New x t) = map_or false is_inport_shape (slice_get types t)
is_action types (Send x o trim) = true
is_action types (Receive x i) = true
is_action types (Select arms) = true
is_action types (Call o arguments keeps) = true
is_action types (Return m) = true
is_action types (ReturnBy m e kept) = true
is_action types (Create o n) = true
is_action types _ = false
