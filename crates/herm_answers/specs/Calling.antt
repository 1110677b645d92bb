-- Instructions that send or call.
use Rattle.std.specs.Prelude.{Bool, true, false}
use Rattle.herm_instructions.specs.Instructions.{Instruction, Send, Call}

abbrev pub is_send : Instruction → Bool
is_send (Send x o trim) = true
is_send _ = false

abbrev pub is_call : Instruction → Bool
is_call (Call o arguments keeps) = true
is_call _ = false
