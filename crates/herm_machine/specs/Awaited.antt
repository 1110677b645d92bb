-- What a process of code waits for, by its code.
use Rattle.std.specs.Prelude.{◌≡◌, ℕ, Option, Some, option_and_then, ⊤}
use Rattle.herm_model.specs.Values.{Value}
use Rattle.herm_journal.specs.Messages.{CellReply, IsMessage, IsReplyTo}
use Rattle.herm_system.specs.Machines.{OpenCall}
use Rattle.herm_instructions.specs.Instructions.{Instruction}
use Rattle.herm_code_machine.specs.CodeSeen.{code_open_call, code_port_type, type_of_call}
use Rattle.herm_code_machine.specs.CodeStates.{CodeState, Position}
use Rattle.herm_code_machine.specs.CodeSteps.{met_at}
use Rattle.herm_code_machine.specs.Pieces.{Met}
use Rattle.herm_code_machine.specs.ReadyCode.{ReadyCode}

-- a message of the port of this number, at which it looks
abbrev pub IsAwaited : ReadyCode → CodeState ⊤ → (port : ℕ) → Value → Type 0
IsAwaited c s port m = (t : ℕ) × (code_port_type c s port ≡ Some t) × IsMessage c.scope.types t m

-- a reply to its open call, which has this number
abbrev pub IsHeard : ReadyCode → CodeState ⊤ → (call : ℕ) → CellReply ⊤ → Type 0
IsHeard c s call r = (k : OpenCall) × (code_open_call c s ≡ Some k) × (k.number ≡ call) × IsReplyTo c.scope.types k.call_type r

-- a reply to this call, and to the one at a position
abbrev pub IsHeardBy : ReadyCode → Instruction → CellReply ⊤ → Type 0
IsHeardBy c i r = (t : Option ℕ) × (type_of_call c i ≡ Some t) × IsReplyTo c.scope.types t r

abbrev pub IsHeardAt : ReadyCode → Position → CellReply ⊤ → Type 0
IsHeardAt c p r = (m : Met) × (met_at c p ≡ Some m) × IsHeardBy c m.instruction r
