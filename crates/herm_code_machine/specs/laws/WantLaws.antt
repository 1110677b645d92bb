-- What is claimed of what processes of code want: it is for the front of the work list, for the open call, or for the next action.
use Rattle.std.specs.Prelude.{ℕ, suc, List, [], ◌∷◌, Option, Some, None, IsTrue, ⊤, ◌≡◌, ◌⊎◌}
use Rattle.herm_model.specs.Paths.{Path}
use Rattle.herm_model.specs.Values.{Name, Kind, a_callmessage, an_inport, Cell, cell, no_parts}
use Rattle.herm_journal.specs.Actions.{gone, new_port, new_process, to_put, to_take, to_close, to_answer, to_hear}
use Rattle.herm_journal.specs.Messages.{CellWant}
use Rattle.herm_forms.specs.Exchanges.{outport_at, ports_at}
use Rattle.herm_instructions.specs.Actions.{is_action}
use Rattle.herm_instructions.specs.Instructions.{Instruction, Step, New, Send, Call, Return, ReturnBy, Create}
use Rattle.herm_code_machine.specs.CodeInstance.{code_at, code_machine}
use Rattle.herm_code_machine.specs.CodeLocal.{IsSoundCodeIn}
use Rattle.herm_code_machine.specs.CodeSeen.{ports_of}
use Rattle.herm_code_machine.specs.CodeStates.{CodeState}
use Rattle.herm_code_machine.specs.ReadyCode.{ReadyCode, ReadyImage}
use Rattle.herm_code_machine.specs.laws.StandingLaws.{LeadsToAction, IsAtInstruction}

-- the outport of a send or a call
abbrev pub outport_of : Instruction → Option Path
outport_of (Send x o trim) = Some o
outport_of (Call o arguments keeps) = Some o
outport_of i = None

abbrev pub IsReturn : Instruction → Type 0
IsReturn (Return m) = ⊤
IsReturn (ReturnBy m e kept) = ⊤
IsReturn i = ⊥

module _ (c : ReadyCode) (x : CodeState Name) where
  -- the front of the work list is a cell of this kind
  abbrev pub IsFront : Kind → Type 0
  IsFront k = (name : Name) × (work : List (Cell Name)) × (x.frame.work ≡ cell name k no_parts ∷ work)

  -- the process is at this action, or at a step that leads to it
  pub data IsNextAction (action : Instruction) : Type 0 where
    it_is_there : (i : ℕ) → IsAtInstruction c x i action → IsTrue (is_action c.scope.types action) → IsNextAction action
    behind_its_step : (i : ℕ) → IsAtInstruction c x i Step → LeadsToAction c (suc i) action → IsNextAction action

  -- What it wants is for the front of its work list, where something waits to be finalised; for the reply, where nothing does and a call is
  -- open; and else for its next action: a message for that outport, and the ports that it looks at in written order.
  -- Code reference, "Processes".
  abbrev pub WantsFor : CellWant Name → Type 0
  WantsFor new_port = (p : Path) × (t : ℕ) × IsNextAction (New p t)
  WantsFor (new_process n) = (o : Path) × IsNextAction (Create o n)
  WantsFor (to_put n m) = (i : Instruction) × (o : Path) × IsNextAction i × (outport_of i ≡ Some o) × (outport_at o x.frame ≡ Some n)
  WantsFor (to_take ports) = (i : Instruction) × IsNextAction i × (ports_at (ports_of i) x.frame ≡ Some ports)
  WantsFor (to_close n) = IsFront (an_inport n)
  WantsFor (to_answer caller call r) = (IsFront (a_callmessage caller call) × (r ≡ gone)) ⊎ ((i : Instruction) × IsNextAction i × IsReturn i)
  WantsFor to_hear = (call : ℕ) × (x.frame.work ≡ []) × (x.frame.call ≡ Some call)

-- It is so of each process that is sound within itself. Code reference, "Sound states of code".
abbrev pub WantsAreInOrder : Type 0
WantsAreInOrder = (image : ReadyImage) (x : CodeState Name) → IsSoundCodeIn image x → (c : ReadyCode) → code_at image x ≡ Some c → (w : CellWant Name) → (code_machine image).wanted x ≡ Some w → WantsFor c x w
