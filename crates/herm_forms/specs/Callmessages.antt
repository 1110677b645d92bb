-- How the message of a call is composed, and where it goes. Language reference, "Calls".
use Rattle.std.specs.Prelude.{ℕ, suc, ◌+◌, List, [], ◌∷◌, Option, Some, None, option_map, option_and_then, ⊤}
use Rattle.herm_model.specs.Paths.{Path}
use Rattle.herm_model.specs.Types.{Mode, by_in, by_inout, by_out}
use Rattle.herm_model.specs.Outcomes.{raised, disconnected}
use Rattle.herm_model.specs.Values.{a_callmessage, Cell, cell, Parts, no_parts, gap, part}
use Rattle.herm_model.specs.CellNames.{count_in, copy_in}
use Rattle.herm_journal.specs.Actions.{to_put, put}
use Rattle.herm_forms.specs.Frames.{Name, Frame, Completion, goes, stays, stuck, if_there, finalise_at_once, drop, take_all}
use Rattle.herm_journal.specs.Messages.{CellWant, CellAction}
use Rattle.herm_forms.specs.Exchanges.{outport_at}

-- The parameters of a callmessage by their modes: those of mode in are copies, those of mode inout were moved, those
-- of mode out have no value. None where there are too few or too many.
abbrev pub assemble : {N : Type 0} → List Mode → (copies : Parts N) → (moved : List (Cell N)) → Option (Parts N)
assemble [] no_parts [] = Some no_parts
assemble (by_in ∷ modes) (part c copies) moved = option_map (part c) (assemble modes copies moved)
assemble (by_inout ∷ modes) copies (c ∷ moved) = option_map (part c) (assemble modes copies moved)
assemble (by_out ∷ modes) copies moved = option_map gap (assemble modes copies moved)
assemble _ _ _ = None

-- a callmessage with its call's number, and the body that it leaves
pub record Composed (N : Type 0) : Type 0 where
  pub message : Cell N
  pub call : ℕ
  pub frame : Frame N

-- the callmessage of these parameters is made, and the call's number is used up
abbrev pub with_message : {N : Type 0} → (Name → N) → Frame N → Parts N → Composed N
with_message name b ps = record {
  message = cell (name (b.number, b.serial)) (a_callmessage b.number b.calls) ps;
  call = b.calls;
  frame = record b { serial = suc b.serial; calls = suc b.calls };
}

-- The callmessage of `call o(..)`: literal and copied arguments from left to right, then what moves out of the
-- arguments of mode inout, without what they hold beyond a full value, and then the callmessage's own cell.
-- Language reference, "Calls".
abbrev pub compose : {N : Type 0} → (Name → N) → List Mode → (inputs : Parts ⊤) → (lost moved : List Path) → Frame N → Option (Composed N)
compose name modes inputs lost moved b =
    option_and_then
    (λ taken. option_map (with_message name taken.frame) (assemble modes (copy_in (λ s. name (b.number, s)) b.serial inputs) taken.cells))
    (take_all moved (drop lost (record b { serial = b.serial + count_in inputs })))

-- what a call wants
abbrev pub call_wants : {N : Type 0} → Option (Composed N) → (port : Path) → Frame N → Option (CellWant N)
call_wants composed o b = option_and_then (λ port. option_map (λ c. to_put port c.message) composed) (outport_at o b)

-- The callmessage is at the port, and the call is open; or it comes back, and is finalised without an answer, and
-- then what the arguments of mode out hold. Language reference, "Calls".
abbrev pub call : {N : Type 0} → Option (Composed N) → (outs : List Path) → CellAction N → Completion N
call composed outs (put (Some k) m) = if_there (λ c. stays (record c.frame { call = Some c.call })) composed
call composed outs (put None m) = if_there (λ c. goes (raised disconnected) (drop outs (finalise_at_once m c.frame))) composed
call composed outs _ = stuck
