-- What comes next, without the cells and the numbers that are found in the frame.
use Rattle.std.specs.Prelude.{ℕ, Bool, true, false, Option, Some, None, ⊤}
use Rattle.herm_instructions.specs.Instructions.{Instruction}
use Rattle.herm_code.specs.View.{instr_view}
use Rattle.herm_code_machine.specs.CodeStates.{Position, at_index, at_end, at_end_by}
use Rattle.herm_code_machine.specs.CodeSteps.{CodeNext, an_item, a_reply, an_action, a_local_piece, nothing}
use Rattle.herm_code_machine.specs.Pieces as pieces
use Rattle.herm_pieces.specs.View.{met_view, piece_view}
use Rattle.herm_steps.specs.declared.next.Next.{Next}
use Rattle.herm_steps.specs.declared.next.Next.TheVariants as nexts
use Rattle.herm_steps.specs.declared.running.End.{End}
use Rattle.herm_steps.specs.declared.running.End.TheVariants as ends

pub data Coming : Type 0 where
  coming_item : Coming
  coming_reply : (index : ℕ) → Instruction → Coming
  coming_action : pieces.Piece → pieces.Met → Coming
  coming_piece : pieces.Piece → Coming
  coming_nothing : Coming

abbrev pub coming : CodeNext ⊤ → Coming
coming (an_item item work) = coming_item
coming (a_reply call index instruction) = coming_reply index instruction
coming (an_action p m) = coming_action p m
coming (a_local_piece p) = coming_piece p
coming nothing = coming_nothing

abbrev pub next_view : Next → Coming
next_view nexts.Item = coming_item
next_view (nexts.Reply m) = coming_reply m.index (instr_view m.instruction.now)
next_view (nexts.Action p m) = coming_action (piece_view p) (met_view m)
next_view (nexts.Local p) = coming_piece (piece_view p)
next_view nexts.Nothing = coming_nothing

-- what comes next begins with a step, which is counted
abbrev pub begins_with_step : Coming → Bool
begins_with_step coming_item = false
begins_with_step (coming_reply index instruction) = false
begins_with_step (coming_action p m) = p.has_step
begins_with_step (coming_piece p) = p.has_step
begins_with_step coming_nothing = false

-- a local step or nothing comes next, so nothing is wanted
abbrev pub wants_nothing : Coming → Bool
wants_nothing coming_item = false
wants_nothing (coming_reply index instruction) = false
wants_nothing (coming_action p m) = false
wants_nothing (coming_piece p) = true
wants_nothing coming_nothing = true

-- the end at a position
abbrev pub end_at : Position → Option (Option ℕ)
end_at (at_index i) = None
end_at at_end = Some None
end_at (at_end_by e) = Some (Some e)

-- A process has ended where nothing comes next, at an end. Code reference, "Processes".
abbrev pub ended_at : Coming → Position → Option (Option ℕ)
ended_at coming_item p = None
ended_at (coming_reply index instruction) p = None
ended_at (coming_action q m) p = None
ended_at (coming_piece q) p = None
ended_at coming_nothing p = end_at p

-- the position of an end
abbrev pub end_position : Option ℕ → Position
end_position None = at_end
end_position (Some e) = at_end_by e

-- an end, by an exception or not
abbrev pub end_view : End → Option ℕ
end_view ends.Normal = None
end_view (ends.By e) = Some e.0
