-- What code made ready, positions, pieces and outcomes stand for: those of the machine of code.
use Rattle.std.specs.Prelude.{ℕ, cond, map, Option, Some, None}
use Rattle.herm_model.specs.Outcomes as outcomes
use Rattle.herm_model.specs.Types.{TypeTable}
use Rattle.herm_base.specs.declared.numbers.ExcNo.{ExcNo}
use Rattle.herm_instructions.specs.Actions.{is_action}
use Rattle.herm_instructions.specs.Images.{Landing}
use Rattle.herm_instructions.specs.Instructions.{Instruction}
use Rattle.herm_instructions.specs.Places.{label_at}
use Rattle.herm_code.specs.View.{const_view, instr_view, module_view}
use Rattle.herm_code_machine.specs.ReadyCode.{ReadyCode, scope_of}
use Rattle.herm_code_machine.specs.CodeStates as states
use Rattle.herm_code_machine.specs.Pieces as pieces
use Rattle.herm_pieces.specs.declared.code.Code.{Code}
use Rattle.herm_pieces.specs.declared.outcomes.Outcome.{Outcome}
use Rattle.herm_pieces.specs.declared.outcomes.Outcome.TheVariants.{Ok, True, False, Turn, Done, Component, Arm, Raised}
use Rattle.herm_pieces.specs.declared.pieces.Position.{Position}
use Rattle.herm_pieces.specs.declared.pieces.Position.TheVariants.{At, End, EndBy}
use Rattle.herm_pieces.specs.declared.pieces.Piece.{Piece}
use Rattle.herm_pieces.specs.declared.pieces.Met.{Met}

-- The code of a process made ready, with the labels of good code. Code reference, "Processes".
abbrev pub ready_view : Code → ReadyCode
ready_view c = record {
  scope = scope_of c.types.now.shapes (module_view c.code.now).variables;
  constants = map const_view c.constants.now;
  code = module_view c.code.now;
  label = label_at c.types.now.shapes (map const_view c.constants.now) (module_view c.code.now);
}

abbrev pub landing_view : ExcNo × ℕ → Landing
landing_view l = record { exception = (l.0).0; index = l.1 }

abbrev pub outcome_view : Outcome → outcomes.Outcome
outcome_view Ok = outcomes.ok
outcome_view True = outcomes.is_true
outcome_view False = outcomes.is_false
outcome_view Turn = outcomes.turn
outcome_view Done = outcomes.done
outcome_view (Component k) = outcomes.component k
outcome_view (Arm n) = outcomes.arm n
outcome_view (Raised e) = outcomes.raised e.0

abbrev pub position_view : Position → states.Position
position_view (At index) = states.at_index index
position_view End = states.at_end
position_view (EndBy e) = states.at_end_by e.0

abbrev pub piece_view : Piece → pieces.Piece
piece_view p = record { has_step = p.has_step; first = p.first }

abbrev pub met_view : Met → pieces.Met
met_view m = record { index = m.index; instruction = instr_view m.instruction.now }

-- this instruction, where it is an action
abbrev pub met_if : TypeTable → (index : ℕ) → Instruction → Option pieces.Met
met_if types i instruction = cond (is_action types instruction) (Some (record { index = i; instruction = instruction })) None
