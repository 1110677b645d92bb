-- Pieces of code: a step with what follows it, or an action; and the action of a piece.
use Rattle.std.specs.Prelude.{ℕ, suc, List, [], ◌∷◌, drop, Bool, true, false, cond, Option, Some, None, option_and_then}
use Rattle.herm_model.specs.Types.{TypeTable}
use Rattle.herm_model.specs.Values.{Parts, Value, read_at}
use Rattle.herm_forms.specs.Evaluate.{Evaluated, gives, raises, no_value, value_there}
use Rattle.std.specs.Prelude.{slice_get}
use Rattle.herm_instructions.specs.Instructions.{Instruction, Const, Load}
use Rattle.herm_instructions.specs.Images.{instruction_at}
use Rattle.herm_instructions.specs.Actions.{is_step, is_action}
use Rattle.herm_instructions.specs.Pieces.{is_operand}
use Rattle.herm_code_machine.specs.ReadyCode.{ReadyCode}
use Rattle.herm_code_machine.specs.Effects.{constant_value}
use Rattle.herm_code_machine.specs.CodeStates.{Position, at_index, at_end, at_end_by}

-- A piece: whether it begins with a step, and the first index behind the step; or the index of an action that begins it.
-- Code reference, "Pieces".
pub record Piece : Type 0 where
  pub has_step : Bool
  pub first : ℕ

-- an action instruction with its index
pub record Met : Type 0 where
  pub index : ℕ
  pub instruction : Instruction

-- the piece that begins with this instruction, at this index
abbrev pub piece_by : TypeTable → (index : ℕ) → Option Instruction → Option Piece
piece_by types i None = None
piece_by types i (Some instruction) =
    cond (is_step instruction) (Some (record { has_step = true; first = suc i })) (cond (is_action types instruction) (Some (record { has_step = false; first = i })) None)

abbrev pub piece_at : ReadyCode → Position → Option Piece
piece_at c (at_index i) = piece_by c.scope.types i (instruction_at c.code i)
piece_at c at_end = None
piece_at c (at_end_by e) = None

-- the first instruction behind operands, where it is an action
abbrev pub action_from : TypeTable → List Instruction → (index : ℕ) → Option Met
action_from types [] i = None
action_from types (instruction ∷ more) i =
    cond (is_operand instruction) (action_from types more (suc i))
    (cond (is_action types instruction) (Some (record { index = i; instruction = instruction })) None)

-- The action of a piece, if it has one: an action has only constants and copies between its step and itself.
-- Code reference, "Pieces".
abbrev pub action_of : ReadyCode → Piece → Option Met
action_of c p = action_from c.scope.types (drop p.first c.code.code) p.first

-- the value that an operand pushes
abbrev pub operand : {N : Type 0} → ReadyCode → Instruction → Parts N → Evaluated
operand c (Const k) ps = constant_value (slice_get c.constants k)
operand c (Load p) ps = value_there (read_at p ps)
operand c _ ps = no_value

-- a value on the stack
abbrev pub pushed : Evaluated → List Value → Option (List Value)
pushed (gives v) stack = Some (v ∷ stack)
pushed (raises e) stack = None
pushed no_value stack = None

-- the stack behind the operands that come first
abbrev pub behind_operands : {N : Type 0} → ReadyCode → Parts N → List Instruction → List Value → Option (List Value)
behind_operands c ps [] stack = Some stack
behind_operands c ps (instruction ∷ more) stack =
    cond (is_operand instruction) (option_and_then (behind_operands c ps more) (pushed (operand c instruction ps) stack)) (Some stack)

-- the stack before the action of a piece
abbrev pub stack_before_action : {N : Type 0} → ReadyCode → Piece → Parts N → List Value → Option (List Value)
stack_before_action c p ps stack = behind_operands c ps (drop p.first c.code.code) stack
