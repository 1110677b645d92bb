-- Where an action instruction may stand: what lies between it and the step before it.
use Rattle.std.specs.Prelude.{ℕ, suc, List, Bool, true, false, not, ◌||◌, IsTrue}
use Rattle.herm_model.specs.Lists.{IsIn}
use Rattle.herm_model.specs.Types.{TypeTable}
use Rattle.herm_instructions.specs.Instructions.{Instruction, Const, Load}
use Rattle.herm_instructions.specs.Actions.{is_step, is_action}
use Rattle.herm_instructions.specs.Places.{Way, Place, ways}

-- what may stand between a step and its action: the operands of the action
abbrev pub is_operand : Instruction → Bool
is_operand (Const k) = true
is_operand (Load p) = true
is_operand i = false

-- neither a step, nor an action, nor an operand
abbrev pub is_other : TypeTable → Instruction → Bool
is_other table i = not (is_step i || (is_action table i || is_operand i))

-- Control comes to an index from a step, with no step and no action in between; and with operands alone, or with another
-- instruction too. Code reference, "Pieces".
pub data ComesFromStep (table : TypeTable) (ps : List Place) : (operands_alone : Bool) → (index : ℕ) → Type 0 where
  from_step : (p : Place) → IsIn p ps → IsTrue (is_step p.instruction) → ComesFromStep table ps true (suc p.index)
  past_operand : (p : Place) (alone : Bool) → IsIn p ps → IsTrue (is_operand p.instruction) → ComesFromStep table ps alone p.index → ComesFromStep table ps alone (suc p.index)
  past_other : (p : Place) (alone : Bool) (w : Way) → IsIn p ps → IsTrue (is_other table p.instruction) → ComesFromStep table ps alone p.index → IsIn w (ways p) → ComesFromStep table ps false w.index

-- The first action behind a step has operands alone in between, on each way from the one to the other. Code reference, "Pieces".
abbrev pub ActsAtOnce : TypeTable → List Place → Place → Type 0
ActsAtOnce table ps p = IsTrue (is_action table p.instruction) → ComesFromStep table ps false p.index → ⊥
