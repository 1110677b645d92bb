-- Operands and operators one by one, in the order in which they are done, before literals have numbers.
use Rattle.std.specs.Prelude.{List, [], ◌∷◌, ◌++◌, Option, Some, None}
use Rattle.herm_model.specs.Expressions.{Literal, Operator, Expression, literal, copy, negation, logical_not, operation, size_of, decimal, length_of}
use Rattle.herm_syntax.specs.declared.expressions.UnaryOp.{UnaryOp}
use Rattle.herm_syntax.specs.declared.expressions.UnaryOp.TheVariants.{Neg, Not}
use Rattle.herm_instructions.specs.Instructions.{negative, complement, as_text, text_length, Instruction, Const, Load, Size, Apply, Combine}
use Rattle.herm_translated.specs.Constants.{place_of}

-- a literal, or an instruction that has no number of a constant
pub data Operand : Type 0 where
  constant : Literal → Operand
  done_by : Instruction → Operand

-- The operands of an expression, each operator behind its own. Code reference, "Instructions".
abbrev pub operands_of : Expression → List Operand
operands_of (literal l) = constant l ∷ []
operands_of (copy p) = done_by (Load p) ∷ []
operands_of (negation e) = operands_of e ++ done_by (Apply negative) ∷ []
operands_of (logical_not e) = operands_of e ++ done_by (Apply complement) ∷ []
operands_of (operation o left right) = operands_of left ++ (operands_of right ++ done_by (Combine o) ∷ [])
operands_of (size_of p) = done_by (Size p) ∷ []
operands_of (decimal e) = operands_of e ++ done_by (Apply as_text) ∷ []
operands_of (length_of e) = operands_of e ++ done_by (Apply text_length) ∷ []

-- an operand behind another one, and their operator
abbrev pub operands_behind : Operator → Expression → List Operand
operands_behind o e = operands_of e ++ done_by (Combine o) ∷ []

-- the sign before an operand, which is done behind it
abbrev pub signed_operands : Option UnaryOp → List Operand
signed_operands None = []
signed_operands (Some Neg) = done_by (Apply negative) ∷ []
signed_operands (Some Not) = done_by (Apply complement) ∷ []

-- the instruction, with the literal's place among these constants
abbrev pub instruction_of : List Literal → Operand → Instruction
instruction_of constants (constant l) = Const (place_of constants l)
instruction_of constants (done_by i) = i

-- the literals of an operand
abbrev pub literals_at : Operand → List Literal
literals_at (constant l) = l ∷ []
literals_at (done_by i) = []
