-- The code of an expression, and instructions in a row.
use Rattle.std.specs.Prelude.{ℕ, List, [], ◌∷◌, ◌++◌, Some, slice_get, ⊤, ◌≡◌}
use Rattle.herm_model.specs.Expressions.{Expression, literal, copy, negation, logical_not, operation, size_of, decimal, length_of}
use Rattle.herm_model.specs.Outcomes.{ok}
use Rattle.herm_model.specs.Values.{Value}
use Rattle.herm_forms.specs.Evaluate.{Evaluated, gives, raises, no_value}
use Rattle.herm_forms.specs.Frames.{Name, Frame, Completion, goes}
use Rattle.herm_instructions.specs.Instructions.{UnaryOperator, negative, complement, as_text, text_length, Instruction, Const, Load, Size, Apply, Combine}
use Rattle.herm_code_machine.specs.ReadyCode.{ReadyCode}
use Rattle.herm_code_machine.specs.Stacks.{Effect, leaving}
use Rattle.herm_code_machine.specs.Effects.{effect}

-- an operator on the top, as an expression
abbrev pub unary : UnaryOperator → Expression → Expression
unary negative e = negation e
unary complement e = logical_not e
unary as_text e = decimal e
unary text_length e = length_of e

-- These instructions are the code of an expression: its operands from left to right, and then its operator.
-- Code reference, "Instructions".
abbrev pub IsCodeOf : ReadyCode → Expression → List Instruction → Type 0
IsCodeOf c (literal l) code = (k : ℕ) × (slice_get c.constants k ≡ Some l) × (code ≡ Const k ∷ [])
IsCodeOf c (copy p) code = code ≡ Load p ∷ []
IsCodeOf c (size_of p) code = code ≡ Size p ∷ []
IsCodeOf c (negation e) code = (before : List Instruction) × IsCodeOf c e before × (code ≡ before ++ Apply negative ∷ [])
IsCodeOf c (logical_not e) code = (before : List Instruction) × IsCodeOf c e before × (code ≡ before ++ Apply complement ∷ [])
IsCodeOf c (decimal e) code = (before : List Instruction) × IsCodeOf c e before × (code ≡ before ++ Apply as_text ∷ [])
IsCodeOf c (length_of e) code = (before : List Instruction) × IsCodeOf c e before × (code ≡ before ++ Apply text_length ∷ [])
IsCodeOf c (operation o left right) code = (first second : List Instruction) × IsCodeOf c left first × IsCodeOf c right second × (code ≡ first ++ (second ++ Combine o ∷ []))

-- on behind an instruction that goes on to the next one; an exception, or what is stuck, ends the row
abbrev pub in_row : {N : Type 0} → (List Value → Frame N → Effect N) → List Value → Completion N → Effect N
in_row next stack (goes ok b) = next stack b
in_row next stack r = leaving stack r

-- instructions one after the other
abbrev pub row_effect : {N : Type 0} → (Name → N) → ReadyCode → List Instruction → List Value → Frame N → Effect N
row_effect name c [] stack b = leaving stack (goes ok b)
row_effect name c (i ∷ more) stack b = let e = effect name c i stack b in in_row (row_effect name c more) e.stack e.completion

-- an evaluation that comes to a value or to an exception
abbrev pub IsDefined : Evaluated → Type 0
IsDefined (gives v) = ⊤
IsDefined (raises e) = ⊤
IsDefined no_value = ⊥
