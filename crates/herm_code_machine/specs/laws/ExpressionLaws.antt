-- What is claimed of the code of expressions: it leaves on the stack what the expression gives, or raises what it raises.
use Rattle.std.specs.Prelude.{List, ◌≡◌}
use Rattle.herm_model.specs.Expressions.{Expression}
use Rattle.herm_model.specs.Values.{Value}
use Rattle.herm_forms.specs.Evaluate.{evaluate}
use Rattle.herm_forms.specs.Frames.{Name, Frame}
use Rattle.herm_instructions.specs.Instructions.{Instruction}
use Rattle.herm_code_machine.specs.ReadyCode.{ReadyCode}
use Rattle.herm_code_machine.specs.Stacks.{pushing}
use Rattle.herm_code_machine.specs.ExpressionCode.{IsCodeOf, IsDefined, row_effect}

-- The code of an expression pushes the value of the expression on whatever is on the stack; and where the expression raises an exception
-- its code raises the same one. Code reference, "Instructions".
abbrev pub CodeGivesValues : Type 0
CodeGivesValues = (name : Name → Name) (c : ReadyCode) (e : Expression) (code : List Instruction) → IsCodeOf c e code → (stack : List Value) (b : Frame Name) → IsDefined (evaluate b.variables e) → row_effect name c code stack b ≡ pushing (evaluate b.variables e) stack b
