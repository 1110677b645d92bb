-- What evaluations and instructions of the code come to, in the words of the model.
use Rattle.std.specs.Prelude.{ℕ, option_to_list, Bool, true, false, List, [], ◌∷◌, map, ℤ, Option, Some, None, ⊤, ◌≡◌}
use Rattle.std.specs.declared.vec.Vec.{Vec}
use Rattle.std.specs.declared.alloc.Global.{Global}
use Rattle.herm_model.specs.Expressions as model
use Rattle.herm_model.specs.Outcomes.{ok, raised, overflow}
use Rattle.herm_model.specs.Values.{Cell, Value, a_scalar, an_integer, a_text}
use Rattle.herm_forms.specs.Evaluate.{Evaluated, raises, no_value, gives_boolean, gives_scalar, scalar_of}
use Rattle.herm_forms.specs.Frames.{Frame, goes}
use Rattle.herm_instructions.specs.Instructions as instructions
use Rattle.herm_code_machine.specs.Stacks.{Effect, leaving, no_effect, Popped}
use Rattle.herm_values.specs.View.{value_view, leaf}
use Rattle.herm_values.specs.Keyed.{keyed_view}
use Rattle.herm_values.specs.declared.value.Value as code
use Rattle.herm_stack.specs.declared.answers.Evaluation.{Evaluation}
use Rattle.herm_stack.specs.declared.answers.Evaluation.TheVariants as evaluations
use Rattle.herm_stack.specs.declared.answers.Written.{Written}
use Rattle.herm_stack.specs.declared.answers.Written.TheVariants as writtens
use Rattle.herm_stack.specs.declared.answers.Completion.{Completion}
use Rattle.herm_stack.specs.declared.answers.Completion.TheVariants as completions
use Rattle.herm_stack.specs.declared.operators.Unary.{Unary}
use Rattle.herm_stack.specs.declared.operators.Unary.TheVariants as unaries
use Rattle.herm_stack.specs.declared.operators.Binary.{Binary}
use Rattle.herm_stack.specs.declared.operators.Binary.TheVariants as binaries

abbrev pub evaluated : Evaluation → Evaluated
evaluated (evaluations.Boolean b) = gives_boolean b
evaluated (evaluations.Integer z) = gives_scalar (an_integer z)
evaluated (evaluations.Raises e) = raises e.0
evaluated evaluations.Stuck = no_value

abbrev pub written : Written → Evaluated
written (writtens.Gives text) = gives_scalar (a_text text)
written (writtens.Raises e) = raises e.0
written writtens.Stuck = no_value

-- a number of 64 bits, and Overflow where there is none
abbrev pub checked : Option ℤ → Evaluated
checked None = raises overflow
checked (Some z) = gives_scalar (an_integer z)

-- the operators of the code
abbrev pub unary_view : Unary → instructions.UnaryOperator
unary_view unaries.Negative = instructions.negative
unary_view unaries.Complement = instructions.complement
unary_view unaries.TextLength = instructions.text_length

abbrev pub binary_view : Binary → model.Operator
binary_view binaries.Or = model.logical_or
binary_view binaries.And = model.logical_and
binary_view binaries.Equal = model.equal
binary_view binaries.Unequal = model.unequal
binary_view binaries.Less = model.less
binary_view binaries.AtMost = model.at_most
binary_view binaries.Greater = model.greater
binary_view binaries.AtLeast = model.at_least
binary_view binaries.Plus = model.plus
binary_view binaries.Minus = model.minus
binary_view binaries.Times = model.times
binary_view binaries.Divided = model.divided
binary_view binaries.Modulo = model.modulo

-- What an instruction comes to, with the values on the stack behind it, the last pushed one first.
-- Code reference, "Processes".
abbrev pub effect_of : Completion → List Value → Frame ⊤ → Effect ⊤
effect_of completions.Next stack b = leaving stack (goes ok b)
effect_of (completions.Raised e) stack b = leaving stack (goes (raised e.0) b)
effect_of completions.Stuck stack b = no_effect

-- the values on the stack, as the model has them
abbrev pub on_stack : List code.Value → List Value
on_stack vs = map value_view vs

-- the value that a literal is
abbrev pub literal_cell : model.Literal → Value
literal_cell l = leaf (a_scalar (scalar_of l))

-- a number of rows, and no value without it
abbrev pub counted : Option ℤ → Evaluated
counted None = no_value
counted (Some z) = gives_scalar (an_integer z)

-- values that were taken, and what is left
abbrev pub popped : Option (Vec code.Value Global) → List Value → Option Popped
popped None rest = None
popped (Some vs) rest = Some (record { values = on_stack vs.items; rest = rest })

-- what is on the stack now is what was, and a value in front that is this tree
abbrev pub IsPushed : Value → (old new : List code.Value) → Type 0
IsPushed c old new = (v : code.Value) × (new ≡ v ∷ old) × (value_view v ≡ c)

-- what is on the stack now is what was, and an equal value in front, whose tables have the same fields as their keys
abbrev pub IsCopied : code.Value → (old new : List code.Value) → Type 0
IsCopied seen old new = (v : code.Value) × (new ≡ v ∷ old) × (value_view v ≡ value_view seen) × (keyed_view v ≡ keyed_view seen)

-- the top is gone, and where this is false there was none
abbrev pub IsLetGo : Bool → (old new : List code.Value) → Type 0
IsLetGo true old new = (v : code.Value) × (old ≡ v ∷ new)
IsLetGo false old new = old ≡ []

-- the top two are gone, and where this is false there was one at most
abbrev pub AreLetGo : Bool → (old new : List code.Value) → Type 0
AreLetGo true old new = (right : code.Value) × (left : code.Value) × (old ≡ right ∷ left ∷ new)
AreLetGo false old new = (v : Option code.Value) × (old ≡ option_to_list v)

-- what is on the stack now is what was, and a value in front that has this tree with its keys
abbrev pub IsPushedAs : Cell (List ℕ) → (old new : List code.Value) → Type 0
IsPushedAs c old new = (v : code.Value) × (new ≡ v ∷ old) × (keyed_view v ≡ c)
