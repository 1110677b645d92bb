-- What instructions take from the stack and leave on it.
use Rattle.std.specs.Prelude.{ℕ, suc, List, [], ◌∷◌, ◌++◌, reverse, drop, slice_get, IsTrue, ◌≡◌}
use Rattle.herm_model.specs.Lists.{list_of}
use Rattle.herm_model.specs.Types.{Mode, by_in, by_inout, by_out, Parameter, Shape, fields, rows, TypeTable, type_at}
use Rattle.herm_model.specs.Expressions.{Literal}
use Rattle.herm_model.specs.Calls.{shape_at, call_parameters}
use Rattle.herm_model.specs.TypedExpressions.{takes, shape_given, HasShape}
use Rattle.herm_model.specs.tests.TypingTests.{number_of_shape}
use Rattle.herm_instructions.specs.Instructions.{UnaryOperator, negative, complement, as_text, text_length, Argument, of_in, of_inout, of_out, Instruction, Const, Load, Size, Apply, Combine, Store, JumpFalse, Remove, Get, Call}

-- the predefined types of truth values, integers and strings; Language reference, "Predefined types"
abbrev pub boolean_type : ℕ
boolean_type = 0

abbrev pub integer_type : ℕ
integer_type = 1

abbrev pub text_type : ℕ
text_type = 2

-- the type of a constant
abbrev pub type_of_literal : Literal → ℕ
type_of_literal (Literal.boolean b) = boolean_type
type_of_literal (Literal.integer z) = integer_type
type_of_literal (Literal.text bytes) = text_type
type_of_literal (Literal.tag type place) = type

-- what an operator on the top takes, and what it leaves
abbrev pub operand_type : UnaryOperator → ℕ
operand_type negative = integer_type
operand_type complement = boolean_type
operand_type as_text = integer_type
operand_type text_length = text_type

abbrev pub result_type : UnaryOperator → ℕ
result_type negative = integer_type
result_type complement = boolean_type
result_type as_text = text_type
result_type text_length = integer_type

-- the types of the parameters of mode `in`, in order
abbrev pub if_in : Mode → ℕ → List ℕ → List ℕ
if_in by_in t ts = t ∷ ts
if_in by_inout t ts = ts
if_in by_out t ts = ts

abbrev pub input_types : List Parameter → List ℕ
input_types [] = []
input_types (p ∷ parameters) = if_in p.mode p.content (input_types parameters)

-- how many arguments of a call are on the stack
abbrev pub count_inputs : List Argument → ℕ
count_inputs [] = 0
count_inputs (of_in ∷ arguments) = suc (count_inputs arguments)
count_inputs (of_inout p ∷ arguments) = count_inputs arguments
count_inputs (of_out p ∷ arguments) = count_inputs arguments

-- the types of the key's fields, where a row has fields of these types
abbrev pub types_of_key : (key : List ℕ) → Shape → List ℕ
types_of_key [] s = []
types_of_key (i ∷ key) (fields ts) = list_of (λ t. t ∷ []) (slice_get ts i) ++ types_of_key key (fields ts)
types_of_key key s = []

abbrev pub types_of_row_key : TypeTable → Shape → List ℕ
types_of_row_key table (rows row key) = list_of (types_of_key key) (slice_get table row)
types_of_row_key table s = []

-- How many values an instruction takes from the stack. Code reference, "Operands".
abbrev pub taken : Instruction → ℕ
taken (Apply u) = 1
taken (Combine o) = 2
taken (Store x) = 1
taken (JumpFalse index) = 1
taken (Remove r t n) = n
taken (Get r t n) = n
taken (Call o arguments keeps) = count_inputs arguments
taken i = 0

-- the list begins with these elements
abbrev pub Begins : (list beginning : List ℕ) → Type 0
Begins list beginning = (rest : List ℕ) × (list ≡ beginning ++ rest)

module _ (table : TypeTable) (constants : List Literal) (variables : List ℕ) where
  -- The types of the values that an instruction leaves on the stack in place of those that it takes.
  -- Code reference, "Operands".
  abbrev pub pushed : Instruction → List ℕ
  pushed (Const k) = list_of (λ l. type_of_literal l ∷ []) (slice_get constants k)
  pushed (Load p) = list_of (λ t. t ∷ []) (type_at table variables p)
  pushed (Size p) = integer_type ∷ []
  pushed (Apply u) = result_type u ∷ []
  pushed (Combine o) = number_of_shape (shape_given o) ∷ []
  pushed i = []

  abbrev pub stack_behind : Instruction → List ℕ → List ℕ
  stack_behind i stack = pushed i ++ drop (taken i) stack

  -- The types of the values that an instruction takes, the top first, where they do not depend on each other.
  -- Code reference, "Operands".
  abbrev pub operands : Instruction → List ℕ
  operands (Apply u) = operand_type u ∷ []
  operands (Store x) = list_of (λ t. t ∷ []) (type_at table variables x)
  operands (JumpFalse index) = boolean_type ∷ []
  operands (Remove r t n) = reverse (list_of (types_of_row_key table) (shape_at table variables t))
  operands (Get r t n) = reverse (list_of (types_of_row_key table) (shape_at table variables t))
  operands (Call o arguments keeps) = reverse (input_types (call_parameters table variables o))
  operands i = []

  -- The operands are on the stack. The two of an operator are of one type that it takes. Code reference, "Operands".
  abbrev pub FindsOnStack : Instruction → List ℕ → Type 0
  FindsOnStack (Combine o) stack = (t : ℕ) × (s : Shape) × HasShape table t s × IsTrue (takes o s) × Begins stack (t ∷ t ∷ [])
  FindsOnStack i stack = Begins stack (operands i)
