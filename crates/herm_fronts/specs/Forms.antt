-- Forms: what each becomes, operand by operand, and then by the instructions behind them.
use Rattle.std.specs.Prelude.{ℕ, suc, ◌+◌, List, [], ◌∷◌, ◌++◌, map, length}
use Rattle.herm_model.specs.Lists.{map_or, list_of, range}
use Rattle.herm_model.specs.Paths.{Fact}
use Rattle.herm_model.specs.Types.{TypeTable, Mode, by_in, by_inout, by_out, Parameter}
use Rattle.herm_model.specs.Facts.{component_count}
use Rattle.herm_model.specs.Expressions.{Atom, Literal}
use Rattle.herm_model.specs.Statements.{Form}
use Rattle.herm_model.specs.Calls.{shape_at, raises_of, kept_for, call_parameters, call_raises}
use Rattle.herm_model.specs.Outcomes.{Outcome, is_false, done, component}
use Rattle.herm_instructions.specs.Instructions.{Instruction, Step, Load, Store, Jump, JumpFalse, Move, New, Discard, Unite, Dissolve, Reveal, CaseOf, Wrap, Unwrap, Insert, Remove, Get, LoopStart, LoopNext, Connect, Send, Receive, Select, Call, Return, ReturnBy, Create, Raise}
use Rattle.herm_translated.specs.Fronts.{arguments_of, choices_from, type_of, trimmed}
use Rattle.herm_typed.specs.declared.statements.TypedForm.{TypedForm}
use Rattle.herm_typed.specs.View.{typed_form_view, form_of_statement}
use Rattle.herm_fronts.specs.Operands.{Operand, constant, done_by, operands_of}

-- the form of a statement, without the blocks within it; a `try` is no node
abbrev pub form_seen : TypedForm → Form
form_seen form = map_or Form.Leave (λ f. f) (form_of_statement (typed_form_view form))

abbrev pub atom_operand : Atom → Operand
atom_operand (Atom.literal l) = constant l
atom_operand (Atom.path p) = done_by (Load p)

-- the operand of an argument, by the mode of its parameter
abbrev pub input_operand : Mode → Atom → List Operand
input_operand by_in a = atom_operand a ∷ []
input_operand by_inout a = []
input_operand by_out a = []

abbrev pub input_operands : List Parameter → List Atom → List Operand
input_operands [] atoms = []
input_operands (p ∷ parameters) [] = []
input_operands (p ∷ parameters) (a ∷ atoms) = input_operand p.mode a ++ input_operands parameters atoms

module _ (types : TypeTable) (variables : List ℕ) where
  -- the operands of a form, from left to right
  abbrev pub front_operands : Form → List Operand
  front_operands (Form.Assign x e) = operands_of e
  front_operands (Form.Remove r t keys) = map atom_operand keys
  front_operands (Form.Get r t keys) = map atom_operand keys
  front_operands (Form.Call o arguments) = input_operands (call_parameters types variables o) arguments
  front_operands (Form.If e) = operands_of e
  front_operands (Form.While e) = operands_of e
  front_operands form = []

  -- The instructions of a form behind its operands. Code reference, "Blocks".
  abbrev pub behind_operands : (facts : List Fact) → (number here : ℕ) → (exit_at : Outcome → ℕ) → Form → List Instruction
  behind_operands facts number here exit_at (Form.Assign x e) = Store x ∷ []
  behind_operands facts number here exit_at (Form.Move y x) = Move y x ∷ []
  behind_operands facts number here exit_at (Form.New x) = New x (type_of types variables x) ∷ []
  behind_operands facts number here exit_at (Form.Discard x) = Discard x ∷ []
  behind_operands facts number here exit_at (Form.Unite v c y) = Unite v c y ∷ []
  behind_operands facts number here exit_at (Form.Dissolve v c y) = Dissolve v c y ∷ []
  behind_operands facts number here exit_at (Form.Reveal v c) = Reveal v c ∷ []
  behind_operands facts number here exit_at (Form.Case v components) = CaseOf v (map (λ c. exit_at (component c)) (range 0 (map_or 0 component_count (shape_at types variables v)))) ∷ []
  behind_operands facts number here exit_at (Form.Wrap y p) = Wrap y (type_of types variables y) p ∷ []
  behind_operands facts number here exit_at (Form.Unwrap p t y) = Unwrap p t y ∷ []
  behind_operands facts number here exit_at (Form.Insert r t) = Insert r t ∷ []
  behind_operands facts number here exit_at (Form.Remove r t keys) = Remove r t (length keys) ∷ []
  behind_operands facts number here exit_at (Form.Get r t keys) = Get r t (length keys) ∷ []
  behind_operands facts number here exit_at (Form.For r t) = LoopStart t number ∷ Jump (here + 3) ∷ Step ∷ LoopNext r number (exit_at done) ∷ []
  behind_operands facts number here exit_at (Form.Connect o i) = Connect o i ∷ []
  behind_operands facts number here exit_at (Form.Send x o) = Send x o (trimmed types variables facts x o) ∷ []
  behind_operands facts number here exit_at (Form.Receive x i) = Receive x i ∷ []
  behind_operands facts number here exit_at (Form.Select arms) = Select (choices_from exit_at 0 arms) ∷ []
  behind_operands facts number here exit_at (Form.Call o arguments) = Call o (arguments_of (call_parameters types variables o) arguments) (call_raises types variables o) ∷ []
  behind_operands facts number here exit_at (Form.Return m) = Return m ∷ []
  behind_operands facts number here exit_at (Form.ReturnBy m e) = ReturnBy m e (kept_for (list_of raises_of (shape_at types variables m)) e) ∷ []
  behind_operands facts number here exit_at (Form.Create o n) = Create o n ∷ []
  behind_operands facts number here exit_at (Form.If e) = JumpFalse (exit_at is_false) ∷ []
  behind_operands facts number here exit_at (Form.While e) = JumpFalse (exit_at is_false) ∷ []
  behind_operands facts number here exit_at (Form.Raise e) = Raise e ∷ []
  behind_operands facts number here exit_at Form.Leave = []

-- how many instructions a form has behind its operands
abbrev pub count_behind : Form → ℕ
count_behind (Form.For r t) = 4
count_behind Form.Leave = 0
count_behind form = 1
