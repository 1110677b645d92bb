-- Fronts: what a form becomes, its operands and then the instruction of its name.
use Rattle.std.specs.Prelude.{ℕ, suc, ◌+◌, List, [], ◌∷◌, ◌++◌, map, length, flat_map}
use Rattle.herm_model.specs.Lists.{map_or, list_of, range}
use Rattle.herm_model.specs.Paths.{Path, Fact}
use Rattle.herm_model.specs.Types.{TypeTable, type_at, Mode, by_in, by_inout, by_out, Parameter}
use Rattle.herm_model.specs.Facts.{component_count}
use Rattle.herm_model.specs.Expressions.{Literal, Expression, literal, copy, negation, logical_not, operation, size_of, decimal, length_of, Atom}
use Rattle.herm_model.specs.Statements.{Form, Arm}
use Rattle.herm_model.specs.Calls.{shape_at, raises_of, kept_for, call_parameters, call_raises}
use Rattle.herm_model.specs.Outcomes.{Outcome, is_false, done, component, arm}
use Rattle.herm_model.specs.FactsOfStatements.{sent_to}
use Rattle.herm_model.specs.Finalising.{keeps, excess_at}
use Rattle.herm_instructions.specs.Instructions.{negative, complement, as_text, text_length, Argument, of_in, of_inout, of_out, Choice, Instruction, Step, Const, Load, Size, Apply, Combine, Store, Jump, JumpFalse, Move, New, Discard, Unite, Dissolve, Reveal, CaseOf, Wrap, Unwrap, Insert, Remove, Get, LoopStart, LoopNext, Connect, Send, Receive, Select, Call, Return, ReturnBy, Create, Raise}
use Rattle.herm_translated.specs.Constants.{place_of}

-- an argument, by the mode of its parameter
abbrev pub argument_by : Mode → Atom → Argument
argument_by by_in a = of_in
argument_by by_inout (Atom.path p) = of_inout p
argument_by by_inout (Atom.literal l) = of_in
argument_by by_out (Atom.path p) = of_out p
argument_by by_out (Atom.literal l) = of_in

abbrev pub arguments_of : List Parameter → List Atom → List Argument
arguments_of [] atoms = []
arguments_of (p ∷ parameters) [] = []
arguments_of (p ∷ parameters) (a ∷ atoms) = argument_by p.mode a ∷ arguments_of parameters atoms

-- what is pushed for a parameter of this mode
abbrev pub pushed_by : Mode → List Instruction → List Instruction
pushed_by by_in code = code
pushed_by by_inout code = []
pushed_by by_out code = []

-- the arms of a `select` from a place on, each with the index that it goes to
abbrev pub choices_from : (exit_at : Outcome → ℕ) → ℕ → List Arm → List Choice
choices_from exit_at n [] = []
choices_from exit_at n (a ∷ arms) = record { port = a.port; target = a.target; index = exit_at (arm n) } ∷ choices_from exit_at (suc n) arms

module _ (constants : List Literal) where
  -- The code of an expression: its operands from left to right, and then its operator. Code reference, "Instructions".
  abbrev pub expression_code : Expression → List Instruction
  expression_code (literal l) = Const (place_of constants l) ∷ []
  expression_code (copy p) = Load p ∷ []
  expression_code (negation e) = expression_code e ++ Apply negative ∷ []
  expression_code (logical_not e) = expression_code e ++ Apply complement ∷ []
  expression_code (operation o left right) = expression_code left ++ (expression_code right ++ Combine o ∷ [])
  expression_code (size_of p) = Size p ∷ []
  expression_code (decimal e) = expression_code e ++ Apply as_text ∷ []
  expression_code (length_of e) = expression_code e ++ Apply text_length ∷ []

  abbrev pub atom_code : Atom → List Instruction
  atom_code (Atom.literal l) = Const (place_of constants l) ∷ []
  atom_code (Atom.path p) = Load p ∷ []

  -- the values of the parameters of mode `in`, in their order
  abbrev pub inputs_code : List Parameter → List Atom → List Instruction
  inputs_code [] atoms = []
  inputs_code (p ∷ parameters) [] = []
  inputs_code (p ∷ parameters) (a ∷ atoms) = pushed_by p.mode (atom_code a) ++ inputs_code parameters atoms

module _ (types : TypeTable) (variables : List ℕ) where
  -- the type of a path
  abbrev pub type_of : Path → ℕ
  type_of p = map_or 0 (λ t. t) (type_at types variables p)

  -- The excess of a message by the facts before its statement: what a send trims. Code reference, "Good code".
  abbrev pub trimmed : List Fact → (source port : Path) → List Path
  trimmed facts x o = list_of (λ t. excess_at types (keeps facts) (keeps (sent_to types variables o x)) x t) (type_at types variables x)

  module _ (constants : List Literal) where
    -- The instructions of a form behind its first step: of a statement of this number, with these facts before it, whose
    -- instructions begin at the index `here`, and from which each outcome leads to an index. The rows of a `for` are in the slot of its number;
    -- from their copy the code jumps past the second step. Code reference, "Blocks".
    abbrev pub front : (facts : List Fact) → (number here : ℕ) → (exit_at : Outcome → ℕ) → Form → List Instruction
    front facts number here exit_at (Form.Assign x e) = expression_code constants e ++ Store x ∷ []
    front facts number here exit_at (Form.Move y x) = Move y x ∷ []
    front facts number here exit_at (Form.New x) = New x (type_of x) ∷ []
    front facts number here exit_at (Form.Discard x) = Discard x ∷ []
    front facts number here exit_at (Form.Unite v c y) = Unite v c y ∷ []
    front facts number here exit_at (Form.Dissolve v c y) = Dissolve v c y ∷ []
    front facts number here exit_at (Form.Reveal v c) = Reveal v c ∷ []
    front facts number here exit_at (Form.Case v components) = CaseOf v (map (λ c. exit_at (component c)) (range 0 (map_or 0 component_count (shape_at types variables v)))) ∷ []
    front facts number here exit_at (Form.Wrap y p) = Wrap y (type_of y) p ∷ []
    front facts number here exit_at (Form.Unwrap p t y) = Unwrap p t y ∷ []
    front facts number here exit_at (Form.Insert r t) = Insert r t ∷ []
    front facts number here exit_at (Form.Remove r t keys) = flat_map (atom_code constants) keys ++ Remove r t (length keys) ∷ []
    front facts number here exit_at (Form.Get r t keys) = flat_map (atom_code constants) keys ++ Get r t (length keys) ∷ []
    front facts number here exit_at (Form.For r t) = LoopStart t number ∷ Jump (here + 3) ∷ Step ∷ LoopNext r number (exit_at done) ∷ []
    front facts number here exit_at (Form.Connect o i) = Connect o i ∷ []
    front facts number here exit_at (Form.Send x o) = Send x o (trimmed facts x o) ∷ []
    front facts number here exit_at (Form.Receive x i) = Receive x i ∷ []
    front facts number here exit_at (Form.Select arms) = Select (choices_from exit_at 0 arms) ∷ []
    front facts number here exit_at (Form.Call o arguments) =
        inputs_code constants (call_parameters types variables o) arguments ++ Call o (arguments_of (call_parameters types variables o) arguments) (call_raises types variables o) ∷ []
    front facts number here exit_at (Form.Return m) = Return m ∷ []
    front facts number here exit_at (Form.ReturnBy m e) = ReturnBy m e (kept_for (list_of raises_of (shape_at types variables m)) e) ∷ []
    front facts number here exit_at (Form.Create o n) = Create o n ∷ []
    front facts number here exit_at (Form.If e) = expression_code constants e ++ JumpFalse (exit_at is_false) ∷ []
    front facts number here exit_at (Form.While e) = expression_code constants e ++ JumpFalse (exit_at is_false) ∷ []
    front facts number here exit_at (Form.Raise e) = Raise e ∷ []
    front facts number here exit_at Form.Leave = []

    -- how many they are, whatever the facts and the indices
    abbrev pub front_length : Form → ℕ
    front_length form = length (front [] 0 0 (λ o. 0) form)
