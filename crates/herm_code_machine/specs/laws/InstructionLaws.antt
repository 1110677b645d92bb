-- What is claimed of instructions: one of a statement's name does what the form of the statement does.
use Rattle.std.specs.Prelude.{ℕ, List, [], ◌∷◌, map, Some, None, ⊤, ◌≡◌}
use Rattle.herm_model.specs.Lists.{list_of}
use Rattle.herm_model.specs.Paths.{Path}
use Rattle.herm_model.specs.Types.{Mode, by_in, by_inout, by_out, Parameter, Raised, callmessage, type_at}
use Rattle.herm_model.specs.Calls.{shape_at, raises_of, call_parameters, call_raises, kept_for}
use Rattle.herm_model.specs.Expressions.{Expression, Atom}
use Rattle.herm_model.specs.Outcomes.{ok}
use Rattle.herm_model.specs.Statements.{Form}
use Rattle.herm_model.specs.Values.{Scalar, Cell, Parts, cell_at, Value}
use Rattle.herm_model.specs.WellFormedTables.{KeepsReturned}
use Rattle.herm_journal.specs.Messages.{CellAction}
use Rattle.herm_forms.specs.Acts.{act, inputs_of, wants, settle, settle_reply}
use Rattle.herm_forms.specs.Evaluate.{gives, evaluate, key_values}
use Rattle.herm_forms.specs.Excess.{excess_over_declared}
use Rattle.herm_forms.specs.LoopForms.{rows_for}
use Rattle.herm_forms.specs.Frames.{Name, Frame, Completion, goes}
use Rattle.herm_instructions.specs.Instructions.{Argument, of_in, of_inout, of_out, Choice, Instruction, Store, JumpFalse, Move, New, Discard, Unite, Dissolve, Reveal, CaseOf, Wrap, Unwrap, Insert, Remove, Get, LoopNext, Connect, Send, Receive, Select, Call, Return, ReturnBy, Create, Raise, Drop}
use Rattle.herm_instructions.specs.Effects.{arm_of}
use Rattle.herm_instructions.specs.Operands.{count_inputs}
use Rattle.herm_code_machine.specs.ReadyCode.{ReadyCode}
use Rattle.herm_code_machine.specs.Stacks.{leaving, parts_from, pop, scalars_of}
use Rattle.herm_code_machine.specs.Effects.{effect, start_loop, next_of_loop}
use Rattle.herm_code_machine.specs.CodeActions.{code_wants, code_settles, code_hears}

-- on from a completion that goes on in one way
abbrev pub after_ok : {N : Type 0} → (Frame N → Completion N) → Completion N → Completion N
after_ok next (goes ok b) = next b
after_ok next r = r

-- An argument of code is given as an atom by the mode of its parameter: on the stack, or at the same path.
-- Code reference, "Instructions".
abbrev pub IsGivenAs : Mode → Argument → Atom → Type 0
IsGivenAs by_in of_in atom = ⊤
IsGivenAs by_inout (of_inout p) atom = atom ≡ Atom.path p
IsGivenAs by_out (of_out p) atom = atom ≡ Atom.path p
IsGivenAs mode argument atom = ⊥

abbrev pub AreGivenAs : List Parameter → List Argument → List Atom → Type 0
AreGivenAs [] [] [] = ⊤
AreGivenAs (p ∷ parameters) (argument ∷ arguments) (atom ∷ atoms) = IsGivenAs p.mode argument atom × AreGivenAs parameters arguments atoms
AreGivenAs parameters arguments atoms = ⊥

-- The arguments of a call are given as these atoms, and it keeps what the type of its callmessage declares, which keeps parameters that come
-- back alone. Code reference, "Good code".
pub record CallsAs (c : ReadyCode) (port : Path) (arguments : List Argument) (keeps : List Raised) (atoms : List Atom) : Type 0 where
  pub given : AreGivenAs (call_parameters c.scope.types c.scope.variables port) arguments atoms
  pub declared : keeps ≡ call_raises c.scope.types c.scope.variables port
  pub returned : KeepsReturned (callmessage (call_parameters c.scope.types c.scope.variables port) keeps)

module _ (name : Name → Name) (c : ReadyCode) (statement : ℕ) (b : Frame Name) where
  -- the instruction does what the form does, and leaves the stack
  abbrev pub DoesForm : Instruction → Form → Type 0
  DoesForm i form = (stack : List Value) → effect name c i stack b ≡ leaving stack (act name c.scope statement form b)

  -- with the value of the form's expression on top
  abbrev pub DoesWithValue : Instruction → Form → Expression → Type 0
  DoesWithValue i form e = (v : Value) (rest : List Value) → evaluate b.variables e ≡ gives v → effect name c i (v ∷ rest) b ≡ leaving rest (act name c.scope statement form b)

  -- with the values of the form's keys on the stack
  abbrev pub DoesWithKeys : Instruction → ℕ → Form → List Atom → Type 0
  DoesWithKeys i n form keys = (values stack rest : List Value) (k : List Scalar) → pop n stack ≡ Some (record { values = values; rest = rest }) → scalars_of values ≡ Some k → key_values b.variables keys ≡ Some k
      → effect name c i stack b ≡ leaving rest (act name c.scope statement form b)

  -- the instruction wants what the form wants, and its answer leaves what the form's does
  pub record ActsAsForm (i : Instruction) (form : Form) : Type 0 where
    pub wanted : (stack : List Value) → code_wants name c i stack b ≡ wants name c.scope form b
    pub answers : (stack : List Value) (at : ℕ) (a : CellAction Name) → code_settles name c i stack at a b ≡ leaving stack (settle name c.scope form at a b)

  -- with the values of the `in` arguments on the stack, the call wants what the form wants, and its answer leaves what the form's does
  pub record ActsAsCall (o : Path) (arguments : List Argument) (keeps : List Raised) (atoms : List Atom) (stack rest : List Value) : Type 0 where
    pub wanted : code_wants name c (Call o arguments keeps) stack b ≡ wants name c.scope (Form.Call o atoms) b
    pub answers : (at : ℕ) (a : CellAction Name) → code_settles name c (Call o arguments keeps) stack at a b ≡ leaving rest (settle name c.scope (Form.Call o atoms) at a b)

  -- Each instruction of a statement's name does what the form does, with its operands on the stack. Two take the type of their value
  -- from the code; a send trims what is the excess; a loop's first test is two instructions; and `Drop` is a discard. Code reference, "Instructions".
  pub record DoForms : Type 0 where
    pub store : (x : Path) (e : Expression) → DoesWithValue (Store x) (Form.Assign x e) e
    pub test : (e : Expression) (i : ℕ) → DoesWithValue (JumpFalse i) (Form.If e) e
    pub repeated_test : (e : Expression) (i : ℕ) → DoesWithValue (JumpFalse i) (Form.While e) e
    pub move : (y x : Path) → DoesForm (Move y x) (Form.Move y x)
    pub new : (x : Path) (t : ℕ) → type_at c.scope.types c.scope.variables x ≡ Some t → DoesForm (New x t) (Form.New x)
    pub discard : (x : Path) → DoesForm (Discard x) (Form.Discard x)
    pub drop : (x : Path) (v : Cell Name) → cell_at x b.variables ≡ Some v → DoesForm (Drop x) (Form.Discard x)
    pub unite : (v : Path) (k : ℕ) (y : Path) → DoesForm (Unite v k y) (Form.Unite v k y)
    pub dissolve : (v : Path) (k : ℕ) (y : Path) → DoesForm (Dissolve v k y) (Form.Dissolve v k y)
    pub reveal : (v : Path) (k : ℕ) → DoesForm (Reveal v k) (Form.Reveal v k)
    pub choose : (v : Path) (indices components : List ℕ) → DoesForm (CaseOf v indices) (Form.Case v components)
    pub wrap : (y : Path) (t : ℕ) (p : Path) → type_at c.scope.types c.scope.variables y ≡ Some t → DoesForm (Wrap y t p) (Form.Wrap y p)
    pub unwrap : (p : Path) (t : ℕ) (y : Path) → DoesForm (Unwrap p t y) (Form.Unwrap p t y)
    pub insert : (r t : Path) → DoesForm (Insert r t) (Form.Insert r t)
    pub remove : (r t : Path) (n : ℕ) (keys : List Atom) → DoesWithKeys (Remove r t n) n (Form.Remove r t keys) keys
    pub get : (r t : Path) (n : ℕ) (keys : List Atom) → DoesWithKeys (Get r t n) n (Form.Get r t keys) keys
    pub first_visit : (r t : Path) → rows_for statement b.loops ≡ None → act name c.scope statement (Form.For r t) b ≡ after_ok (next_of_loop statement r) (start_loop name statement t b)
    pub visit : (r t : Path) (i : ℕ) (rows : Parts Name) → rows_for statement b.loops ≡ Some rows → DoesForm (LoopNext r statement i) (Form.For r t)
    pub connect : (o i : Path) → DoesForm (Connect o i) (Form.Connect o i)
    pub raise : (e : ℕ) → DoesForm (Raise e) (Form.Raise e)
    pub new_inport : (x : Path) (t : ℕ) → ActsAsForm (New x t) (Form.New x)
    pub send : (x o : Path) (trim : List Path) → trim ≡ excess_over_declared c.scope o x b → ActsAsForm (Send x o trim) (Form.Send x o)
    pub receive : (x i : Path) → ActsAsForm (Receive x i) (Form.Receive x i)
    pub select : (choices : List Choice) → ActsAsForm (Select choices) (Form.Select (map arm_of choices))
    pub call : (o : Path) (arguments : List Argument) (keeps : List Raised) (atoms : List Atom) → CallsAs c o arguments keeps atoms → (values stack rest : List Value) → pop (count_inputs arguments) stack ≡ Some (record { values = values; rest = rest })
        → inputs_of (call_parameters c.scope.types c.scope.variables o) atoms b.variables ≡ Some (parts_from values) → ActsAsCall o arguments keeps atoms stack rest
    pub hear : (o : Path) (arguments : List Argument) (keeps : List Raised) (atoms : List Atom) → CallsAs c o arguments keeps atoms → (number : ℕ) (a : CellAction Name) → code_hears (Call o arguments keeps) number a b ≡ settle_reply c.scope (Form.Call o atoms) number a b
    pub return : (m : Path) → ActsAsForm (Return m) (Form.Return m)
    pub return_by : (m : Path) (e : ℕ) (kept : List ℕ) → kept ≡ kept_for (list_of raises_of (shape_at c.scope.types c.scope.variables m)) e → ActsAsForm (ReturnBy m e kept) (Form.ReturnBy m e)
    pub create : (o : Path) (n : ℕ) → ActsAsForm (Create o n) (Form.Create o n)

abbrev pub InstructionsDoForms : Type 0
InstructionsDoForms = (name : Name → Name) (c : ReadyCode) (statement : ℕ) (b : Frame Name) → DoForms name c statement b
