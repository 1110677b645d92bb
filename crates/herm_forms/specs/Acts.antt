-- What a statement of each form does, wants and leaves, and where its outcomes lead.
use Rattle.std.specs.Prelude.{ℕ, List, [], ◌∷◌, map, filter, flat_map, find, Bool, true, false, not, Option, Some, None, option_map, option_and_then, length, ⊤}
use Rattle.herm_model.specs.Lists.{any_pass}
use Rattle.herm_model.specs.Paths.{Path, same_path}
use Rattle.herm_model.specs.Types.{Shape, fields, rows, Mode, by_in, by_inout, by_out, Parameter, type_at}
use Rattle.herm_model.specs.Expressions.{Atom}
use Rattle.herm_model.specs.Statements.{Form, Assign, Move, New, Discard, Unite, Dissolve, Reveal, Case, Wrap, Unwrap, Insert, Remove, Get, For, Connect, Send, Receive, Select, Call, Return, ReturnBy, Create, If, While, Raise, Leave}
use Rattle.herm_model.specs.Calls.{shape_at, call_parameters, arguments_by}
use Rattle.herm_model.specs.FactsOfStatements.{set_by_call, kept_by_call, returned, returned_by}
use Rattle.herm_model.specs.Outcomes.{Outcome, same_outcome}
use Rattle.herm_model.specs.Nodes.{Node}
use Rattle.herm_model.specs.Exits.{exits}
use Rattle.herm_model.specs.Targets.{Target}
use Rattle.herm_model.specs.Values.{a_record, a_table, Parts, no_parts, gaps, part}
use Rattle.herm_forms.specs.Evaluate.{Evaluated, gives, raises, no_value, evaluate, atom_value, key_values}
use Rattle.herm_journal.specs.Actions.{values, Want, to_hear, new_port, new_process}
use Rattle.herm_journal.specs.Actions
use Rattle.herm_forms.specs.Frames.{Name, Frame, Completion, stuck, if_there, Taken}
use Rattle.herm_forms.specs.Forms
use Rattle.herm_forms.specs.InsertForm
use Rattle.herm_forms.specs.RemoveAndGet
use Rattle.herm_forms.specs.LoopForms
use Rattle.herm_forms.specs.Exchanges
use Rattle.herm_forms.specs.Callmessages as callmessages
use Rattle.herm_forms.specs.ReturnForms
use Rattle.herm_forms.specs.HearReply
use Rattle.herm_journal.specs.Messages.{CellWant, CellAction, is_inport}
use Rattle.herm_forms.specs.Callmessages.{Composed}
use Rattle.herm_forms.specs.Excess.{excess_over_full, excess_over_declared}
use Rattle.herm_forms.specs.Modules.{Module}

-- A statement of these forms is an action, and of the others a local step. Language reference, "Actions".
abbrev pub is_action : Module → Form → Bool
is_action c (New x) = is_inport (shape_at c.types c.variables x)
is_action c (Send x o) = true
is_action c (Receive x i) = true
is_action c (Select arms) = true
is_action c (Call o arguments) = true
is_action c (Return m) = true
is_action c (ReturnBy m e) = true
is_action c (Create o process) = true
is_action c _ = false

-- the fields of the key of the table at a path
abbrev pub key_fields : Option Shape → List ℕ
key_fields (Some (rows row key)) = key
key_fields _ = []

abbrev pub key_at : Module → Path → List ℕ
key_at c t = key_fields (shape_at c.types c.variables t)

-- a new value of a type
abbrev pub new_value : {N : Type 0} → (Name → N) → Option Shape → Path → Frame N → Completion N
new_value name (Some (fields ts)) x b = Forms.new name a_record (gaps (length ts)) x b
new_value name (Some (rows row key)) x b = Forms.new name a_table no_parts x b
new_value name _ x b = stuck

-- What a local step does, for each form. Language reference, "The statement table".
abbrev pub act : {N : Type 0} → (Name → N) → Module → (statement : ℕ) → Form → Frame N → Completion N
act name c s (Assign x e) b = Forms.with_value (Forms.assign name x) (evaluate b.variables e) b
act name c s (Move y x) b = Forms.move (excess_over_full c y b) y x b
act name c s (New x) b = new_value name (shape_at c.types c.variables x) x b
act name c s (Discard x) b = Forms.discard x b
act name c s (Unite v k y) b = Forms.unite name k (excess_over_full c y b) y v b
act name c s (Dissolve v k y) b = Forms.dissolve k v y b
act name c s (Reveal v k) b = Forms.reveal k v b
act name c s (Case v ks) b = Forms.choose v b
act name c s (Wrap y p) b = if_there (λ t. Forms.wrap name t (excess_over_full c y b) y p b) (type_at c.types c.variables y)
act name c s (Unwrap p t y) b = Forms.unwrap t p y b
act name c s (Insert r t) b = InsertForm.insert (key_at c t) (excess_over_full c r b) r t b
act name c s (Remove r t keys) b = if_there (λ k. RemoveAndGet.remove (key_at c t) k r t b) (key_values b.variables keys)
act name c s (Get r t keys) b = if_there (λ k. RemoveAndGet.get name (key_at c t) k r t b) (key_values b.variables keys)
act name c s (For r t) b = LoopForms.visit name s r t b
act name c s (Connect o i) b = Forms.connect name o i b
act name c s (If e) b = Forms.with_value Forms.tested (evaluate b.variables e) b
act name c s (While e) b = Forms.with_value Forms.tested (evaluate b.variables e) b
act name c s (Raise e) b = Forms.raise e b
act name c s Leave b = Forms.leave b
act name c s _ b = stuck

-- the parameters that the call of an outport gives, their modes, and the arguments by mode
abbrev pub is_inout : Mode → Bool
is_inout by_inout = true
is_inout _ = false

abbrev pub is_out : Mode → Bool
is_out by_out = true
is_out _ = false

-- a value in front of more
abbrev pub value_before : Evaluated → Option (Parts ⊤) → Option (Parts ⊤)
value_before (gives v) more = option_map (part v) more
value_before (raises e) more = None
value_before no_value more = None

abbrev pub input_of : Mode → Evaluated → Option (Parts ⊤) → Option (Parts ⊤)
input_of by_in v more = value_before v more
input_of by_inout v more = more
input_of by_out v more = more

-- the values of the arguments of mode in, from left to right
abbrev pub inputs_of : {N : Type 0} → List Parameter → List Atom → Parts N → Option (Parts ⊤)
inputs_of [] atoms ps = Some no_parts
inputs_of (p ∷ parameters) [] ps = None
inputs_of (p ∷ parameters) (a ∷ atoms) ps = input_of p.mode (atom_value ps a) (inputs_of parameters atoms ps)

-- the paths of arguments whose parameters have such a mode
abbrev pub arguments_at : Module → (Mode → Bool) → (port : Path) → List Atom → List Path
arguments_at c test o arguments = arguments_by test (call_parameters c.types c.variables o) arguments

-- the callmessage of a call
abbrev pub composed : {N : Type 0} → (Name → N) → Module → (port : Path) → List Atom → Frame N → Option (Composed N)
composed name c o arguments b =
    option_and_then
    (λ inputs. callmessages.compose name (map (λ p. p.mode) (call_parameters c.types c.variables o)) inputs
    (flat_map (λ p. excess_over_full c p b) (arguments_at c is_inout o arguments))
    (arguments_at c is_inout o arguments) b)
    (inputs_of (call_parameters c.types c.variables o) arguments b.variables)

-- the arguments that an exception keeps, and those of mode out that it does not
abbrev pub kept_at : Module → (port : Path) → List Atom → (exception : ℕ) → List Path
kept_at c o arguments e = kept_by_call c.types c.variables o arguments e

abbrev pub left_at : Module → (port : Path) → List Atom → (exception : ℕ) → List Path
left_at c o arguments e = filter (λ p. not (any_pass (same_path p) (kept_at c o arguments e))) (arguments_at c is_out o arguments)

-- what a return gives back, and what one by an exception does
abbrev pub given_back : {N : Type 0} → Module → List Path → Frame N → Option (Taken N)
given_back c given b = ReturnForms.give_back (flat_map (λ p. excess_over_full c p b) given) given b

abbrev pub given_at : Module → (source : Path) → List Path
given_at c m = returned c.types c.variables m

abbrev pub given_by : Module → (source : Path) → (exception : ℕ) → List Path
given_by c m e = returned_by c.types c.variables m e

-- What a statement that is an action wants. Language reference, "Actions".
abbrev pub wants : {N : Type 0} → (Name → N) → Module → Form → Frame N → Option (CellWant N)
wants name c (New x) b = Some new_port
wants name c (Send x o) b = Exchanges.send_wants (excess_over_declared c o x b) x o b
wants name c (Receive x i) b = Exchanges.receive_wants i b
wants name c (Select arms) b = Exchanges.select_wants (map (λ a. a.port) arms) b
wants name c (Call o arguments) b = callmessages.call_wants (composed name c o arguments b) o b
wants name c (Return m) b = ReturnForms.return_wants values (given_back c (given_at c m) b) m b
wants name c (ReturnBy m e) b = ReturnForms.return_wants (Actions.raised e) (given_back c (given_by c m e) b) m b
wants name c (Create o process) b = Some (new_process process)
wants name c _ b = None

-- What the answer of a statement's action leaves. Language reference, "Actions".
abbrev pub settle : {N : Type 0} → (Name → N) → Module → Form → (at : ℕ) → CellAction N → Frame N → Completion N
settle name c (New x) at action b = Exchanges.new_inport name x action b
settle name c (Send x o) at action b = Exchanges.send (excess_over_declared c o x b) x action b
settle name c (Receive x i) at action b = Exchanges.receive x action b
settle name c (Select arms) at action b = Exchanges.select (map (λ a. a.target) arms) (map (λ a. a.port) arms) at action b
settle name c (Call o arguments) at action b = callmessages.call (composed name c o arguments b) (arguments_at c is_out o arguments) action
settle name c (Return m) at action b = ReturnForms.return (given_back c (given_at c m) b) m action
settle name c (ReturnBy m e) at action b = ReturnForms.return (given_back c (given_by c m e) b) m action
settle name c (Create o process) at action b = Exchanges.create name o action b
settle name c _ at action b = stuck

-- what the answer to the open call leaves, at the call's statement
abbrev pub settle_reply : {N : Type 0} → Module → Form → (call : ℕ) → CellAction N → Frame N → Completion N
settle_reply c (Call o arguments) call action b =
    HearReply.hear_call (set_by_call c.types c.variables o arguments) (arguments_at c is_out o arguments) (kept_at c o arguments) (left_at c o arguments) call action b
settle_reply c _ call action b = stuck

-- where an outcome of a node leads
abbrev pub leads_to : Module → Node → Outcome → Option Target
leads_to c n o = option_map (λ e. e.target) (find (λ e. same_outcome e.outcome o) (exits c.types c.variables n))
