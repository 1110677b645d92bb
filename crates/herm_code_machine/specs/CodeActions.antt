-- What an instruction that is an action wants, and what its answer leaves.
use Rattle.std.specs.Prelude.{ℕ, List, [], ◌∷◌, map, filter, flat_map, not, Option, Some, None, option_and_then, slice_get}
use Rattle.herm_model.specs.Lists.{any_pass}
use Rattle.herm_model.specs.Paths.{Path, same_path}
use Rattle.herm_model.specs.Types.{Mode, by_in, by_inout, by_out, Raised}
use Rattle.herm_model.specs.Calls.{kept_for}
use Rattle.herm_model.specs.FactsOfStatements.{parameters_at}
use Rattle.herm_model.specs.Values.{Value}
use Rattle.herm_journal.specs.Actions.{values, new_port, new_process}
use Rattle.herm_journal.specs.Actions
use Rattle.herm_journal.specs.Messages.{CellWant, CellAction}
use Rattle.herm_forms.specs.Frames.{Name, Frame, Completion, stuck}
use Rattle.herm_forms.specs.Exchanges
use Rattle.herm_forms.specs.Callmessages as callmessages
use Rattle.herm_forms.specs.ReturnForms
use Rattle.herm_forms.specs.HearReply
use Rattle.herm_forms.specs.Callmessages.{Composed}
use Rattle.herm_forms.specs.Excess.{excess_over_full}
use Rattle.herm_forms.specs.Acts.{given_back, given_at}
use Rattle.herm_instructions.specs.Instructions.{Argument, of_in, of_inout, of_out, Choice, Instruction, New, Send, Receive, Select, Call, Return, ReturnBy, Create}
use Rattle.herm_instructions.specs.Operands.{count_inputs}
use Rattle.herm_code_machine.specs.ReadyCode.{ReadyCode}
use Rattle.herm_code_machine.specs.Stacks.{Effect, leaving, no_effect, Popped, pop, parts_from, with_popped}

-- the mode of an argument's parameter
abbrev pub mode_of : Argument → Mode
mode_of of_in = by_in
mode_of (of_inout p) = by_inout
mode_of (of_out p) = by_out

-- the paths of the arguments of mode inout, of mode out, and of both, in order
abbrev pub inouts : List Argument → List Path
inouts [] = []
inouts (of_in ∷ arguments) = inouts arguments
inouts (of_inout p ∷ arguments) = p ∷ inouts arguments
inouts (of_out p ∷ arguments) = inouts arguments

abbrev pub outs : List Argument → List Path
outs [] = []
outs (of_in ∷ arguments) = outs arguments
outs (of_inout p ∷ arguments) = outs arguments
outs (of_out p ∷ arguments) = p ∷ outs arguments

abbrev pub returned : List Argument → List Path
returned [] = []
returned (of_in ∷ arguments) = returned arguments
returned (of_inout p ∷ arguments) = p ∷ returned arguments
returned (of_out p ∷ arguments) = p ∷ returned arguments

-- the path of the argument at a place
abbrev pub path_in : Option Argument → List Path
path_in None = []
path_in (Some of_in) = []
path_in (Some (of_inout p)) = p ∷ []
path_in (Some (of_out p)) = p ∷ []

-- the paths of the arguments that an exception keeps, and of those of mode out that it does not
abbrev pub kept_paths : List Argument → List Raised → (exception : ℕ) → List Path
kept_paths arguments keeps e = flat_map (λ i. path_in (slice_get arguments i)) (kept_for keeps e)

abbrev pub left_paths : List Argument → List Raised → (exception : ℕ) → List Path
left_paths arguments keeps e = filter (λ p. not (any_pass (same_path p) (kept_paths arguments keeps e))) (outs arguments)

-- The callmessage of a call, with the values that the stack has for its `in` parameters. Code reference, "Instructions".
abbrev pub composed_of : {N : Type 0} → (Name → N) → ReadyCode → List Argument → (inputs : List Value) → Frame N → Option (Composed N)
composed_of name c arguments inputs b =
    callmessages.compose name (map mode_of arguments) (parts_from inputs) (flat_map (λ p. excess_over_full c.scope p b) (inouts arguments)) (inouts arguments) b

abbrev pub called : {N : Type 0} → (Name → N) → ReadyCode → List Argument → List Value → Frame N → Option (Composed N)
called name c arguments stack b = option_and_then (λ (p : Popped). composed_of name c arguments p.values b) (pop (count_inputs arguments) stack)

-- the paths of the parameters at these places of the callmessage at a path
abbrev pub kept_parameters : ReadyCode → Path → List ℕ → List Path
kept_parameters c m kept = parameters_at c.scope.types c.scope.variables m kept

abbrev pub ports_of_choices : List Choice → List Path
ports_of_choices choices = map (λ (a : Choice). a.port) choices

abbrev pub targets_of_choices : List Choice → List Path
targets_of_choices choices = map (λ (a : Choice). a.target) choices

-- What an instruction wants that is an action. Code reference, "Pieces".
abbrev pub code_wants : {N : Type 0} → (Name → N) → ReadyCode → Instruction → List Value → Frame N → Option (CellWant N)
code_wants name c (New x t) stack b = Some new_port
code_wants name c (Send x o trim) stack b = Exchanges.send_wants trim x o b
code_wants name c (Receive x i) stack b = Exchanges.receive_wants i b
code_wants name c (Select choices) stack b = Exchanges.select_wants (ports_of_choices choices) b
code_wants name c (Call o arguments keeps) stack b = callmessages.call_wants (called name c arguments stack b) o b
code_wants name c (Return m) stack b = ReturnForms.return_wants values (given_back c.scope (given_at c.scope m) b) m b
code_wants name c (ReturnBy m e kept) stack b = ReturnForms.return_wants (Actions.raised e) (given_back c.scope (kept_parameters c m kept) b) m b
code_wants name c (Create o n) stack b = Some (new_process n)
code_wants name c _ stack b = None

-- What the answer to an instruction's action leaves. Code reference, "Pieces".
abbrev pub code_settles : {N : Type 0} → (Name → N) → ReadyCode → Instruction → List Value → (at : ℕ) → CellAction N → Frame N → Effect N
code_settles name c (New x t) stack at action b = leaving stack (Exchanges.new_inport name x action b)
code_settles name c (Send x o trim) stack at action b = leaving stack (Exchanges.send trim x action b)
code_settles name c (Receive x i) stack at action b = leaving stack (Exchanges.receive x action b)
code_settles name c (Select choices) stack at action b = leaving stack (Exchanges.select (targets_of_choices choices) (ports_of_choices choices) at action b)
code_settles name c (Call o arguments keeps) stack at action b =
    with_popped (λ (p : Popped). leaving p.rest (callmessages.call (composed_of name c arguments p.values b) (outs arguments) action)) (pop (count_inputs arguments) stack)
code_settles name c (Return m) stack at action b = leaving stack (ReturnForms.return (given_back c.scope (given_at c.scope m) b) m action)
code_settles name c (ReturnBy m e kept) stack at action b = leaving stack (ReturnForms.return (given_back c.scope (kept_parameters c m kept) b) m action)
code_settles name c (Create o n) stack at action b = leaving stack (Exchanges.create name o action b)
code_settles name c _ stack at action b = no_effect

-- what the answer to the open call leaves, at the call
abbrev pub code_hears : {N : Type 0} → Instruction → (call : ℕ) → CellAction N → Frame N → Completion N
code_hears (Call o arguments keeps) call action b = HearReply.hear_call (returned arguments) (outs arguments) (kept_paths arguments keeps) (left_paths arguments keeps) call action b
code_hears _ call action b = stuck
