-- What a process of code holds, at which ports it looks and which call it has open, as a system sees it.
use Rattle.std.specs.Prelude.{ℕ, List, [], ◌∷◌, find, nat_eq, Option, Some, None, option_map, option_and_then}
use Rattle.herm_model.specs.Paths.{Path}
use Rattle.herm_model.specs.Types.{type_at}
use Rattle.herm_forms.specs.Frames.{Loop}
use Rattle.herm_forms.specs.Incoming.{leads_from}
use Rattle.herm_forms.specs.OpenCalls.{call_type}
use Rattle.herm_system.specs.Machines.{Held, OpenCall}
use Rattle.herm_system.specs.HeldParts.{held_parts}
use Rattle.herm_instructions.specs.Instructions.{Instruction, Receive, Select, Call}
use Rattle.herm_instructions.specs.Labels.{Slot, Label}
use Rattle.herm_code_machine.specs.ReadyCode.{ReadyCode}
use Rattle.herm_code_machine.specs.CodeActions.{ports_of_choices}
use Rattle.herm_code_machine.specs.CodeStates.{Position, at_index, at_end, at_end_by, CodeState}
use Rattle.herm_code_machine.specs.Pieces.{Met, piece_at, action_of}
use Rattle.herm_code_machine.specs.CodeSteps.{met_at}

-- the label of a position, if there is one
abbrev pub label_of : ReadyCode → Position → Option Label
label_of c (at_index i) = c.label i
label_of c at_end = None
label_of c (at_end_by e) = None

-- the type of the rows in a slot, by the label of a position
abbrev pub slot_row : ReadyCode → Position → (slot : ℕ) → Option ℕ
slot_row c p slot = option_and_then (λ (l : Label). option_map (λ (s : Slot). s.row) (find (λ (s : Slot). nat_eq s.number slot) l.slots)) (label_of c p)

-- What a process of code holds: in its variables, in its slots and on its work list, which has no types. Values on the stack
-- have no cells. Code reference, "Processes".
abbrev pub code_held : {N : Type 0} → ReadyCode → CodeState N → List (Held N)
code_held c s =
    held_parts c.scope.variables s.frame.variables (λ (l : Loop _). slot_row c s.position l.statement) (λ (l : Loop _). l.rows) s.frame.loops s.frame.work

-- the exception of an end
abbrev pub exception_of : Position → Option ℕ
exception_of (at_end_by e) = Some e
exception_of at_end = None
exception_of (at_index i) = None

-- the paths of the ports that an instruction looks at, in order
abbrev pub ports_of : Instruction → List Path
ports_of (Receive x i) = i ∷ []
ports_of (Select choices) = ports_of_choices choices
ports_of _ = []

-- the action of the piece at a position
abbrev pub action_at : ReadyCode → Position → Option Met
action_at c p = option_and_then (action_of c) (piece_at c p)

-- the type of the port of this number, at which a process looks for a message: that of the first path that has it
abbrev pub code_port_type : {N : Type 0} → ReadyCode → CodeState N → ℕ → Option ℕ
code_port_type c s n =
    option_and_then (λ (m : Met). option_and_then (type_at c.scope.types c.scope.variables) (find (leads_from n s.frame) (ports_of m.instruction))) (action_at c s.position)

-- the type of the callmessage of a call
abbrev pub type_of_call : ReadyCode → Instruction → Option (Option ℕ)
type_of_call c (Call o arguments keeps) = Some (call_type c.scope (record { port = o; arguments = [] }))
type_of_call c _ = None

-- the call whose answer it waits for, at its position
abbrev pub code_open_call : {N : Type 0} → ReadyCode → CodeState N → Option OpenCall
code_open_call c s =
    option_and_then (λ k. option_and_then (λ (m : Met). option_map (λ t. record { number = k; call_type = t }) (type_of_call c m.instruction)) (met_at c s.position)) s.frame.call
