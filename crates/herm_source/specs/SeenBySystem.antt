-- What a process holds, at which ports it looks and which call it has open, as a system sees it.
use Rattle.std.specs.Prelude.{ℕ, List, Bool, Option, Some, None, option_map, option_and_then}
use Rattle.herm_model.specs.Paths.{Path}
use Rattle.herm_model.specs.Nodes.{Node}
use Rattle.herm_model.specs.Targets.{Target, node, end, end_by}
use Rattle.herm_forms.specs.Frames.{Loop}
use Rattle.herm_forms.specs.Modules.{Module}
pub use Rattle.herm_forms.specs.Incoming.{ports_of}
use Rattle.herm_forms.specs.Incoming.{leads_from, looked_at}
use Rattle.herm_forms.specs.OpenCalls.{Calling, call_type}
use Rattle.herm_system.specs.Machines.{Held, OpenCall}
use Rattle.herm_system.specs.HeldParts.{held_parts}
use Rattle.herm_source.specs.States.{State, node_at}
use Rattle.herm_source.specs.Local.{calling, row_type}

-- What a process holds: in its variables, in the lists of its loops and on its work list, which has no types.
-- Language reference, "The ledger".
abbrev pub values_held : {N : Type 0} → Module → State N → List (Held N)
values_held c s =
    held_parts c.variables s.frame.variables (λ (l : Loop _). row_type c l.statement) (λ (l : Loop _). l.rows) s.frame.loops s.frame.work

-- the exception of an end
abbrev pub exception_at : Target → Option ℕ
exception_at (end_by e) = Some e
exception_at end = None
exception_at (node i) = None

-- the path of the first port in written order that has this number, and its type
abbrev pub looks_at : {N : Type 0} → ℕ → State N → Path → Bool
looks_at n s i = leads_from n s.frame i

abbrev pub port_type : {N : Type 0} → Module → State N → ℕ → Option ℕ
port_type c s n =
    option_and_then (λ (node : Node). looked_at c node.form s.frame n) (node_at c s.point)

-- the call whose answer it waits for, at its point
abbrev pub open_call : {N : Type 0} → Module → State N → Option OpenCall
open_call c s =
    option_and_then (λ k. option_map (λ (call : Calling). record { number = k; call_type = call_type c call }) (calling c s)) s.frame.call
