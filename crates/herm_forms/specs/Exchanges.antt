-- What each form does that is an action: what it wants of a place, and what the answer leaves.
use Rattle.std.specs.Prelude.{ℕ, suc, List, [], ◌∷◌, cond, nat_eq, Option, Some, None, option_map, option_and_then}
use Rattle.herm_model.specs.Paths.{Path}
use Rattle.herm_model.specs.Outcomes.{ok, arm, raised, depletion, disconnected}
use Rattle.herm_model.specs.Values.{an_inport, an_outport, Cell, cell, no_parts, cell_at, read_at}
use Rattle.herm_journal.specs.Actions.{to_put, to_take, make_port, make_process, put, take}
use Rattle.herm_forms.specs.Frames.{Name, Frame, Completion, goes, stuck, if_there, drop, putting, making}
use Rattle.herm_forms.specs.Forms.{moving, inport_number, outport_number}
use Rattle.herm_journal.specs.Messages.{CellWant, CellAction}

-- the port of the inport at a path, and the port that the outport at a path leads to
abbrev pub inport_at : {N : Type 0} → Path → Frame N → Option ℕ
inport_at i b = option_and_then inport_number (read_at i b.variables)

abbrev pub outport_at : {N : Type 0} → Path → Frame N → Option ℕ
outport_at o b = option_and_then outport_number (read_at o b.variables)

-- `new x` of an inport: the number, or Depletion where there is none
abbrev pub new_inport : {N : Type 0} → (Name → N) → Path → CellAction N → Frame N → Completion N
new_inport name x (make_port (Some n)) b = making name (an_inport n) no_parts (putting x ok) b
new_inport name x (make_port None) b = goes (raised depletion) b
new_inport name x _ b = stuck

-- The inport of the process that is being made. Its maker is the process that makes it, from the state that this has
-- before the answer. Language reference, "Values".
abbrev pub process_inport : {N : Type 0} → (Name → N) → (port : ℕ) → Frame N → Cell N
process_inport name n b = cell (name (b.number, b.serial)) (an_inport n) no_parts

-- `create o of P`: the new process's inport, which goes to it, and an outport to it; or Depletion
abbrev pub create : {N : Type 0} → (Name → N) → Path → CellAction N → Frame N → Completion N
create name o (make_process code (Some made)) b =
    making name (an_inport made.1) no_parts (λ inport b. making name (an_outport made.1) no_parts (putting o ok) b) b
create name o (make_process code None) b = goes (raised depletion) b
create name o _ b = stuck

-- `send x to o` wants to put x without what it holds beyond the facts at which messages travel, which is at the
-- paths `lost`. Language reference, "Excess".
abbrev pub send_wants : {N : Type 0} → (lost : List Path) → (source port : Path) → Frame N → Option (CellWant N)
send_wants lost x o b =
    option_and_then (λ port. option_map (to_put port) (cell_at x (drop lost b).variables)) (outport_at o b)

-- The message is at the port; or it comes back, and the outcome is Disconnected. Language reference, "Ports".
abbrev pub send : {N : Type 0} → (lost : List Path) → (source : Path) → CellAction N → Frame N → Completion N
send lost x (put (Some k) m) b = moving lost x (λ sent b. goes ok b) b
send lost x (put None m) b = moving lost x (λ sent b. putting x (raised disconnected) m b) b
send lost x _ b = stuck

-- `receive x from i`
abbrev pub receive_wants : {N : Type 0} → (port : Path) → Frame N → Option (CellWant N)
receive_wants i b = option_map (λ port. to_take (port ∷ [])) (inport_at i b)

abbrev pub receive : {N : Type 0} → (target : Path) → CellAction N → Frame N → Completion N
receive x (take k m) b = putting x ok m b
receive x _ b = stuck

-- the ports of inports; none where one is missing
abbrev pub ports_at : {N : Type 0} → List Path → Frame N → Option (List ℕ)
ports_at [] b = Some []
ports_at (i ∷ paths) b = option_and_then (λ port. option_map (port ∷◌) (ports_at paths b)) (inport_at i b)

-- `select` looks at its ports in written order
abbrev pub select_wants : {N : Type 0} → (ports : List Path) → Frame N → Option (CellWant N)
select_wants ports b = option_map to_take (ports_at ports b)

-- the place of a port in a list, counted on from one place; the first one in written order
abbrev pub place_of_port : ℕ → ℕ → List ℕ → Option ℕ
place_of_port n port [] = None
place_of_port n port (q ∷ ports) = cond (nat_eq port q) (Some n) (place_of_port (suc n) port ports)

-- what was received at a place of the list of arms
abbrev pub receive_at : {N : Type 0} → (targets : List Path) → (from place : ℕ) → Cell N → Frame N → Completion N
receive_at [] n place m b = stuck
receive_at (x ∷ targets) n place m b = cond (nat_eq n place) (putting x (arm place) m b) (receive_at targets (suc n) place m b)

-- The arm of the port from which the message came. Language reference, "Select".
abbrev pub select : {N : Type 0} → (targets ports : List Path) → (from : ℕ) → CellAction N → Frame N → Completion N
select targets ports from (take k m) b =
    if_there (λ place. receive_at targets 0 place m b) (option_and_then (place_of_port 0 from) (ports_at ports b))
select targets ports from _ b = stuck
