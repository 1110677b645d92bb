-- Laws of one process that a machine is to meet, so that the laws of runs hold of it.
use Rattle.std.specs.Prelude.{ℕ, ◌+◌, ◌≤◌, List, [], ◌∷◌, Some, option_map, ⊤, ◌≡◌}
use Rattle.herm_model.specs.Values.{Name, Kind, a_callmessage, an_inport, an_outport, Cell}
use Rattle.herm_model.specs.CellNames.{forget}
use Rattle.herm_journal.specs.NextNumbers.{Book}
use Rattle.herm_journal.specs.Messages.{CellWant, CellAction}
use Rattle.herm_journal.specs.Weights.{weigh, weight_received}
use Rattle.herm_journal.specs.Kinds.{HasKinds, WantKinds, ActionKinds}
use Rattle.herm_journal.specs.Renaming.{rename_want, rename_action, forget_name}
use Rattle.herm_system.specs.Machines.{Held, Machine}
use Rattle.herm_system.specs.Ledger.{made_by, held_by, finalised_by, goes_out}
use Rattle.herm_system.specs.Suiting.{Answers}

-- A process begins with the number and the module that it is given, and keeps them.
pub record KeepsNumbers {P : Type 0} (machine : Machine Name P) : Type 0 where
  pub begins : (code number : ℕ) (port : Cell Name) (x : P) → machine.begin code number port ≡ Some x → (machine.number x ≡ number) × (machine.module_number x ≡ code)
  pub local_steps : (x y : P) → machine.local_step x ≡ Some y → (machine.number y ≡ machine.number x) × (machine.module_number y ≡ machine.module_number x)
  pub answers : (x y : P) (at : ℕ) (a : CellAction Name) → machine.answered x at a ≡ Some y → (machine.number y ≡ machine.number x) × (machine.module_number y ≡ machine.module_number x)

-- what a process holds or has finalised
abbrev pub kept_by : {P : Type 0} → (Name → ℕ) → Machine Name P → P → ℕ
kept_by w machine x = held_by w machine x + finalised_by w machine x

-- A process that begins has its port and has made nothing; what a local step has made is what the process holds and has
-- finalised more; and what was made behind an action, with what came in, is that, with what went out.
-- Language reference, "The ledger".
pub record KeepsLedger {P : Type 0} (machine : Machine Name P) : Type 0 where
  pub begins : (w : Name → ℕ) (code number : ℕ) (port : Cell Name) (x : P) → machine.begin code number port ≡ Some x
      → made_by w machine x + weigh w port ≡ kept_by w machine x
  pub local_steps : (w : Name → ℕ) (x y : P) → machine.local_step x ≡ Some y
      → made_by w machine y + kept_by w machine x ≡ made_by w machine x + kept_by w machine y
  pub answers : (w : Name → ℕ) (x y : P) (want : CellWant Name) (at : ℕ) (a : CellAction Name) → machine.wanted x ≡ Some want → machine.answered x at a ≡ Some y
      → made_by w machine y + (kept_by w machine x + weight_received w a) ≡ made_by w machine x + kept_by w machine y + goes_out w machine x want a

-- a port or a caller whose number the book has counted
abbrev pub IsKnown : Book → Kind → Type 0
IsKnown b (an_inport n) = n ≤ b.ports
IsKnown b (an_outport n) = n ≤ b.ports
IsKnown b (a_callmessage caller call) = (1 ≤ caller) × (caller ≤ b.processes)
IsKnown b k = ⊤

-- what is held is of the kinds
abbrev pub HeldKinds : {N : Type 0} → (Kind → Type 0) → List (Held N) → Type 0
HeldKinds of [] = ⊤
HeldKinds of (h ∷ hs) = HasKinds of h.value × HeldKinds of hs

-- these are among the kinds
abbrev pub AreAmong : (Kind → Type 0) → List Kind → Type 0
AreAmong of [] = ⊤
AreAmong of (k ∷ ks) = of k × AreAmong of ks

-- The process knows only ports and callers that the book has counted, in its cells and in values beside them that are no
-- cells, whose kinds are given; and it is itself counted.
abbrev pub Knows : {P : Type 0} → Machine Name P → (beside : P → List Kind) → Book → P → Type 0
Knows machine beside b x = HeldKinds (IsKnown b) (machine.held x) × (1 ≤ machine.number x) × (machine.number x ≤ b.processes) × AreAmong (IsKnown b) (beside x)

-- a process that has no values but its cells
abbrev pub cells_alone : {P : Type 0} → P → List Kind
cells_alone x = []

-- Whatever the book has counted: a process that knows only what is counted wants nothing of other places, and what
-- comes to it as that is all that it learns.
pub record KnowsPlaces {P : Type 0} (machine : Machine Name P) (beside : P → List Kind) : Type 0 where
  pub begins : (b : Book) (code number : ℕ) (port : Cell Name) (x : P) → HasKinds (IsKnown b) port → 1 ≤ number → number ≤ b.processes → machine.begin code number port ≡ Some x → Knows machine beside b x
  pub wants : (b : Book) (x : P) (want : CellWant Name) → Knows machine beside b x → machine.wanted x ≡ Some want → WantKinds (IsKnown b) want
  pub local_steps : (b : Book) (x y : P) → Knows machine beside b x → machine.local_step x ≡ Some y → Knows machine beside b y
  pub answers : (b : Book) (x y : P) (want : CellWant Name) (at : ℕ) (a : CellAction Name) → Knows machine beside b x → machine.wanted x ≡ Some want → Answers want a → ActionKinds (IsKnown b) a
      → machine.answered x at a ≡ Some y → Knows machine beside b y

-- A process does the same without the names of its cells: what this machine does to a state without names is what the
-- other does to the state, without its names. Language reference, "Values".
pub record ForgetsNames {P Q : Type 0} (machine : Machine Name P) (nameless : Machine ⊤ Q) (without : P → Q) : Type 0 where
  pub types : nameless.types ≡ machine.types
  pub number : (x : P) → nameless.number (without x) ≡ machine.number x
  pub begins : (code number : ℕ) (port : Cell Name) → nameless.begin code number (forget port) ≡ option_map without (machine.begin code number port)
  pub ready : (limit : ℕ) (x : P) → nameless.ready limit (without x) ≡ machine.ready limit x
  pub wants : (x : P) → nameless.wanted (without x) ≡ option_map (rename_want forget_name) (machine.wanted x)
  pub local_steps : (x : P) → nameless.local_step (without x) ≡ option_map without (machine.local_step x)
  pub answers : (x : P) (at : ℕ) (a : CellAction Name) → nameless.answered (without x) at (rename_action forget_name a) ≡ option_map without (machine.answered x at a)
  pub port_types : (x : P) (port : ℕ) → nameless.port_type (without x) port ≡ machine.port_type x port
  pub open_calls : (x : P) → nameless.open_call (without x) ≡ machine.open_call x
