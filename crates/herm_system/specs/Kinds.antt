-- The cells of a system by their kinds: those that are not finalised, and those that stand at places with types.
use Rattle.std.specs.Prelude.{ℕ, List, [], ◌∷◌, ◌++◌, flat_map, Bool, false, ◌&&◌, nat_eq, Option, slice_get, option_map}
use Rattle.herm_model.specs.Lists.{list_of, numbered, any_pass}
use Rattle.herm_model.specs.Types.{TypeTable}
use Rattle.herm_model.specs.Values.{Name, Kind, a_callmessage, an_inport, Cell, cell, Parts, no_parts, gap, part}
pub use Rattle.herm_journal.specs.PartTypes.{PartTypes, each, all_of, part_types, part_types_at}
use Rattle.herm_journal.specs.Ports.{Port, left_in}
use Rattle.herm_journal.specs.PlaceStates.{Replies}
use Rattle.herm_journal.specs.Messages.{CellReply, cells_in, message_of_port, types_of_reply}
use Rattle.herm_system.specs.Machines.{Held, OpenCall, Machine}
use Rattle.herm_system.specs.Systems.{System, numbered_from_one, console_port}

-- the kinds of cells, in the order of a walk
abbrev mutual
  pub kinds_of : {N : Type 0} → Cell N → List Kind
  kinds_of (cell n k ps) = k ∷ kinds_in ps

  pub kinds_in : {N : Type 0} → Parts N → List Kind
  kinds_in no_parts = []
  kinds_in (gap ps) = kinds_in ps
  kinds_in (part c ps) = kinds_of c ++ kinds_in ps

-- of all that a process holds
abbrev pub kinds_by : {N P : Type 0} → Machine N P → P → List Kind
kinds_by machine x = flat_map (λ (h : Held _). kinds_of h.value) (machine.held x)

-- the kinds of all cells that are not finalised: those that the console, a process, a port or a reply cell has
abbrev pub unfinalised : {P : Type 0} → Machine Name P → System P → List Kind
unfinalised machine s =
    kinds_of console_port ++ flat_map (kinds_by machine) s.processes
    ++ flat_map (λ (p : Port (Cell Name)). flat_map kinds_of (left_in p)) s.ports
    ++ flat_map (λ (rs : Replies (CellReply Name)). flat_map (λ r. flat_map kinds_of (cells_in r.1)) rs) s.replies

-- the kinds of a value's cells, each with the type of its place
abbrev mutual
  pub typed_of : {N : Type 0} → TypeTable → ℕ → Cell N → List (ℕ × Kind)
  typed_of types t (cell n k ps) = (t, k) ∷ typed_in types (part_types_at (slice_get types t) k) ps

  pub typed_in : {N : Type 0} → TypeTable → PartTypes → Parts N → List (ℕ × Kind)
  typed_in types (each []) ps = []
  typed_in types (each (t ∷ ts)) no_parts = []
  typed_in types (each (t ∷ ts)) (gap ps) = typed_in types (each ts) ps
  typed_in types (each (t ∷ ts)) (part c ps) = typed_of types t c ++ typed_in types (each ts) ps
  typed_in types (all_of t) no_parts = []
  typed_in types (all_of t) (gap ps) = typed_in types (all_of t) ps
  typed_in types (all_of t) (part c ps) = typed_of types t c ++ typed_in types (all_of t) ps

-- values by their types, in order
abbrev pub typed_list : {N : Type 0} → TypeTable → List ℕ → List (Cell N) → List (ℕ × Kind)
typed_list types [] cs = []
typed_list types (t ∷ ts) [] = []
typed_list types (t ∷ ts) (c ∷ cs) = typed_of types t c ++ typed_list types ts cs

-- what a process holds at a place with a type
abbrev pub typed_held : {N : Type 0} → TypeTable → Held N → List (ℕ × Kind)
typed_held types h = list_of (λ t. typed_of types t h.value) h.place_type

-- the replies that wait for a process, by the types that its open call waits for
abbrev pub typed_replies : {N : Type 0} → TypeTable → Option OpenCall → Replies (CellReply N) → List (ℕ × Kind)
typed_replies types call rs =
    list_of (λ (k : OpenCall). flat_map (λ r. typed_list types (types_of_reply types k.call_type r.1) (cells_in r.1)) rs) call

-- what a process has at places with types, and what waits in its reply cell
abbrev pub typed_by : {N P : Type 0} → Machine N P → P → Replies (CellReply N) → List (ℕ × Kind)
typed_by machine x rs = flat_map (typed_held machine.types) (machine.held x) ++ typed_replies machine.types (machine.open_call x) rs

abbrev pub replies_of : {P : Type 0} → System P → ℕ → Replies (CellReply Name)
replies_of s p = list_of (λ rs. rs) (numbered_from_one p s.replies)

abbrev pub typed_process : {P : Type 0} → Machine Name P → System P → ℕ × P → List (ℕ × Kind)
typed_process machine s (p, x) = typed_by machine x (replies_of s p)

-- what is queued at a port of a type
abbrev pub typed_port : TypeTable → List ℕ → ℕ × Port (Cell Name) → List (ℕ × Kind)
typed_port types ports (n, p) =
    list_of (λ t. list_of (λ m. flat_map (typed_of types m) (left_in p)) (message_of_port types t)) (slice_get ports n)

-- The cells that stand at places with types, where the ports have these types: all but those of the console and of
-- work lists. Language reference, "Sound states".
abbrev pub typed_cells : {P : Type 0} → Machine Name P → List ℕ → System P → List (ℕ × Kind)
typed_cells machine ports s =
    flat_map (typed_process machine s) (numbered 1 s.processes) ++ flat_map (typed_port machine.types ports) (numbered 0 s.ports)

abbrev pub is_inport_of : ℕ → Kind → Bool
is_inport_of n (an_inport port) = nat_eq port n
is_inport_of n _ = false

abbrev pub is_callmessage_of : ℕ → ℕ → Kind → Bool
is_callmessage_of p k (a_callmessage caller call) = nat_eq caller p && nat_eq call k
is_callmessage_of p k _ = false

-- the number of the call that a process has open
abbrev pub open_number : {N P : Type 0} → Machine N P → P → Option ℕ
open_number machine x = option_map (λ (call : OpenCall). call.number) (machine.open_call x)

-- process p has this call open
abbrev pub has_open : {P : Type 0} → Machine Name P → System P → ℕ → ℕ → Bool
has_open machine s p k = any_pass (λ x. any_pass (nat_eq k) (list_of (λ call. call ∷ []) (open_number machine x))) (list_of (λ x. x ∷ []) (numbered_from_one p s.processes))

abbrev pub is_open_port : {P : Type 0} → System P → ℕ → Bool
is_open_port s n = any_pass (λ (p : Port (Cell Name)). p.is_open) (list_of (λ p. p ∷ []) (slice_get s.ports n))
