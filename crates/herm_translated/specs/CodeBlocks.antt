-- Blocks: what becomes of each node of a process, before its code has indices.
use Rattle.std.specs.Prelude.{ℕ, suc, List, [], ◌∷◌, ◌++◌, map, filter, Bool, true, false, not, ◌&&◌, cond, nat_eq, slice_get}
use Rattle.herm_model.specs.Lists.{map_or, list_of, any_pass}
use Rattle.herm_model.specs.Paths.{Path, Fact}
use Rattle.herm_model.specs.Types.{TypeTable}
use Rattle.herm_model.specs.Calls.{shape_at}
use Rattle.herm_model.specs.Statements.{Form, For}
use Rattle.herm_model.specs.Outcomes.{Outcome, ok}
use Rattle.herm_model.specs.Nodes.{Node}
use Rattle.herm_model.specs.Exits.{Exit, exits}
use Rattle.herm_model.specs.Targets.{Target, node, end, end_by}
use Rattle.herm_forms.specs.Modules.{Module}
use Rattle.herm_forms.specs.LeavingLoops.{is_inside, keeps_loop}
use Rattle.herm_instructions.specs.Labels.{Slot}
use Rattle.herm_instructions.specs.Effects.{row_type}
use Rattle.herm_translated.specs.Departures.{Arrival, to_block, to_second_step, to_end, to_end_by, Departure}

-- A process module with what its check gives: for each node the facts of its label, the paths that are dropped where the process
-- begins, and for each node and each of its exits the paths that are dropped there.
pub record CheckedModule : Type 0 where
  pub code : Module
  pub facts : List (List Fact)
  pub entry_drops : List Path
  pub drops : List (List (List Path))

-- A node's part of the code: its statement's number and form, the facts and slots at its first step, whether control goes on from its front to the
-- next block, and otherwise its edges. Code reference, "Blocks".
pub record CodeBlock : Type 0 where
  pub statement : ℕ
  pub form : Form
  pub facts : List Fact
  pub slots : List Slot
  pub onward : Bool
  pub departures : List Departure

abbrev pub is_for : Form → Bool
is_for (For r t) = true
is_for form = false

-- an edge by `ok` to the block of this node, which drops nothing
abbrev pub is_plain_edge : (next : ℕ) → Outcome → (drops : List Path) → (slots : List ℕ) → Arrival → Bool
is_plain_edge next ok [] [] (to_block n) = nat_eq n next
is_plain_edge next o drops slots arrival = false

-- there is one edge, and it is such
abbrev pub is_one_plain : (next : ℕ) → List Departure → Bool
is_one_plain next [] = false
is_one_plain next (d ∷ []) = is_plain_edge next d.outcome d.drops d.slots d.arrival
is_one_plain next (d ∷ e ∷ ds) = false

-- the slot of a `for`, which has its statement's number
abbrev pub own_slot : TypeTable → (variables : List ℕ) → (number : ℕ) → Form → List Slot
own_slot types variables number (For r t) = map (λ row. record { number = number; row = row }) (list_of row_type (shape_at types variables t))
own_slot types variables number form = []

-- the slots of a form's edges, where there are these at its first step
abbrev pub slots_within : TypeTable → (variables : List ℕ) → (number : ℕ) → Form → List Slot → List Slot
slots_within types variables number form slots = own_slot types variables number form ++ slots

-- the first of the lists, and those behind it
abbrev pub first_list : {X : Type 0} → List (List X) → List X
first_list [] = []
first_list (xs ∷ rest) = xs

abbrev pub further_lists : {X : Type 0} → List (List X) → List (List X)
further_lists [] = []
further_lists (xs ∷ rest) = rest

module _ (c : Module) where
  -- the number of a node's statement
  abbrev pub number_at : (node : ℕ) → ℕ
  number_at i = map_or 0 (λ (n : Node). n.number) (slice_get c.nodes i)

  -- the loop of a node is around another node
  abbrev pub is_around : (loop : Node) → (node : ℕ) → Bool
  is_around l i = is_inside c i l.number && not (nat_eq l.number (number_at i))

  -- The slots of the loops around a node among these, of which outer ones come first: innermost first. Code reference, "Slots".
  abbrev pub slots_among : List Node → (node : ℕ) → List Slot
  slots_among [] i = []
  slots_among (l ∷ ls) i = slots_among ls i ++ cond (is_around l i) (own_slot c.types c.variables l.number l.form) []

  abbrev pub slots_around : (node : ℕ) → List Slot
  slots_around i = slots_among c.nodes i

  -- Where an edge to a target arrives, with these slots: a `for` whose rows are there goes on with its second step.
  -- Code reference, "Blocks".
  abbrev pub arrival_at : List Slot → Target → Arrival
  arrival_at slots (node i) = cond (any_pass (λ (s : Slot). nat_eq s.number (number_at i)) slots) (to_second_step i) (to_block i)
  arrival_at slots end = to_end
  arrival_at slots (end_by e) = to_end_by e

  -- the slots that an edge to a target leaves
  abbrev pub slots_left : List Slot → Target → List ℕ
  slots_left slots t = map (λ (s : Slot). s.number) (filter (λ (s : Slot). not (keeps_loop c t s.number)) slots)

  -- an edge, where there are these slots; at an end nothing is left to drop
  abbrev pub departure : List Slot → Outcome → Target → (drops : List Path) → Departure
  departure slots o (node i) drops = record { outcome = o; drops = drops; slots = slots_left slots (node i); arrival = arrival_at slots (node i) }
  departure slots o t drops = record { outcome = o; drops = []; slots = []; arrival = arrival_at slots t }

  abbrev pub departures_of : List Slot → List Exit → (drops : List (List Path)) → List Departure
  departures_of slots [] drops = []
  departures_of slots (x ∷ xs) drops = departure slots x.outcome x.target (first_list drops) ∷ departures_of slots xs (further_lists drops)

  -- the edges of the node at a place, one for each exit
  abbrev pub edges_of : (place : ℕ) → Node → (drops : List (List Path)) → List Departure
  edges_of i n drops = departures_of (slots_within c.types c.variables n.number n.form (slots_around i)) (exits c.types c.variables n) drops

  abbrev pub is_for_at : (place : ℕ) → Bool
  is_for_at i = map_or false (λ (n : Node). is_for n.form) (slice_get c.nodes i)

  -- Control goes on from a front to the next block, with no jump, where the only edge leads there and drops nothing, and there is no `for`.
  -- Code reference, "Blocks".
  abbrev pub goes_onward : (place : ℕ) → List Departure → Bool
  goes_onward i edges = is_one_plain (suc i) edges && not (is_for_at (suc i))

  -- the block of the node at a place
  abbrev pub block_of : (place : ℕ) → Node → List Fact → (drops : List (List Path)) → CodeBlock
  block_of i n facts drops = record {
    statement = n.number;
    form = n.form;
    facts = facts;
    slots = slots_around i;
    onward = goes_onward i (edges_of i n drops);
    departures = cond (goes_onward i (edges_of i n drops)) [] (edges_of i n drops);
  }

  -- the blocks of nodes from a place on
  abbrev pub blocks_from : (place : ℕ) → List Node → List (List Fact) → List (List (List Path)) → List CodeBlock
  blocks_from i [] facts drops = []
  blocks_from i (n ∷ ns) facts drops = block_of i n (first_list facts) (first_list drops) ∷ blocks_from (suc i) ns (further_lists facts) (further_lists drops)

-- The blocks of a process, one for each node in order, and the edge to where it begins. Code reference, "Blocks".
abbrev pub blocks_of : CheckedModule → List CodeBlock
blocks_of m = blocks_from m.code 0 m.code.nodes m.facts m.drops

abbrev pub entry_edge : CheckedModule → Departure
entry_edge m = departure m.code [] ok m.code.entry m.entry_drops
