-- Blocks in one pass over the nodes, by the numbers of statements and the lengths of loops.
use Rattle.std.specs.Prelude.{ℕ, ◌+◌, List, [], ◌∷◌, ◌++◌, map, filter, Bool, false, not, ◌&&◌, ◌||◌, cond, nat_eq, nat_le, nat_lt, slice_get, get_or}
use Rattle.herm_model.specs.Lists.{map_or, list_of, any_pass}
use Rattle.herm_model.specs.Paths.{Path, Fact, path_of, is_at_or_below}
use Rattle.herm_model.specs.Types.{TypeTable}
use Rattle.herm_model.specs.Statements.{Form}
use Rattle.herm_model.specs.Outcomes.{Outcome, ok, same_outcome}
use Rattle.herm_model.specs.ControlPaths.{Edge}
use Rattle.herm_model.specs.Targets.{Target, node, end, end_by}
use Rattle.herm_instructions.specs.Labels.{Slot}
use Rattle.herm_translated.specs.Departures.{Arrival, to_block, to_second_step, to_end, to_end_by, Departure}
use Rattle.herm_translated.specs.BlockLabels.{goes_to_first}
use Rattle.herm_translated.specs.CodeBlocks.{slots_within, is_for, is_one_plain, first_list, further_lists}
use Rattle.herm_fronts.specs.Blocks.{MarkedDeparture}

-- the statement with a number is in the loop of another one, by the lengths of loops at their numbers
abbrev pub is_within : (lengths : List ℕ) → (number loop : ℕ) → Bool
is_within lengths number l = nat_le l number && nat_lt number (l + get_or lengths l 0)

-- the number of a node's statement
abbrev pub number_by : (numbers : List ℕ) → (node : ℕ) → ℕ
number_by numbers i = map_or 0 (λ n. n) (slice_get numbers i)

-- the list at a place, which is empty for none
abbrev pub list_at : {X : Type 0} → List (List X) → (place : ℕ) → List X
list_at lists i = list_of (λ xs. xs) (slice_get lists i)

-- Of these slots those of the loops that have the statement with a number. Code reference, "Slots".
abbrev pub open_at : (lengths : List ℕ) → (number : ℕ) → List Slot → List Slot
open_at lengths number slots = filter (λ (s : Slot). is_within lengths number s.number) slots

module _ (numbers lengths : List ℕ) where
  -- the node at a place is inside the loop with a number
  abbrev pub is_inside_by : (node loop : ℕ) → Bool
  is_inside_by i l = map_or false (λ k. is_within lengths k l) (slice_get numbers i)

  -- where an edge to a node arrives, and the slots that it leaves
  abbrev pub left_by : List Slot → (node : ℕ) → List ℕ
  left_by slots i = map (λ (s : Slot). s.number) (filter (λ (s : Slot). not (is_inside_by i s.number)) slots)

  abbrev pub arrives_by : List Slot → (node : ℕ) → Arrival
  arrives_by slots i = cond (any_pass (λ (s : Slot). nat_eq s.number (number_by numbers i)) slots) (to_second_step i) (to_block i)

  -- an edge; at an end nothing is left to drop
  abbrev pub departure_by : List Slot → Outcome → Target → (drops : List Path) → Departure
  departure_by slots o (node i) drops = record { outcome = o; drops = drops; slots = left_by slots i; arrival = arrives_by slots i }
  departure_by slots o end drops = record { outcome = o; drops = []; slots = []; arrival = to_end }
  departure_by slots o (end_by e) drops = record { outcome = o; drops = []; slots = []; arrival = to_end_by e }

  abbrev pub marked_by : List Slot → Edge → (drops : List Path) → MarkedDeparture
  marked_by slots e drops = record { departure = departure_by slots e.outcome e.target drops; makes = e.makes; kills = e.kills }

  abbrev pub departures_by : List Slot → List Edge → (drops : List (List Path)) → List MarkedDeparture
  departures_by slots [] drops = []
  departures_by slots (e ∷ es) drops = marked_by slots e (first_list drops) ∷ departures_by slots es (further_lists drops)

-- a node by its statement's number and form, and its edges
pub record SeenNode : Type 0 where
  pub number : ℕ
  pub form : Form
  pub edges : List Edge

-- the ways out of a node: the slots around it, whether control goes on to the next block, and otherwise its edges
pub record SeenWays : Type 0 where
  pub node : SeenNode
  pub slots : List Slot
  pub onward : Bool
  pub departures : List MarkedDeparture

-- a block whose edges are marked with what they make and take away
pub record MarkedBlock : Type 0 where
  pub statement : ℕ
  pub form : Form
  pub facts : List Fact
  pub slots : List Slot
  pub onward : Bool
  pub departures : List MarkedDeparture

abbrev pub is_for_in : List SeenNode → (place : ℕ) → Bool
is_for_in nodes i = map_or false (λ (n : SeenNode). is_for n.form) (slice_get nodes i)

-- Control goes on from a front to the block at the next place. Code reference, "Blocks".
abbrev pub goes_on : List SeenNode → (next : ℕ) → List MarkedDeparture → Bool
goes_on nodes next edges = is_one_plain next (map (λ (d : MarkedDeparture). d.departure) edges) && not (is_for_in nodes next)

-- edges, where control does not go on without them
abbrev pub edges_left : (onward : Bool) → List MarkedDeparture → List MarkedDeparture
edges_left onward edges = cond onward [] edges

-- what an edge hands on
abbrev pub behind_edge : Edge → List Fact → List Fact
behind_edge e facts = e.makes ++ filter (λ f. not (any_pass (λ p. is_at_or_below p (path_of f)) e.kills)) facts

-- What a node hands on by `ok`; where it has no such edge, all that it has.
abbrev pub handed_by : List Edge → List Fact → List Fact
handed_by [] facts = facts
handed_by (e ∷ es) facts = cond (same_outcome e.outcome ok) (behind_edge e facts) (handed_by es facts)

-- some edge arrives at the first step of a node's block, or that to where the process begins
abbrev pub led_by : Departure → List SeenWays → (node : ℕ) → Bool
led_by entry ways i = goes_to_first i entry.arrival || any_pass (λ (w : SeenWays). any_pass (λ (d : MarkedDeparture). goes_to_first i d.departure.arrival) w.departures) ways

module _ (types : TypeTable) (variables numbers lengths : List ℕ) where
  -- the edges of a node that has these slots around it
  abbrev pub edges_by : List Slot → SeenNode → (drops : List (List Path)) → List MarkedDeparture
  edges_by slots n drops = departures_by numbers lengths (slots_within types variables n.number n.form slots) n.edges drops

  module _ (nodes : List SeenNode) where
    abbrev pub ways_at : (next : ℕ) → List Slot → SeenNode → (drops : List (List Path)) → SeenWays
    ways_at next slots n drops = record {
      node = n;
      slots = slots;
      onward = goes_on nodes next (edges_by slots n drops);
      departures = edges_left (goes_on nodes next (edges_by slots n drops)) (edges_by slots n drops);
    }

    -- The ways out of nodes from a place on, where there are these slots at the edges of the node before: the slots around a node are those of them
    -- whose loops have it.
    abbrev pub ways_by : (place : ℕ) → (before : List Slot) → List SeenNode → (drops : List (List (List Path))) → List SeenWays
    ways_by i before [] drops = []
    ways_by i before (n ∷ ns) drops =
        ways_at (i + 1) (open_at lengths n.number before) n (list_at drops i)
        ∷ ways_by (i + 1) (slots_within types variables n.number n.form (open_at lengths n.number before)) ns drops

abbrev pub block_with : SeenWays → List Fact → MarkedBlock
block_with w facts = record { statement = w.node.number; form = w.node.form; facts = facts; slots = w.slots; onward = w.onward; departures = w.departures }

-- the facts of a block: those of its node's label where an edge leads to it and at a `for`, at any other what is handed on
abbrev pub facts_by : (led : Bool) → Form → (label handed : List Fact) → List Fact
facts_by led form label handed = cond (led || is_for form) label handed

-- Blocks with settled facts from a place on. Code reference, "Blocks".
abbrev pub settled_by : (led : ℕ → Bool) → (labels : List (List Fact)) → (place : ℕ) → (handed : List Fact) → List SeenWays → List MarkedBlock
settled_by led labels i handed [] = []
settled_by led labels i handed (w ∷ ways) =
    block_with w (facts_by (led i) w.node.form (list_at labels i) handed)
    ∷ settled_by led labels (i + 1) (handed_by w.node.edges (facts_by (led i) w.node.form (list_at labels i) handed)) ways

-- The blocks of all nodes.
abbrev pub blocks_by : TypeTable → (variables numbers lengths : List ℕ) → (entry : Departure) → List SeenNode → (labels : List (List Fact)) → (drops : List (List (List Path))) → List MarkedBlock
blocks_by types variables numbers lengths entry nodes labels drops =
    settled_by (led_by entry (ways_by types variables numbers lengths nodes 0 [] nodes drops)) labels 0 [] (ways_by types variables numbers lengths nodes 0 [] nodes drops)
