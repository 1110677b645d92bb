-- Blocks in one pass over the nodes are the blocks of the module.
use Rattle.std.proofs.Common.{◌≡◌, ℕ, zero, suc, ◌+◌, ◌<◌, List, [], ◌∷◌, ◌++◌, map, length, Bool, true, false, ◌&&◌, ◌||◌, cond, nat_eq, Option, Some, refl, sym, ap, ap₂, ◌∙◌, append_assoc, arith, true≢false, slice_get}
use Rattle.std.specs.Prelude.{filter, not}
use Rattle.herm_model.specs.Lists.{map_or, list_of, any_pass}
use Rattle.herm_model.specs.Paths.{Path, Fact}
use Rattle.herm_model.specs.Types.{TypeTable}
use Rattle.herm_model.specs.Statements.{Form}
use Rattle.herm_model.specs.Outcomes.{Outcome, ok}
use Rattle.herm_model.specs.Nodes.{Node}
use Rattle.herm_model.specs.Exits.{Exit, exits}
use Rattle.herm_model.specs.ControlPaths.{edge}
use Rattle.herm_model.specs.FactsOfStatements.{makes, kills}
use Rattle.herm_model.specs.Targets.{Target, node, end, end_by}
use Rattle.herm_forms.specs.Modules.{Span, Module}
use Rattle.herm_forms.specs.LeavingLoops.{is_in_loop, is_inside}
use Rattle.herm_instructions.specs.Labels.{Slot}
use Rattle.herm_translated.specs.Departures.{Departure, Arrival, to_block, to_second_step}
use Rattle.herm_translated.specs.CodeBlocks.{CodeBlock, is_for, is_one_plain, goes_onward, slots_within, first_list, further_lists, number_at, slots_around, departure, departures_of, edges_of, blocks_from}
use Rattle.herm_translated.specs.BlockLabels.{facts_after, goes_to_first}
use Rattle.herm_translated.specs.Settled.{settled_from}
use Rattle.herm_fronts.specs.Blocks.{MarkedDeparture}
use Rattle.herm_blocks.specs.Marked.{marked_departure_of, marked_of}
use Rattle.herm_blocks.specs.Scopes.{is_within, list_at, open_at, is_inside_by, number_by, departure_by, marked_by, departures_by, SeenNode, SeenWays, MarkedBlock, is_for_in, goes_on, edges_left, handed_by, ways_at, ways_by, block_with, facts_by, settled_by, led_by, blocks_by}
use Rattle.herm_blocks.proofs.HandingOn.{hands-on}
use Rattle.herm_blocks.proofs.LeadingOn.{LeadOn}
use Rattle.herm_blocks.proofs.OpenSlots.{RiseFrom, AreBelow, below-more, below-joined, AreOpen, open-next, slots-around-are}

abbrev pub seen_as : TypeTable → List ℕ → Node → SeenNode
seen_as types variables n = record { number = n.number; form = n.form; edges = map (edge types variables n.form) (exits types variables n) }

filters-same : {X : Type 0} (p q : X → Bool) (xs : List X) → ((x : X) → p x ≡ q x) → filter p xs ≡ filter q xs
filters-same p q [] e = refl
filters-same p q (x ∷ xs) e = by (p x) (q x) (e x) (filters-same p q xs e)
  where
    by : (a b : Bool) → a ≡ b → filter p xs ≡ filter q xs → cond a (x ∷ filter p xs) (filter p xs) ≡ cond b (x ∷ filter q xs) (filter q xs)
    by true true e f = ap (x ∷◌) f
    by true false e f = absurd (true≢false e)
    by false true e f = absurd (true≢false (sym e))
    by false false e f = f

or-none : (a : Bool) → (a || false) ≡ a
or-none true = refl
or-none false = refl

abbrev a_departure : Outcome → List Path → List ℕ → Arrival → Departure
a_departure o drops slots arrival = record { outcome = o; drops = drops; slots = slots; arrival = arrival }

first-at : {X : Type 0} (xs : List (List X)) → list_at xs 0 ≡ first_list xs
first-at [] = refl
first-at (x ∷ xs) = refl

further-at : {X : Type 0} (xs : List (List X)) (i : ℕ) → list_at (further_lists xs) i ≡ list_at xs (suc i)
further-at [] i = refl
further-at (x ∷ xs) i = refl

-- the second lists are the first ones from a place on
abbrev AreFrom : {X : Type 0} → ℕ → List (List X) → List (List X) → Type 0
AreFrom i all rest = (k : ℕ) → list_at all (i + k) ≡ list_at rest k

from-next : {X : Type 0} (i : ℕ) (all rest : List (List X)) → AreFrom i all rest → AreFrom (suc i) all (further_lists rest)
from-next i all rest h k = ap (list_at all) (let e : suc i + k ≡ i + suc k = omega arith in e) ∙ (h (suc k) ∙ sym (further-at rest k))

from-first : {X : Type 0} (i : ℕ) (all rest : List (List X)) → AreFrom i all rest → list_at all i ≡ first_list rest
from-first i all rest h = ap (list_at all) (let e : i ≡ i + 0 = omega arith in e) ∙ (h 0 ∙ first-at rest)

number-in : (i : ℕ) (ns : List Node) → number_by (map (λ (n : Node). n.number) ns) i ≡ map_or 0 (λ (n : Node). n.number) (slice_get ns i)
number-in i [] = refl
number-in zero (n ∷ ns) = refl
number-in (suc i) (n ∷ ns) = number-in i ns

-- the node at a place
node-at : (ms : List Node) (n : Node) (ns : List Node) → slice_get (ms ++ n ∷ ns) (length ms) ≡ Some n
node-at [] n ns = refl
node-at (m ∷ ms) n ns = node-at ms n ns

abbrev a_ways : SeenNode → List Slot → Bool → List MarkedDeparture → SeenWays
a_ways n slots onward ds = record { node = n; slots = slots; onward = onward; departures = ds }

any-map : {X Y : Type 0} (p : Y → Bool) (f : X → Y) (xs : List X) → any_pass p (map f xs) ≡ any_pass (λ x. p (f x)) xs
any-map p f [] = refl
any-map p f (x ∷ xs) = ap (λ b. p (f x) || b) (any-map p f xs)

module _ (c : Module) where
  -- whether control goes on

  for-at : (i : ℕ) (ns : List Node) → is_for_in (map (seen_as c.types c.variables) ns) i ≡ map_or false (λ (n : Node). is_for n.form) (slice_get ns i)
  for-at i [] = refl
  for-at zero (n ∷ ns) = refl
  for-at (suc i) (n ∷ ns) = for-at i ns

  unmarked : (form : Form) (ds : List Departure) → map (λ (d : MarkedDeparture). d.departure) (map (marked_departure_of c.types c.variables form) ds) ≡ ds
  unmarked form [] = refl
  unmarked form (d ∷ ds) = ap (d ∷◌) (unmarked form ds)

  goes-same : (i : ℕ) (form : Form) (ds : List Departure) → goes_on (map (seen_as c.types c.variables) c.nodes) (suc i) (map (marked_departure_of c.types c.variables form) ds) ≡ goes_onward c i ds
  goes-same i form ds = ap₂ (λ xs b. is_one_plain (suc i) xs && not b) (unmarked form ds) (for-at (suc i) c.nodes)

  left-same : (form : Form) (b : Bool) (ds : List Departure) → edges_left b (map (marked_departure_of c.types c.variables form) ds) ≡ map (marked_departure_of c.types c.variables form) (cond b [] ds)
  left-same form true ds = refl
  left-same form false ds = refl

  -- the ways out of a node, as the module has them
  abbrev pub ways_in : (place : ℕ) → Node → (drops : List (List Path)) → SeenWays
  ways_in i n drops = record {
    node = seen_as c.types c.variables n;
    slots = slots_around c i;
    onward = goes_onward c i (edges_of c i n drops);
    departures = map (marked_departure_of c.types c.variables n.form) (cond (goes_onward c i (edges_of c i n drops)) [] (edges_of c i n drops));
  }

  abbrev pub ways_from : (place : ℕ) → List Node → (drops : List (List (List Path))) → List SeenWays
  ways_from i [] drops = []
  ways_from i (n ∷ ns) drops = ways_in i n (first_list drops) ∷ ways_from (suc i) ns (further_lists drops)

  -- which blocks an edge leads to

  pub led-same : (k i : ℕ) (ns : List Node) (facts : List (List Fact)) (drops : List (List (List Path)))
      → any_pass (λ (w : SeenWays). any_pass (λ (d : MarkedDeparture). goes_to_first k d.departure.arrival) w.departures) (ways_from i ns drops)
      ≡ any_pass (λ (b : CodeBlock). any_pass (λ (d : Departure). goes_to_first k d.arrival) b.departures) (blocks_from c i ns facts drops)
  led-same k i [] facts drops = refl
  led-same k i (n ∷ ns) facts drops =
      ap₂ (λ a b. a || b)
      (any-map (λ (d : MarkedDeparture). goes_to_first k d.departure.arrival) (marked_departure_of c.types c.variables n.form) (cond (goes_onward c i (edges_of c i n (first_list drops))) [] (edges_of c i n (first_list drops))))
      (led-same k (suc i) ns (further_lists facts) (further_lists drops))

  -- settled facts

  pub settled-same : (led : ℕ → Bool) (i : ℕ) (handed : List Fact) (ns : List Node) (all facts : List (List Fact)) (drops : List (List (List Path)))
      → LeadOn ns → AreFrom i all facts
      → settled_by led all i handed (ways_from i ns drops) ≡ map (marked_of c.types c.variables) (blocks_from c i ns (settled_from c.types c.variables led i handed ns facts) drops)
  settled-same led i handed [] all facts drops lead from = refl
  settled-same led i handed (n ∷ ns) all facts drops lead from =
      ap (λ label. settled_with (facts_by (led i) n.form label handed)) (from-first i all facts from)
      ∙ ap₂ (λ w ws. w ∷ ws) refl
      (ap₂ (λ k h. settled_by led all k h (ways_from (suc i) ns (further_lists drops))) (let e : i + 1 ≡ suc i = omega arith in e)
      (hands-on c.types c.variables n (facts_by (led i) n.form (first_list facts) handed) lead.0)
      ∙ settled-same led (suc i) (facts_after c.types c.variables n.form ok (facts_by (led i) n.form (first_list facts) handed)) ns all (further_lists facts) (further_lists drops) lead.1 (from-next i all facts from))
    where
      settled_with : List Fact → List MarkedBlock
      settled_with f =
          block_with (ways_in i n (first_list drops)) f
          ∷ settled_by led all (i + 1) (handed_by (map (edge c.types c.variables n.form) (exits c.types c.variables n)) f) (ways_from (suc i) ns (further_lists drops))

module _ (c : Module) (lengths : List ℕ) (same : (k l : ℕ) → is_within lengths k l ≡ any_pass (λ (s : Span). nat_eq s.first l && is_in_loop k s) c.loops) where
  inside-at : (l i : ℕ) (ns : List Node) → map_or false (λ k. is_within lengths k l) (slice_get (map (λ (n : Node). n.number) ns) i) ≡ any_pass (λ (n : Node). any_pass (λ s. nat_eq s.first l && is_in_loop n.number s) c.loops) (list_of (λ n. n ∷ []) (slice_get ns i))
  inside-at l i [] = refl
  inside-at l zero (n ∷ ns) = same n.number l ∙ sym (or-none (any_pass (λ s. nat_eq s.first l && is_in_loop n.number s) c.loops))
  inside-at l (suc i) (n ∷ ns) = inside-at l i ns

  inside-same : (i l : ℕ) → is_inside_by (map (λ (n : Node). n.number) c.nodes) lengths i l ≡ is_inside c i l
  inside-same i l = inside-at l i c.nodes

  number-same : (i : ℕ) → number_by (map (λ (n : Node). n.number) c.nodes) i ≡ number_at c i
  number-same i = number-in i c.nodes

  inside-there : (ms : List Node) (n : Node) (ns : List Node) (i l : ℕ) → c.nodes ≡ ms ++ n ∷ ns → i ≡ length ms → is_inside c i l ≡ is_within lengths n.number l
  inside-there ms n ns i l is at =
      ap (λ (o : Option Node). any_pass (λ (n : Node). any_pass (λ s. nat_eq s.first l && is_in_loop n.number s) c.loops) (list_of (λ n. n ∷ []) o)) (ap₂ slice_get is at ∙ node-at ms n ns)
      ∙ (or-none (any_pass (λ s. nat_eq s.first l && is_in_loop n.number s) c.loops) ∙ sym (same n.number l))

  number-there : (ms : List Node) (n : Node) (ns : List Node) (i : ℕ) → c.nodes ≡ ms ++ n ∷ ns → i ≡ length ms → number_at c i ≡ n.number
  number-there ms n ns i is at = ap (λ (o : Option Node). map_or 0 (λ (n : Node). n.number) o) (ap₂ slice_get is at ∙ node-at ms n ns)

  pub departure-same : (slots : List Slot) (o : Outcome) (t : Target) (drops : List Path) → departure_by (map (λ (n : Node). n.number) c.nodes) lengths slots o t drops ≡ departure c slots o t drops
  departure-same slots o (node i) drops =
      ap₂ (λ left k. a_departure o drops left (cond (any_pass (λ (s : Slot). nat_eq s.number k) slots) (to_second_step i) (to_block i)))
      (ap (map (λ (s : Slot). s.number)) (filters-same _ _ slots (λ s. ap not (inside-same i s.number)))) (number-same i)
  departure-same slots o end drops = refl
  departure-same slots o (end_by e) drops = refl

  departures-same : (form : Form) (slots : List Slot) (xs : List Exit) (drops : List (List Path)) → departures_by (map (λ (n : Node). n.number) c.nodes) lengths slots (map (edge c.types c.variables form) xs) drops ≡ map (marked_departure_of c.types c.variables form) (departures_of c slots xs drops)
  departures-same form slots [] drops = refl
  departures-same form slots (x ∷ xs) drops =
      ap₂ (λ d ds. d ∷ ds) (marked (departure-same slots x.outcome x.target (first_list drops))) (departures-same form slots xs (further_lists drops))
    where
      a_marked : Departure → MarkedDeparture
      a_marked d = record { departure = d; makes = makes c.types c.variables form x.outcome; kills = kills c.types c.variables form x.outcome }

      keeps_outcome : (t : Target) → (departure c slots x.outcome t (first_list drops)).outcome ≡ x.outcome
      keeps_outcome (node i) = refl
      keeps_outcome end = refl
      keeps_outcome (end_by e) = refl

      marked : departure_by (map (λ (n : Node). n.number) c.nodes) lengths slots x.outcome x.target (first_list drops) ≡ departure c slots x.outcome x.target (first_list drops)
          → marked_by (map (λ (n : Node). n.number) c.nodes) lengths slots (edge c.types c.variables form x) (first_list drops) ≡ marked_departure_of c.types c.variables form (departure c slots x.outcome x.target (first_list drops))
      marked e =
          ap a_marked e
          ∙ ap (λ o. a_marked_at o (departure c slots x.outcome x.target (first_list drops))) (sym (keeps_outcome x.target))
        where
          a_marked_at : Outcome → Departure → MarkedDeparture
          a_marked_at o d = record { departure = d; makes = makes c.types c.variables form o; kills = kills c.types c.variables form o }

  way-same : (i : ℕ) (n : Node) (slots : List Slot) (drops : List (List Path)) → slots ≡ slots_around c i
      → ways_at c.types c.variables (map (λ (n : Node). n.number) c.nodes) lengths (map (seen_as c.types c.variables) c.nodes) (suc i) slots (seen_as c.types c.variables n) drops ≡ ways_in c i n drops
  way-same i n slots drops e =
      ap (λ slots. ways_at c.types c.variables (map (λ (n : Node). n.number) c.nodes) lengths (map (seen_as c.types c.variables) c.nodes) (suc i) slots (seen_as c.types c.variables n) drops) e
      ∙ (ap (λ ds. a_ways (seen_as c.types c.variables n) (slots_around c i) (goes_on (map (seen_as c.types c.variables) c.nodes) (suc i) ds) (edges_left (goes_on (map (seen_as c.types c.variables) c.nodes) (suc i) ds) ds))
      (departures-same n.form (slots_within c.types c.variables n.number n.form (slots_around c i)) (exits c.types c.variables n) drops)
      ∙ (ap (λ b. a_ways (seen_as c.types c.variables n) (slots_around c i) b (edges_left b (map (marked_departure_of c.types c.variables n.form) (edges_of c i n drops)))) (goes-same c i n.form (edges_of c i n drops))
      ∙ ap (a_ways (seen_as c.types c.variables n) (slots_around c i) (goes_onward c i (edges_of c i n drops))) (left-same c n.form (goes_onward c i (edges_of c i n drops)) (edges_of c i n drops))))

  pub ways-same : (low i : ℕ) (slots : List Slot) (ms ns : List Node) (all drops : List (List (List Path)))
      → c.nodes ≡ ms ++ ns → i ≡ length ms → AreBelow low ms → RiseFrom low ns → AreOpen c.types c.variables lengths low slots ms → AreFrom i all drops
      → ways_by c.types c.variables (map (λ (n : Node). n.number) c.nodes) lengths (map (seen_as c.types c.variables) c.nodes) i slots (map (seen_as c.types c.variables) ns) all ≡ ways_from c i ns drops
  ways-same low i slots ms [] all drops is at below rise open_ from = refl
  ways-same low i slots ms (n ∷ ns) all drops is at below rise open_ from =
      ap₂ (λ w ws. w ∷ ws)
      (ap₂ (λ k ds. ways_at c.types c.variables (map (λ (n : Node). n.number) c.nodes) lengths (map (seen_as c.types c.variables) c.nodes) k (open_at lengths n.number slots) (seen_as c.types c.variables n) ds) (let e : i + 1 ≡ suc i = omega arith in e) (from-first i all drops from)
      ∙ way-same i n (open_at lengths n.number slots) (first_list drops)
      (slots-around-are c.types c.variables lengths c i n.number refl refl (λ l. inside-there ms n ns i l is at) (number-there ms n ns i is at) low slots ms (n ∷ ns) is below (omega arith, rise.1) rise.0 open_))
      (ap (λ k. ways_by c.types c.variables (map (λ (n : Node). n.number) c.nodes) lengths (map (seen_as c.types c.variables) c.nodes) k (slots_within c.types c.variables n.number n.form (open_at lengths n.number slots)) (map (seen_as c.types c.variables) ns) all) (let e : i + 1 ≡ suc i = omega arith in e)
      ∙ ways-same (suc n.number) (suc i) (slots_within c.types c.variables n.number n.form (open_at lengths n.number slots)) (ms ++ n ∷ []) ns all (further_lists drops)
      (is ∙ sym (append_assoc ms (n ∷ []) ns)) (ap suc at ∙ sym (longer ms n)) (below-joined (suc n.number) ms n (below-more low (suc n.number) ms (let r = rise.0 in omega (arith, r)) below) (omega arith)) rise.1
      (open-next c.types c.variables lengths low slots ms n below rise.0 open_) (from-next i all drops from))
    where
      longer : (ms : List Node) (n : Node) → length (ms ++ n ∷ []) ≡ suc (length ms)
      longer [] n = refl
      longer (m ∷ ms) n = ap suc (longer ms n)

-- settled facts depend on the marks of these blocks alone
pub settled-marks : (led marks : ℕ → Bool) (labels : List (List Fact)) (i : ℕ) (handed : List Fact) (ways : List SeenWays) → ((k : ℕ) → k < i + length ways → led k ≡ marks k) → settled_by led labels i handed ways ≡ settled_by marks labels i handed ways
settled-marks led marks labels i handed [] h = refl
settled-marks led marks labels i handed (w ∷ ways) h =
    ap with_mark (h i (omega arith))
    ∙ ap (block_with w (facts_by (marks i) w.node.form (list_at labels i) handed) ∷◌)
    (settled-marks led marks labels (i + 1) (handed_by w.node.edges (facts_by (marks i) w.node.form (list_at labels i) handed)) ways (λ k within. h k (omega (arith, within))))
  where
    with_mark : Bool → List MarkedBlock
    with_mark b = block_with w (facts_by b w.node.form (list_at labels i) handed) ∷ settled_by led labels (i + 1) (handed_by w.node.edges (facts_by b w.node.form (list_at labels i) handed)) ways

-- what is marked and settled in turn are the blocks
pub blocks-joined : (types : TypeTable) (variables numbers lengths : List ℕ) (entry : Departure) (nodes : List SeenNode) (labels : List (List Fact)) (drops : List (List (List Path))) (ways : List SeenWays) (led : ℕ → Bool) (bs : List MarkedBlock) (many : ℕ)
    → ways ≡ ways_by types variables numbers lengths nodes 0 [] nodes drops → length ways ≡ many → ((i : ℕ) → i < many → led i ≡ led_by entry ways i) → bs ≡ settled_by led labels 0 [] ways
    → bs ≡ blocks_by types variables numbers lengths entry nodes labels drops
blocks-joined types variables numbers lengths entry nodes labels drops ways led bs many e f h g =
    g ∙ (settled-marks led (led_by entry ways) labels 0 [] ways (λ k within. h k (omega (arith, within, f))) ∙ ap (λ ws. settled_by (led_by entry ws) labels 0 [] ws) e)
