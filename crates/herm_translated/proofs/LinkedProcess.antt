-- The blocks of a typed process are linked.
use Rattle.std.proofs.Common.{◌≡◌, ℕ, zero, suc, ◌+◌, ◌<◌, ◌≤◌, length, List, [], ◌∷◌, map, Bool, true, false, cond, nat_eq, Option, Some, None, slice_get, ◌⊎◌, inl, inr, refl, sym, ap, subst, ◌∙◌, arith, true≢false}
use Rattle.std.proofs.lemmas.Bool.{eqb-true}
use Rattle.herm_model.specs.Lists.{IsIn, any_pass, map_or, list_of, range}
use Rattle.herm_model.specs.Paths.{Path, Fact}
use Rattle.herm_model.specs.Types.{TypeTable, cases}
use Rattle.herm_model.specs.Facts.{component_count}
use Rattle.herm_model.specs.Statements.{Form, Process, Differ}
use Rattle.herm_model.specs.Calls.{shape_at}
use Rattle.herm_model.specs.Outcomes.{Outcome, outcomes}
use Rattle.herm_model.specs.Outcomes
use Rattle.herm_model.specs.Labels.{Labels}
use Rattle.herm_model.specs.Targets.{Target, node, end, end_by}
use Rattle.herm_model.specs.Nodes.{Node, process_nodes, entry_of}
use Rattle.herm_model.specs.Exits.{Exit, exits}
use Rattle.herm_model.specs.ControlPaths.{Edge, edge, point, flow_of}
use Rattle.herm_model.specs.TypedStatements.{IsTypedForm}
use Rattle.herm_model.specs.TypedPrograms.{IsTypedProcess}
use Rattle.herm_model.specs.laws.FlowLaws.{Rise, IsThere}
use Rattle.herm_model.proofs.Options.{some-injective, none-not_some}
use Rattle.herm_model.proofs.Lists.{length-map, in-append_cases, in-map, in-map_from, and-both}
use Rattle.herm_model.proofs.FactTests.{got-IsIn}
use Rattle.herm_model.proofs.Deciding.{below-in}
use Rattle.herm_model.proofs.TypedCalls.{shape-is}
use Rattle.herm_model.proofs.NodeNumbers.{process_numbers-Rise}
use Rattle.herm_model.proofs.NodeExits.{exits-outcomes}
use Rattle.herm_model.proofs.NodePlaces.{entry-there, edges-there}
use Rattle.herm_model.proofs.DifferentOutcomes.{process-EdgesDiffer}
use Rattle.herm_forms.specs.Modules.{Module, module_of}
use Rattle.herm_instructions.specs.Labels.{Slot}
use Rattle.herm_instructions.specs.Effects.{row_type}
use Rattle.herm_translated.specs.Departures.{Arrival, to_block, to_second_step, Departure}
use Rattle.herm_translated.specs.CodeBlocks.{CheckedModule, CodeBlock, own_slot, slots_within, first_list, further_lists, number_at, is_around, slots_among, slots_around, arrival_at, departure, departures_of, edges_of, goes_onward, block_of, blocks_from, blocks_of, entry_edge}
use Rattle.herm_translated.specs.laws.NamedComponents.{NamesAll}
use Rattle.herm_translated.specs.laws.CheckedBlocks.{checked, HasLinkedBlocks, TypedProcessesAreLinked, TypedProcessesAreStructured}
use Rattle.herm_translated.proofs.StructureKept.{linked-structured}
use Rattle.herm_translated.proofs.Addresses.{outcome_of}
use Rattle.herm_translated.proofs.EdgesLabelled.{got-some}
use Rattle.herm_translated.proofs.NamedIndices.{any-from}
use Rattle.herm_translated.proofs.PlainEdges.{one-plain}

pub in-below : (k n i : ℕ) → IsIn i (range k n) → (k ≤ i) × (i < k + n)
in-below k zero i h = absurd h
in-below k (suc n) i (inl e) = (omega (arith, e), omega (arith, e))
in-below k (suc n) i (inr h) = let r = in-below (suc k) n i h in let a = r.0 in let b = r.1 in (omega (arith, a), omega (arith, b))

-- of numbers that rise, equal ones stand at one place
rise-one : {X : Type 0} (f : X → ℕ) (xs : List X) → Rise (map f xs) → (a b : X) → IsIn a xs → IsIn b xs → f a ≡ f b → a ≡ b
rise-one f [] r a b i j e = absurd i
rise-one f (x ∷ xs) r a b (inl p) (inl q) e = p ∙ sym q
rise-one f (x ∷ xs) r a b (inl p) (inr j) e = let low = r.0 (f b) (in-map f b xs j) in let same : f x ≡ f b = ap f (sym p) ∙ e in absurd (omega (arith, low, same))
rise-one f (x ∷ xs) r a b (inr i) (inl q) e = let low = r.0 (f a) (in-map f a xs i) in let same : f a ≡ f x = e ∙ ap f q in absurd (omega (arith, low, same))
rise-one f (x ∷ xs) r a b (inr i) (inr j) e = rise-one f xs r.1 a b i j e

-- what an arrival is
abbrev block_in : Arrival → Option ℕ
block_in (to_block n) = Some n
block_in a = None

abbrev second_in : Arrival → Option ℕ
second_in (to_second_step n) = Some n
second_in a = None

module _ (c : Module) where
  pub arrives-block : (slots : List Slot) (t : Target) (n : ℕ) → arrival_at c slots t ≡ to_block n → t ≡ node n
  arrives-block slots (node i) n e = by (any_pass (λ (s : Slot). nat_eq s.number (number_at c i)) slots) e
    where
      by : (b : Bool) → cond b (to_second_step i) (to_block i) ≡ to_block n → node i ≡ node n
      by true e = none-not_some (ap block_in e)
      by false e = ap node (some-injective (ap block_in e))
  arrives-block slots end n e = none-not_some (ap block_in e)
  arrives-block slots (end_by x) n e = none-not_some (ap block_in e)

  arrives-second : (slots : List Slot) (t : Target) (n : ℕ) → arrival_at c slots t ≡ to_second_step n → (t ≡ node n) × (any_pass (λ (s : Slot). nat_eq s.number (number_at c n)) slots ≡ true)
  arrives-second slots (node i) n e = by (any_pass (λ (s : Slot). nat_eq s.number (number_at c i)) slots) refl e
    where
      by : (b : Bool) → any_pass (λ (s : Slot). nat_eq s.number (number_at c i)) slots ≡ b → cond b (to_second_step i) (to_block i) ≡ to_second_step n → (node i ≡ node n) × (any_pass (λ (s : Slot). nat_eq s.number (number_at c n)) slots ≡ true)
      by true q e = let same : i ≡ n = some-injective (ap second_in e) in (ap node same, ap (λ j. any_pass (λ (s : Slot). nat_eq s.number (number_at c j)) slots) (sym same) ∙ q)
      by false q e = none-not_some (ap second_in e)
  arrives-second slots end n e = none-not_some (ap second_in e)
  arrives-second slots (end_by x) n e = none-not_some (ap second_in e)

  pub departure-arrives : (slots : List Slot) (o : Outcome) (t : Target) (drops : List Path) → (departure c slots o t drops).arrival ≡ arrival_at c slots t
  departure-arrives slots o (node i) drops = refl
  departure-arrives slots o end drops = refl
  departure-arrives slots o (end_by e) drops = refl

  pub departure-outcome : (slots : List Slot) (o : Outcome) (t : Target) (drops : List Path) → (departure c slots o t drops).outcome ≡ o
  departure-outcome slots o (node i) drops = refl
  departure-outcome slots o end drops = refl
  departure-outcome slots o (end_by e) drops = refl

  -- the departures of exits
  departures-outcomes : (slots : List Slot) (xs : List Exit) (drops : List (List Path)) → map outcome_of (departures_of c slots xs drops) ≡ map (λ (x : Exit). x.outcome) xs
  departures-outcomes slots [] drops = refl
  departures-outcomes slots (x ∷ xs) drops = ap (λ o. o ∷ map outcome_of (departures_of c slots xs (further_lists drops))) (departure-outcome slots x.outcome x.target (first_list drops)) ∙ ap (x.outcome ∷◌) (departures-outcomes slots xs (further_lists drops))

  departure-exit : (slots : List Slot) (xs : List Exit) (drops : List (List Path)) (d : Departure) → IsIn d (departures_of c slots xs drops) → (x : Exit) × IsIn x xs × (d.arrival ≡ arrival_at c slots x.target)
  departure-exit slots [] drops d h = absurd h
  departure-exit slots (x ∷ xs) drops d (inl e) = (x, inl refl, ap (λ (d : Departure). d.arrival) e ∙ departure-arrives slots x.outcome x.target (first_list drops))
  departure-exit slots (x ∷ xs) drops d (inr h) = let r = departure-exit slots xs (further_lists drops) d h in (r.0, inr r.1, r.2)

  -- the blocks of nodes
  block-node : (k : ℕ) (ns : List Node) (facts : List (List Fact)) (drops : List (List (List Path))) (b : CodeBlock) → IsIn b (blocks_from c k ns facts drops) → (n : Node) × (i : ℕ) × (fs : List Fact) × (ds : List (List Path)) × IsIn n ns × (b ≡ block_of c i n fs ds)
  block-node k [] facts drops b h = absurd h
  block-node k (n ∷ ns) facts drops b (inl e) = (n, k, first_list facts, first_list drops, inl refl, e)
  block-node k (n ∷ ns) facts drops b (inr h) = let r = block-node (suc k) ns (further_lists facts) (further_lists drops) b h in (r.0, r.1, r.2, r.3, inr r.4, r.5)

  pub node-block : (k : ℕ) (ns : List Node) (facts : List (List Fact)) (drops : List (List (List Path))) (i : ℕ) (n : Node) → slice_get ns i ≡ Some n → (b : CodeBlock) × (slice_get (blocks_from c k ns facts drops) i ≡ Some b) × (b.form ≡ n.form)
  node-block k [] facts drops i n e = none-not_some e
  node-block k (m ∷ ns) facts drops zero n e = (_, refl, ap (λ (n : Node). n.form) (some-injective e))
  node-block k (m ∷ ns) facts drops (suc i) n e = node-block (suc k) ns (further_lists facts) (further_lists drops) i n e

  -- a slot is that of a `for`
  own-loop : (number : ℕ) (form : Form) (s : Slot) → IsIn s (own_slot c.types c.variables number form) → (r t : Path) × (form ≡ Form.For r t) × (s.number ≡ number)
  own-loop number (Form.For r t) s h = let m = in-map_from (λ row. record { number = number; row = row }) s (list_of row_type (shape_at c.types c.variables t)) h in (r, t, refl, ap (λ (s : Slot). s.number) m.2)
  own-loop number form s h = absurd h

  slot-loop : (ls : List Node) (i : ℕ) (s : Slot) → IsIn s (slots_among c ls i) → (l : Node) × IsIn l ls × IsIn s (own_slot c.types c.variables l.number l.form)
  slot-loop [] i s h = absurd h
  slot-loop (l ∷ ls) i s h = by (in-append_cases s (slots_among c ls i) _ h) (slot-loop ls i s)
    where
      chosen : (b : Bool) → IsIn s (cond b (own_slot c.types c.variables l.number l.form) []) → IsIn s (own_slot c.types c.variables l.number l.form)
      chosen true k = k
      chosen false k = absurd k

      by : IsIn s (slots_among c ls i) ⊎ IsIn s (cond (is_around c l i) (own_slot c.types c.variables l.number l.form) []) → (IsIn s (slots_among c ls i) → (l : Node) × IsIn l ls × IsIn s (own_slot c.types c.variables l.number l.form))
          → (k : Node) × IsIn k (l ∷ ls) × IsIn s (own_slot c.types c.variables k.number k.form)
      by (inl a) again = let r = again a in (r.0, inr r.1, r.2)
      by (inr k) again = (l, inl refl, chosen (is_around c l i) k)

module _ (count : ℕ) (table : TypeTable) (processes : List Process) (p : Process) (labels : Labels) (facts : List (List Fact)) (entry_drops : List Path) (drops : List (List (List Path))) (typed : IsTypedProcess count table processes p) where
  abbrev c : Module
  c = module_of table p labels

  abbrev m : CheckedModule
  m = checked table p labels facts entry_drops drops

  nodes-many : length (flow_of table p).points ≡ length (process_nodes p)
  nodes-many = length-map (point table p.variables) (process_nodes p)

  there-block : (n : ℕ) → IsThere (length (flow_of table p).points) (node n) → (b : CodeBlock) × (slice_get (blocks_of m) n ≡ Some b)
  there-block n h =
      let low : n < length (process_nodes p) = (let many = nodes-many in omega (arith, h, many)) in
      let x = got-some (process_nodes p) n low in
      let b = node-block c 0 (process_nodes p) facts drops n x.0 x.1 in
      (b.0, b.1)

  -- an exit leads to a place that is there
  exit-there : (n : Node) → IsIn n (process_nodes p) → (x : Exit) → IsIn x (exits table p.variables n) → IsThere (length (flow_of table p).points) x.target
  exit-there n i x h =
      edges-there table p (point table p.variables n) (edge table p.variables n.form x) (in-map (point table p.variables) n (process_nodes p) i) (in-map (edge table p.variables n.form) x (exits table p.variables n) h)

  block-is : (b : CodeBlock) → IsIn b (blocks_of m) → (n : Node) × (i : ℕ) × (fs : List Fact) × (ds : List (List Path)) × IsIn n (process_nodes p) × (b ≡ block_of c i n fs ds)
  block-is b h = block-node c 0 (process_nodes p) facts drops b h

  -- the node of a place, by its number
  number-of : (n : ℕ) (x : Node) → slice_get (process_nodes p) n ≡ Some x → number_at c n ≡ x.number
  number-of n x e = ap (map_or 0 (λ (n : Node). n.number)) e

  pub second-loop : (n : Node) (i k : ℕ) → IsIn n (process_nodes p) → IsThere (length (flow_of table p).points) (node k) → any_pass (λ (s : Slot). nat_eq s.number (number_at c k)) (slots_within table p.variables n.number n.form (slots_around c i)) ≡ true
      → (b : CodeBlock) × (r t : Path) × (slice_get (blocks_of m) k ≡ Some b) × (b.form ≡ Form.For r t)
  second-loop n i k in-n there any =
      let low : k < length (process_nodes p) = (let many = nodes-many in omega (arith, there, many)) in
      let x = got-some (process_nodes p) k low in
      let s = any-from (λ (s : Slot). nat_eq s.number (number_at c k)) (slots_within table p.variables n.number n.form (slots_around c i)) any in
      let l = from-loop (in-append_cases s.0 (own_slot table p.variables n.number n.form) (slots_around c i) s.1) in
      let own = own-loop c l.0.number l.0.form s.0 l.2 in
      let same : l.0 ≡ x.0 = rise-one (λ (n : Node). n.number) (process_nodes p) (process_numbers-Rise p) l.0 x.0 l.1 (got-IsIn (process_nodes p) k x.0 x.1) (sym own.3 ∙ eqb-true s.0.number (number_at c k) s.2 ∙ number-of k x.0 x.1) in
      let b = node-block c 0 (process_nodes p) facts drops k x.0 x.1 in
      (b.0, own.0, own.1, b.1, b.2 ∙ ap (λ (n : Node). n.form) (sym same) ∙ own.2)
    where
      from-loop : {s : Slot} → IsIn s (own_slot table p.variables n.number n.form) ⊎ IsIn s (slots_around c i) → (l : Node) × IsIn l (process_nodes p) × IsIn s (own_slot table p.variables l.number l.form)
      from-loop (inl a) = (n, in-n, a)
      from-loop {s} (inr b) = slot-loop c (process_nodes p) i s b

  names-all : (form : Form) → IsTypedForm table p.variables count processes form → NamesAll table p.variables form
  names-all (Form.Case v cs) h = λ a.
      (let shape = shape-is table p.variables v h.0 (cases h.1) (h.2).0 h.3 in
      let many : map_or 0 component_count (shape_at table p.variables v) ≡ length h.1 = ap (map_or 0 component_count) shape in (
        λ i. ((h.5 a).1 (let r = in-below 0 (map_or 0 component_count (shape_at table p.variables v)) a i in let low = r.1 in omega (arith, low, many))),
        λ i. below-in 0 (map_or 0 component_count (shape_at table p.variables v)) a (omega arith) (let low = (h.5 a).0 i in omega (arith, low, many)),
      ))
  names-all form h = tt

  abbrev AtNode : CodeBlock → Type 0
  AtNode b = (n : Node) × (i : ℕ) × (fs : List Fact) × (ds : List (List Path)) × IsIn n (process_nodes p) × (b ≡ block_of c i n fs ds)

  abbrev goes : (b : CodeBlock) → AtNode b → Bool
  goes b r = goes_onward c r.1 (edges_of c r.1 r.0 r.3)

  all-outcomes : (i : ℕ) (n : Node) (ds : List (List Path)) → IsIn n (process_nodes p) → map outcome_of (edges_of c i n ds) ≡ outcomes table p.variables n.form
  all-outcomes i n ds m = departures-outcomes c (slots_within table p.variables n.number n.form (slots_around c i)) (exits table p.variables n) ds ∙ exits-outcomes table p n typed.blocks m

  onward-is : (b : CodeBlock) (r : AtNode b) (t : Bool) → b.onward ≡ t → goes b r ≡ t
  onward-is b r t e = ap (λ (b : CodeBlock). b.onward) (sym r.5) ∙ e

  departures-are : (b : CodeBlock) (r : AtNode b) (t : Bool) → goes b r ≡ t → b.departures ≡ cond t [] (edges_of c r.1 r.0 r.3)
  departures-are b r t e = ap (λ (b : CodeBlock). b.departures) r.5 ∙ ap (λ t. cond t [] (edges_of c r.1 r.0 r.3)) e

  outcomes-of : (b : CodeBlock) → IsIn b (blocks_of m) → b.onward ≡ false → map outcome_of b.departures ≡ outcomes table p.variables b.form
  outcomes-of b h off =
      let r = block-is b h in
      ap (map outcome_of) (departures-are b r false (onward-is b r false off)) ∙ all-outcomes r.1 r.0 r.3 r.4 ∙ ap (λ (b : CodeBlock). outcomes table p.variables b.form) (sym r.5)

  goes-on : (b : CodeBlock) → IsIn b (blocks_of m) → b.onward ≡ true → (b.departures ≡ []) × (outcomes table p.variables b.form ≡ Outcomes.ok ∷ [])
  goes-on b h on =
      let r = block-is b h in
      let q = onward-is b r true on in
      let one = one-plain (suc r.1) (edges_of c r.1 r.0 r.3) (and-both _ _ q).0 in
      (departures-are b r true q, ap (λ (b : CodeBlock). outcomes table p.variables b.form) r.5 ∙ sym (all-outcomes r.1 r.0 r.3 r.4) ∙ ap (map outcome_of) one.only ∙ ap (λ o. o ∷ []) one.outcome)

  edges-same : (form : Form) (xs : List Exit) → map (λ (e : Edge). e.outcome) (map (edge table p.variables form) xs) ≡ map (λ (x : Exit). x.outcome) xs
  edges-same form [] = refl
  edges-same form (x ∷ xs) = ap (x.outcome ∷◌) (edges-same form xs)

  outcomes-apart : (b : CodeBlock) → IsIn b (blocks_of m) → Differ (map outcome_of b.departures)
  outcomes-apart b h = by (goes b r) (departures-are b r (goes b r) refl)
    where
      r : AtNode b
      r = block-is b h

      all : Differ (map outcome_of (edges_of c r.1 r.0 r.3))
      all =
          let same : map outcome_of (edges_of c r.1 r.0 r.3) ≡ map (λ (e : Edge). e.outcome) (point table p.variables r.0).edges
          = departures-outcomes c (slots_within table p.variables r.0.number r.0.form (slots_around c r.1)) (exits table p.variables r.0) r.3 ∙ sym (edges-same r.0.form (exits table p.variables r.0)) in
          subst Differ (sym same) (process-EdgesDiffer table p typed.blocks (point table p.variables r.0) (in-map (point table p.variables) r.0 (process_nodes p) r.4))

      by : (t : Bool) → b.departures ≡ cond t [] (edges_of c r.1 r.0 r.3) → Differ (map outcome_of b.departures)
      by true e = subst (λ ds. Differ (map outcome_of ds)) (sym e) tt
      by false e = subst (λ ds. Differ (map outcome_of ds)) (sym e) all

  -- an edge of a block is one of its node's edges
  chosen : (t : Bool) (ds : List Departure) (d : Departure) → IsIn d (cond t [] ds) → IsIn d ds
  chosen true ds d h = absurd h
  chosen false ds d h = h

  leads-of : (b : CodeBlock) (d : Departure) → (r : AtNode b) → IsIn d b.departures → (x : Exit) × IsIn x (exits table p.variables r.0) × (d.arrival ≡ arrival_at c (slots_within table p.variables r.0.number r.0.form (slots_around c r.1)) x.target)
  leads-of b d r h =
      departure-exit c (slots_within table p.variables r.0.number r.0.form (slots_around c r.1)) (exits table p.variables r.0) r.3 d
      (chosen (goes b r) (edges_of c r.1 r.0 r.3) d (subst (λ (b : CodeBlock). IsIn d b.departures) r.5 h))

  -- the block at a place
  pub block-place : (k : ℕ) (ns : List Node) (facts : List (List Fact)) (drops : List (List (List Path))) (i : ℕ) (b : CodeBlock) → slice_get (blocks_from c k ns facts drops) i ≡ Some b
      → (n : Node) × (fs : List Fact) × (ds : List (List Path)) × (slice_get ns i ≡ Some n) × (b ≡ block_of c (k + i) n fs ds)
  block-place k [] facts drops i b e = none-not_some e
  block-place k (n ∷ ns) facts drops zero b e = (n, first_list facts, first_list drops, refl, sym (some-injective e) ∙ ap (λ j. block_of c j n (first_list facts) (first_list drops)) (omega arith))
  block-place k (n ∷ ns) facts drops (suc i) b e =
      let r = block-place (suc k) ns (further_lists facts) (further_lists drops) i b e in
      (r.0, r.1, r.2, r.3, r.4 ∙ ap (λ j. block_of c j r.0 r.1 r.2) (omega arith))

  next-there : (i : ℕ) (b : CodeBlock) → slice_get (blocks_of m) i ≡ Some b → b.onward ≡ true → (b : CodeBlock) × (slice_get (blocks_of m) (suc i) ≡ Some b)
  next-there i b at on =
      let r = block-place 0 (process_nodes p) facts drops i b at in
      let q : goes_onward c i (edges_of c i r.0 r.2) ≡ true = ap (λ j. goes_onward c j (edges_of c j r.0 r.2)) (omega arith) ∙ ap (λ (b : CodeBlock). b.onward) (sym r.4) ∙ on in
      let one = one-plain (suc i) (edges_of c i r.0 r.2) (and-both _ _ q).0 in
      let x = departure-exit c (slots_within table p.variables r.0.number r.0.form (slots_around c i)) (exits table p.variables r.0) r.2 one.edge (subst (IsIn one.edge) (sym one.only) (inl refl)) in
      let t = arrives-block c (slots_within table p.variables r.0.number r.0.form (slots_around c i)) x.0.target (suc i) (sym x.2 ∙ one.arrival) in
      there-block (suc i) (subst (IsThere (length (flow_of table p).points)) t (exit-there r.0 (got-IsIn (process_nodes p) i r.0 r.3) x.0 x.1))

  entry-place : (n : ℕ) → (entry_edge m).arrival ≡ to_block n → (b : CodeBlock) × (slice_get (blocks_of m) n ≡ Some b)
  entry-place n e =
      let t = arrives-block c [] (entry_of p) n (sym (departure-arrives c [] Outcomes.ok (entry_of p) entry_drops) ∙ e) in
      there-block n (subst (IsThere (length (flow_of table p).points)) t (entry-there table p))

  pub linked-blocks : HasLinkedBlocks table p m
  linked-blocks = record {
    linked = record {
      begins = entry-place;
      begins_first = λ n e. true≢false (sym (arrives-second c [] (entry_of p) n (sym (departure-arrives c [] Outcomes.ok (entry_of p) entry_drops) ∙ e)).1);
      there = λ b d n in-b in-d e.
          (let r = block-is b in-b in
          let x = leads-of b d r in-d in
          let t = arrives-block c (slots_within table p.variables r.0.number r.0.form (slots_around c r.1)) x.0.target n (sym x.2 ∙ e) in
          there-block n (subst (IsThere (length (flow_of table p).points)) t (exit-there r.0 r.4 x.0 x.1)));
      again = λ b d n in-b in-d e.
          (let r = block-is b in-b in
          let x = leads-of b d r in-d in
          let t = arrives-second c (slots_within table p.variables r.0.number r.0.form (slots_around c r.1)) x.0.target n (sym x.2 ∙ e) in
          second-loop r.0 r.1 n r.4 (subst (IsThere (length (flow_of table p).points)) t.0 (exit-there r.0 r.4 x.0 x.1)) t.1);
      onward = next-there;
      names = λ b in-b. (let r = block-is b in-b in subst (λ (b : CodeBlock). NamesAll table p.variables b.form) (sym r.5) (names-all r.0.form (typed.typed r.0 r.4)));
    };
    outcomes_in_order = outcomes-of;
    goes_on = goes-on;
    outcomes_differ = outcomes-apart;
  }

pub typed-linked : TypedProcessesAreLinked
typed-linked count table processes p labels facts entry_drops drops typed = linked-blocks count table processes p labels facts entry_drops drops typed

pub typed-structured : TypedProcessesAreStructured
typed-structured count table processes p labels facts entry_drops drops modules constants typed =
    linked-structured count (record { modules = modules; constants = constants; types = table }) p.variables (entry_edge (checked table p labels facts entry_drops drops)) (blocks_of (checked table p labels facts entry_drops drops)) (linked-blocks count table processes p labels facts entry_drops drops typed).linked
