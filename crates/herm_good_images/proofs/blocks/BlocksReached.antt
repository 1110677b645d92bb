-- Each block of a typed process is led to by an edge to its first step.
use Rattle.std.proofs.Common.{◌≡◌, ℕ, zero, suc, ◌+◌, ◌<◌, ◌≤◌, length, List, [], ◌∷◌, map, Bool, true, false, cond, not, ◌||◌, nat_eq, IsTrue, Some, slice_get, inl, inr, ◌⊎◌, refl, sym, ap, subst, ◌∙◌, true≢false, arith}
use Rattle.herm_model.specs.Lists.{IsIn, any_pass, map_or}
use Rattle.herm_model.specs.Paths.{Path, Fact}
use Rattle.herm_model.specs.Types.{TypeTable}
use Rattle.herm_model.specs.Statements.{Process}
use Rattle.herm_model.specs.Nodes.{Node, process_nodes, entry_of}
use Rattle.herm_model.specs.Exits.{Exit, exits}
use Rattle.herm_model.specs.Outcomes.{ok}
use Rattle.herm_model.specs.Targets.{Target, node}
use Rattle.herm_model.specs.Labels.{Labels}
use Rattle.herm_model.specs.ControlPaths.{Edge, Point, edge, point, flow_of}
use Rattle.herm_model.specs.TypedPrograms.{IsTypedProcess}
use Rattle.herm_model.specs.laws.FlowLaws.{Rise, IsLedTo, begins, goes_on, first_of}
use Rattle.herm_model.proofs.Options.{some-injective, none-not_some, map-some}
use Rattle.herm_model.proofs.Lists.{length-map, slice_get-map, in-map, in-map_from, and-both, or-either}
use Rattle.herm_model.proofs.FactTests.{got-IsIn}
use Rattle.herm_model.proofs.FirstNode.{begins-first}
use Rattle.herm_model.proofs.Reached.{reached-IsLedTo}
use Rattle.herm_model.proofs.NodeNumbers.{process_numbers-Rise}
use Rattle.herm_forms.specs.Modules.{Module, module_of}
use Rattle.herm_forms.specs.LeavingLoops.{is_inside}
use Rattle.herm_instructions.specs.Labels.{Slot}
use Rattle.herm_instructions.specs.Images.{Image}
use Rattle.herm_translated.specs.Departures.{Arrival, to_block, to_second_step, Departure}
use Rattle.herm_translated.specs.CodeBlocks.{CheckedModule, CodeBlock, is_for, is_one_plain, slots_within, first_list, further_lists, number_at, slots_around, arrival_at, slots_left, departure, edges_of, goes_onward, block_of, blocks_from, blocks_of, entry_edge}
use Rattle.herm_translated.specs.BlockLabels.{facts_after, goes_to_first, comes_first}
use Rattle.herm_translated.specs.Settled.{settled_from, settled}
use Rattle.herm_translated.specs.laws.LabelsAlong.{without_slots}
use Rattle.herm_translated.specs.laws.LabelsAtEdges.{IsHandedOn}
use Rattle.herm_translated.specs.laws.CheckedBlocks.{checked, HasLinkedBlocks}
use Rattle.herm_translated.specs.laws.GoodStructure.{AreComplete}
use Rattle.herm_translated.proofs.Joined.{got-within}
use Rattle.herm_translated.proofs.StructureKept.{led-entry, led-edge}
use Rattle.herm_translated.proofs.PlainEdges.{IsOnePlain, one-plain}
use Rattle.herm_translated.proofs.LinkedProcess.{linked-blocks}
use Rattle.herm_translated.proofs.SettledFacts.{settled-next}
use Rattle.herm_good_images.proofs.blocks.BlockOfNode.{in-got, list_in, one-place, node-block, block-node, exit-departure, arrives-first}
use Rattle.herm_good_images.proofs.loops.EnteredSlots.{from-inside, to-first, outside-first, inside-low}

module _ (count : ℕ) (table : TypeTable) (processes : List Process) (p : Process) (labels : Labels) (facts : List (List Fact)) (entry_drops : List Path) (drops : List (List (List Path))) (typed : IsTypedProcess count table processes p) where
  abbrev c : Module
  c = module_of table p labels

  abbrev ns : List Node
  ns = process_nodes p

  abbrev m : CheckedModule
  m = checked table p labels facts entry_drops drops

  -- a process with nodes begins at the first one
  pub entry-first : (n : Node) (i : ℕ) → slice_get ns i ≡ Some n → entry_of p ≡ node 0
  entry-first n i e = begins-first table p (λ j low. typed.reached j (let many = length-map (point table p.variables) ns in omega (arith, low, many))) ∙ by (length (flow_of table p).points) refl
    where
      some : (xs : List Node) → slice_get xs i ≡ Some n → 0 < length xs
      some [] e = none-not_some e
      some (x ∷ xs) e = omega arith

      by : (size : ℕ) → length (flow_of table p).points ≡ size → first_of size ≡ node 0
      by zero q = let a = some ns e in let many = length-map (point table p.variables) ns in absurd (omega (arith, a, many, q))
      by (suc size) q = refl

  abbrev image : Image
  image = record { modules = []; constants = []; types = table }

  abbrev first_led : ℕ → Bool
  first_led k = comes_first (entry_edge m) (blocks_of m) k

  -- the node before it leads there by its only exit, and its block goes on
  record IsFollowing (k : ℕ) : Type 0 where
    before : ℕ
    node_before : Node
    place : ℕ
    exit : Exit
    next : k ≡ suc before
    there : slice_get ns before ≡ Some node_before
    exit_there : slice_get (exits table p.variables node_before) place ≡ Some exit
    leads : exit.target ≡ node k
    onward : goes_onward c before (edges_of c before node_before (list_in drops before)) ≡ true

  abbrev IsFirstLed : ℕ → Type 0
  IsFirstLed k = (first_led k ≡ true) ⊎ IsFollowing k

  module _ (k : ℕ) (y : Node) (at-k : slice_get ns k ≡ Some y) where
    abbrev IsWithinLoop : Target → Type 0
    IsWithinLoop t = (k' : ℕ) (y' : Node) → t ≡ node k' → slice_get ns k' ≡ Some y' → (k' ≡ k) ⊎ (is_inside c k' y.number ≡ true) → IsFirstLed k

    entry-at : (t : Target) → t ≡ node k → (departure c [] ok t entry_drops).arrival ≡ to_block k
    entry-at t e = ap (λ t. (departure c [] ok t entry_drops).arrival) e

    begun : IsWithinLoop (flow_of table p).entry
    begun k' y' e at h = inl (led-entry count image p.variables (entry_edge m) (blocks_of m) k (entry-at (entry_of p) (e ∙ ap node (at-first (node-is (sym e ∙ entry-first y' k' at)) h))))
      where
        place : Target → ℕ
        place (node i) = i
        place t = 0

        node-is : {i j : ℕ} → node i ≡ node j → i ≡ j
        node-is e = ap place e

        at-first : k' ≡ 0 → (k' ≡ k) ⊎ (is_inside c k' y.number ≡ true) → k' ≡ k
        at-first zero-is (inl s) = s
        at-first zero-is (inr inside) =
            let low = inside-low count table processes p labels typed k' y' y.number at inside in
            by ns (process_numbers-Rise p) k' k zero-is at at-k low
          where
            by : (xs : List Node) → Rise (map (λ (n : Node). n.number) xs) → (i j : ℕ) → i ≡ 0 → slice_get xs i ≡ Some y' → slice_get xs j ≡ Some y → y.number ≤ y'.number → i ≡ j
            by [] r i j z a b low = none-not_some a
            by (x ∷ xs) r zero zero z a b low = refl
            by (x ∷ xs) r (suc i) j z a b low = absurd (omega (arith, z))
            by (x ∷ xs) r zero (suc j) z a b low =
                let less = r.0 y.number (in-map (λ (n : Node). n.number) y xs (got-IsIn xs j y b)) in
                let same : x.number ≡ y'.number = ap (λ (n : Node). n.number) (some-injective a) in
                absurd (omega (arith, less, same, low))

    -- the edge of an exit that comes from outside the loop
    by-exit : (i j : ℕ) (n : Node) (x : Exit) → slice_get ns i ≡ Some n → slice_get (exits table p.variables n) j ≡ Some x → x.target ≡ node k → is_inside c i y.number ≡ false → IsFirstLed k
    by-exit i j n x at-i at-j leads outside = by (goes_onward c i (edges_of c i n (list_in drops i))) refl
      where
        slots : List Slot
        slots = slots_within table p.variables n.number n.form (slots_around c i)

        the_edge : Departure
        the_edge = departure c slots x.outcome x.target (list_in (list_in drops i) j)

        there : slice_get (edges_of c i n (list_in drops i)) j ≡ Some the_edge
        there = exit-departure c slots (exits table p.variables n) (list_in drops i) j x at-j

        to-k : the_edge.arrival ≡ to_block k
        to-k =
            ap (λ t. (departure c slots x.outcome t (list_in (list_in drops i) j)).arrival) leads ∙ arrives-first c slots k (outside-first count table processes p labels typed i k n y x at-i (got-IsIn (exits table p.variables n) j x at-j) leads at-k outside)

        place_in : Arrival → ℕ
        place_in (to_block q) = q
        place_in a = 0

        at-next : (d : Departure) (ds : List Departure) (e : Departure) → ds ≡ e ∷ [] → e.arrival ≡ to_block (suc i) → (q : ℕ) → slice_get ds q ≡ Some d → d.arrival ≡ to_block k → k ≡ suc i
        at-next d ds e only arrives q got arrives-k = side q (ap (λ ds. slice_get ds q) (sym only) ∙ got)
          where
            side : (q : ℕ) → slice_get (e ∷ []) q ≡ Some d → k ≡ suc i
            side zero g = ap place_in (sym arrives-k ∙ ap (λ (d : Departure). d.arrival) (sym (some-injective g)) ∙ arrives)
            side (suc q) g = none-not_some g

        by : (t : Bool) → goes_onward c i (edges_of c i n (list_in drops i)) ≡ t → IsFirstLed k
        by false off =
            let block = block_of c i n (list_in facts i) (list_in drops i) in
            inl (led-edge count image p.variables (entry_edge m) (blocks_of m) block the_edge k (got-IsIn (blocks_of m) i block (node-block c ns facts drops i n at-i))
            (subst (λ t. IsIn the_edge (cond t [] (edges_of c i n (list_in drops i)))) (sym off) (got-IsIn (edges_of c i n (list_in drops i)) j the_edge there)) to-k)
        by true on =
            let one = one-plain (suc i) (edges_of c i n (list_in drops i)) (and-both _ _ on).0 in
            inr (record {
              before = i;
              node_before = n;
              place = j;
              exit = x;
              next = at-next the_edge (edges_of c i n (list_in drops i)) one.edge one.only one.arrival j there to-k;
              there = at-i;
              exit_there = at-j;
              leads = leads;
              onward = on;
            })

    gone : (i : ℕ) (q : Point) (e : Edge) → IsWithinLoop (node i) → slice_get (flow_of table p).points i ≡ Some q → IsIn e q.edges → IsWithinLoop e.target
    gone i q e again at member k' y' leads at' h =
        by (is_inside c i y.number) refl
      where
        n : (n : Node) × (slice_get ns i ≡ Some n) × (point table p.variables n ≡ q)
        n = map-some (point table p.variables) (slice_get ns i) q (sym (slice_get-map (point table p.variables) ns i) ∙ at)

        x : (x : Exit) × IsIn x (exits table p.variables n.0) × (e ≡ edge table p.variables n.0.form x)
        x = in-map_from (edge table p.variables n.0.form) e (exits table p.variables n.0) (subst (λ (q : Point). IsIn e q.edges) (sym n.2) member)

        to-k' : x.0.target ≡ node k'
        to-k' = sym (ap (λ (e : Edge). e.target) x.2) ∙ leads

        at-head : is_inside c i y.number ≡ false → (k' ≡ k) ⊎ (is_inside c k' y.number ≡ true) → k' ≡ k
        at-head outside (inl s) = s
        at-head outside (inr inside) = side (from-inside count table processes p labels typed i k' n.0 y' x.0 y.number n.1 x.1 to-k' at' inside)
          where
            side : (y'.number ≡ y.number) ⊎ (is_inside c i y.number ≡ true) → k' ≡ k
            side (inl s) = one-place ns (process_numbers-Rise p) k' k y' y at' at-k s
            side (inr s) = absurd (true≢false (sym s ∙ outside))

        by : (b : Bool) → is_inside c i y.number ≡ b → IsFirstLed k
        by true inside = again i n.0 refl n.1 (inr inside)
        by false outside =
            let j = in-got x.0 (exits table p.variables n.0) x.1 in
            by-exit i j.0 n.0 x.0 n.1 j.1 (to-k' ∙ ap node (at-head outside h)) outside

    led : (t : Target) → IsLedTo (flow_of table p) t → IsWithinLoop t
    led _ begins = begun
    led _ (goes_on i q e l at member) = gone i q e (led (node i) l) at member

  -- which edges lead to a block does not depend on facts
  first-same : (k i : ℕ) (ns : List Node) (fs gs : List (List Fact)) (drops : List (List (List Path)))
      → any_pass (λ (b : CodeBlock). any_pass (λ (d : Departure). goes_to_first k d.arrival) b.departures) (blocks_from c i ns fs drops) ≡ any_pass (λ (b : CodeBlock). any_pass (λ (d : Departure). goes_to_first k d.arrival) b.departures) (blocks_from c i ns gs drops)
  first-same k i [] fs gs drops = refl
  first-same k i (n ∷ ns) fs gs drops =
      ap (λ t. any_pass (λ (d : Departure). goes_to_first k d.arrival) (cond (goes_onward c i (edges_of c i n (first_list drops))) [] (edges_of c i n (first_list drops))) || t) (first-same k (suc i) ns (further_lists fs) (further_lists gs) (further_lists drops))

  abbrev new_facts : List (List Fact)
  new_facts = settled_from table p.variables first_led 0 [] ns facts

  first-led : (k : ℕ) → first_led k ≡ comes_first (entry_edge m) (blocks_of (settled m)) k
  first-led k = ap (λ t. goes_to_first k (entry_edge m).arrival || t) (first-same k 0 ns facts new_facts drops)

  -- what follows has the facts and slots that are handed on
  following : (k : ℕ) (y : Node) → slice_get ns k ≡ Some y → IsFollowing k → (comes_first (entry_edge m) (blocks_of (settled m)) k ≡ true) ⊎ IsHandedOn table p.variables (blocks_of (settled m)) k (block_of c k y (list_in new_facts k) (list_in drops k))
  following k y at-k f = by (first_led k || is_for y.form) refl
    where
      i : ℕ
      i = f.before

      n : Node
      n = f.node_before

      one : IsOnePlain (suc f.before) (edges_of c f.before f.node_before (list_in drops f.before))
      one = one-plain (suc f.before) (edges_of c f.before f.node_before (list_in drops f.before)) (and-both _ _ f.onward).0

      at-next : slice_get ns (suc f.before) ≡ Some y
      at-next = ap (slice_get ns) (sym f.next) ∙ at-k

      no-for : is_for y.form ≡ true → ⊥
      no-for e =
          let q = (and-both (is_one_plain (suc f.before) (edges_of c f.before f.node_before (list_in drops f.before))) _ f.onward).1 in
          true≢false (sym q ∙ ap (λ o. not (map_or false (λ (n : Node). is_for n.form) o)) at-next ∙ ap not e)

      before : List Slot
      before = slots_within table p.variables f.node_before.number f.node_before.form (slots_around c f.before)

      the_edge : Departure
      the_edge = departure c before f.exit.outcome f.exit.target (list_in (list_in drops f.before) f.place)

      only-edge : (ds : List Departure) (e d : Departure) (j : ℕ) → ds ≡ e ∷ [] → slice_get ds j ≡ Some d → d ≡ e
      only-edge ds e d j q g = side j (ap (λ ds. slice_get ds j) (sym q) ∙ g)
        where
          side : (j : ℕ) → slice_get (e ∷ []) j ≡ Some d → d ≡ e
          side zero g = sym (some-injective g)
          side (suc j) g = none-not_some g

      is-edge : the_edge ≡ one.edge
      is-edge = only-edge (edges_of c f.before f.node_before (list_in drops f.before)) one.edge the_edge f.place one.only (exit-departure c before (exits table p.variables f.node_before) (list_in drops f.before) f.place f.exit f.exit_there)

      to-k : departure c before f.exit.outcome (node k) (list_in (list_in drops f.before) f.place) ≡ one.edge
      to-k = ap (λ t. departure c before f.exit.outcome t (list_in (list_in drops f.before) f.place)) (sym f.leads) ∙ is-edge

      none-left : slots_left c before (node k) ≡ []
      none-left = ap (λ (d : Departure). d.slots) to-k ∙ one.slots

      arrives : arrival_at c before (node k) ≡ to_block (suc f.before)
      arrives = ap (λ (d : Departure). d.arrival) to-k ∙ one.arrival

      second_in : Arrival → Bool
      second_in (to_second_step q) = true
      second_in a = false

      none-again : any_pass (λ (s : Slot). nat_eq s.number (number_at c k)) before ≡ false
      none-again = side (any_pass (λ (s : Slot). nat_eq s.number (number_at c k)) before) refl arrives
        where
          side : (t : Bool) → any_pass (λ (s : Slot). nat_eq s.number (number_at c k)) before ≡ t → cond t (to_second_step k) (to_block k) ≡ to_block (suc f.before) → any_pass (λ (s : Slot). nat_eq s.number (number_at c k)) before ≡ false
          side false e q = e
          side true e q = absurd (true≢false (ap second_in q))

      slots-same : slots_around c k ≡ before
      slots-same =
          sym (to-first count table processes p labels typed f.before k f.node_before y f.exit f.there (got-IsIn (exits table p.variables f.node_before) f.place f.exit f.exit_there) f.leads at-k none-again)
          ∙ ap (λ ss. without_slots ss before) none-left

      facts-are : list_in new_facts (suc f.before) ≡ cond (first_led (0 + suc f.before) || is_for y.form) (list_in facts (suc f.before)) (facts_after table p.variables f.node_before.form ok (list_in new_facts f.before))
      facts-are = settled-next table p.variables first_led 0 [] ns facts f.before f.node_before y f.there at-next

      by : (t : Bool) → (first_led k || is_for y.form) ≡ t → (comes_first (entry_edge m) (blocks_of (settled m)) k ≡ true) ⊎ IsHandedOn table p.variables (blocks_of (settled m)) k (block_of c k y (list_in new_facts k) (list_in drops k))
      by true e = side (or-either (first_led k) (is_for y.form) e)
        where
          side : IsTrue (first_led k) ⊎ IsTrue (is_for y.form) → (comes_first (entry_edge m) (blocks_of (settled m)) k ≡ true) ⊎ IsHandedOn table p.variables (blocks_of (settled m)) k (block_of c k y (list_in new_facts k) (list_in drops k))
          side (inl q) = inl (sym (first-led k) ∙ q)
          side (inr q) = absurd (no-for q)
      by false e = inr (record {
        before = f.before;
        block = block_of c f.before f.node_before (list_in new_facts f.before) (list_in drops f.before);
        next = f.next;
        there = node-block c ns new_facts drops f.before f.node_before f.there;
        onward = f.onward;
        facts =
            ap (list_in new_facts) f.next ∙ facts-are
            ∙ ap (λ t. cond t (list_in facts (suc f.before)) (facts_after table p.variables f.node_before.form ok (list_in new_facts f.before))) (ap (λ j. first_led j || is_for y.form) (let q = f.next in omega (arith, q)) ∙ e);
        slots = slots-same;
      })

  pub blocks-complete : AreComplete table p.variables (entry_edge m) (blocks_of (settled m))
  blocks-complete = record {
    linked = all.linked;
    outcomes_in_order = all.outcomes_in_order;
    goes_on = all.goes_on;
    outcomes_differ = all.outcomes_differ;
    reached = λ n b at.
        (let r = block-node c ns new_facts drops n b at in
        subst (λ (b : CodeBlock). (comes_first (entry_edge m) (blocks_of (settled m)) n ≡ true) ⊎ IsHandedOn table p.variables (blocks_of (settled m)) n b) (sym r.2)
        (side n r.0 r.1 (led n r.0 r.1 (node n) (reached-IsLedTo (flow_of table p) (node n) (typed.reached n (got-within ns n r.0 r.1))) n r.0 refl r.1 (inl refl))));
  }
    where
      all : HasLinkedBlocks table p (settled m)
      all = linked-blocks count table processes p labels new_facts entry_drops drops typed

      side : (n : ℕ) (y : Node) → slice_get ns n ≡ Some y → IsFirstLed n → (comes_first (entry_edge m) (blocks_of (settled m)) n ≡ true) ⊎ IsHandedOn table p.variables (blocks_of (settled m)) n (block_of c n y (list_in new_facts n) (list_in drops n))
      side n y at (inl q) = inl (sym (first-led n) ∙ q)
      side n y at (inr f) = following n y at f
