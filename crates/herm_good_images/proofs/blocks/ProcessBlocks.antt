-- The blocks of a checked process are sound.
use Rattle.std.proofs.Common.{◌≡◌, ◌↔◌, ℕ, suc, ◌+◌, ◌<◌, length, List, [], ◌∷◌, ◌++◌, map, filter, Bool, true, false, cond, not, nat_eq, Option, Some, None, option_and_then, slice_get, refl, sym, ap, subst, ◌∙◌, true≢false, arith}
use Rattle.herm_model.specs.Lists.{IsIn, any_pass, list_of}
use Rattle.herm_model.specs.Paths.{Path, Fact, init, case}
use Rattle.herm_model.specs.Types.{TypeTable}
use Rattle.herm_model.specs.Facts.{prefixes, IsFactOf}
use Rattle.herm_model.specs.Expressions.{Literal}
use Rattle.herm_model.specs.Statements.{Form, Process, Differ}
use Rattle.herm_model.specs.Outcomes.{Outcome, ok, exceptions}
use Rattle.herm_model.specs.Nodes.{Node, process_nodes, entry_of}
use Rattle.herm_model.specs.Exits.{Exit, exits}
use Rattle.herm_model.specs.Targets.{Target, node, end, end_by}
use Rattle.herm_model.specs.Labels.{Labels, label_at, AreExact}
use Rattle.herm_model.specs.MissingFacts.{IsAccepted}
use Rattle.herm_model.specs.ControlPaths.{edge, point, flow_of, held_after_edge, held_at_start}
use Rattle.herm_model.specs.TypedStatements.{IsTypedForm, port_type}
use Rattle.herm_model.specs.TypedPrograms.{IsTypedProcess}
use Rattle.herm_model.specs.WellFormedTables.{IsWellFormedTable}
use Rattle.herm_model.specs.laws.ExcessLaws.{IsExcess}
use Rattle.herm_model.specs.laws.FlowLaws.{IsThere}
use Rattle.herm_model.proofs.Options.{some-injective, none-not_some}
use Rattle.herm_model.proofs.Lists.{in-map, in-map_from, in-filter_from, and-both, length-map}
use Rattle.herm_model.proofs.FactTests.{got-IsIn}
use Rattle.herm_model.proofs.NodePlaces.{entry-there, edges-there}
use Rattle.herm_forms.specs.Modules.{Module, module_of}
use Rattle.herm_forms.specs.LeavingLoops.{keeps_loop}
use Rattle.herm_instructions.specs.Instructions.{Instruction, Drop, LoopDrop}
use Rattle.herm_instructions.specs.Labels.{Slot, Label, listed_at}
use Rattle.herm_instructions.specs.Images.{CodeModule, Image}
use Rattle.herm_instructions.specs.Places.{Way, label_at_start}
use Rattle.herm_instructions.specs.GoodCode.{Arrives, processes_of}
use Rattle.herm_translated.specs.Constants.{literals_in}
use Rattle.herm_translated.specs.Departures.{Arrival, to_block, to_second_step, Departure, second_step, arrive_by, edge_code}
use Rattle.herm_translated.specs.CodeBlocks.{CheckedModule, CodeBlock, slots_within, slots_around, slots_left, number_at, arrival_at, departure, edges_of, goes_onward, block_of, blocks_of, entry_edge}
use Rattle.herm_translated.specs.Layout.{exit_of}
use Rattle.herm_translated.specs.BlockLabels.{label_with, facts_after, comes_first}
use Rattle.herm_translated.specs.laws.LayoutLaws.{start}
use Rattle.herm_translated.specs.laws.LabelsAlong.{without_slots}
use Rattle.herm_translated.specs.laws.LabelsAtEdges.{AreReached, IsTypedBlock}
use Rattle.herm_translated.specs.laws.GoodStructure.{code_module}
use Rattle.herm_translated.specs.laws.CheckedBlocks.{checked, HasLinkedBlocks}
use Rattle.herm_translated.proofs.Joined.{got-within}
use Rattle.herm_translated.proofs.LabelsStand.{blocks-labelled}
use Rattle.herm_translated.proofs.StructureKept.{led-entry, led-edge, comes}
use Rattle.herm_translated.proofs.PlainEdges.{IsOnePlain, one-plain}
use Rattle.herm_translated.proofs.LinkedProcess.{arrives-block, departure-arrives, linked-blocks}
use Rattle.herm_translated.proofs.EdgesLabelled.{got-some}
use Rattle.herm_good_images.specs.CheckedModules.{ListsFacts, DropsExcess}
use Rattle.herm_good_images.proofs.loops.LeadingWithin.{Leads, block-leads, in-leads, exits-lead}
use Rattle.herm_good_images.proofs.blocks.BlockOfNode.{list_in, node-block, block-node, departure-exit, exit-departure, arrives-first, arrives-second}
use Rattle.herm_good_images.proofs.blocks.BlocksReached.{entry-first}
use Rattle.herm_good_images.proofs.loops.EnteredSlots.{within-Differ, to-first, to-second, own-absent, first-bare}
use Rattle.herm_good_images.proofs.facts.DroppedFacts.{AreNotAbove, low-kept, kept-low}
use Rattle.herm_good_images.proofs.blocks.GoodEdges.{all-dropped, loops-dropped, jump-good, end-good, end_by-good}
use Rattle.herm_good_images.proofs.fronts.KnownForms.{exceptions-known, typed-beside, node-arm}
use Rattle.herm_good_images.proofs.blocks.LocatedInstructions.{turn-listed}
use Rattle.herm_good_images.proofs.blocks.SoundBlocks.{LandsListed, AreGoodHere, IsSoundBlock}
use Rattle.herm_good_images.proofs.facts.BehindEdges.{listed-behind, label-needed, label-closed, behind-closed, behind-there, low-behind, start-there, start-closed, start-listed, low-start}

filter-Differ : (f : Slot → Bool) (slots : List Slot) → Differ (map (λ (s : Slot). s.number) slots) → Differ (map (λ (s : Slot). s.number) (filter f slots))
filter-Differ f [] h = tt
filter-Differ f (s ∷ slots) h = by (f s) (filter-Differ f slots h.1)
  where
    by : (b : Bool) → Differ (map (λ (s : Slot). s.number) (filter f slots)) → Differ (map (λ (s : Slot). s.number) (cond b (s ∷ filter f slots) (filter f slots)))
    by false again = again
    by true again = (
      (λ m. (let r = in-map_from (λ (s : Slot). s.number) s.number (filter f slots) m in h.0 (subst (λ n. IsIn n (map (λ (s : Slot). s.number) slots)) (sym r.2) (in-map (λ (s : Slot). s.number) r.0 slots (in-filter_from f r.0 slots r.1).0)))),
      again,
    )

module _ (count : ℕ) (table : TypeTable) (processes : List Process) (p : Process) (labels : Labels) (facts : List (List Fact)) (entry_drops : List Path) (drops : List (List (List Path)))
    (typed : IsTypedProcess count table processes p) (formed : IsWellFormedTable count table) (exact : AreExact (flow_of table p) labels) (accepted : IsAccepted table p)
    (lists : ListsFacts (checked table p labels facts entry_drops drops)) (dropped : DropsExcess (checked table p labels facts entry_drops drops))
    (reached : AreReached table p.variables (entry_edge (checked table p labels facts entry_drops drops)) (blocks_of (checked table p labels facts entry_drops drops)))
    (modules : List CodeModule) (constants : List Literal) (ports : (n : ℕ) → port_type processes n ≡ port_type (processes_of modules) n)
    (known : (n : Node) → IsIn n (process_nodes p) → (l : Literal) → IsIn l (literals_in n.form) → IsIn l constants) where
  abbrev pub image : Image
  image = record { modules = modules; constants = constants; types = table }

  abbrev c : Module
  c = module_of table p labels

  abbrev ns : List Node
  ns = process_nodes p

  abbrev pub checked_module : CheckedModule
  checked_module = checked table p labels facts entry_drops drops

  abbrev pub entry : Departure
  entry = entry_edge checked_module

  abbrev pub blocks : List CodeBlock
  blocks = blocks_of checked_module

  abbrev st : ℕ → ℕ
  st n = start table p.variables constants entry blocks n

  abbrev the_block : ℕ → Node → CodeBlock
  the_block i n = block_of c i n (list_in facts i) (list_in drops i)

  linked : HasLinkedBlocks table p checked_module
  linked = linked-blocks count table processes p labels facts entry_drops drops typed

  at-block : (i : ℕ) (n : Node) → slice_get ns i ≡ Some n → slice_get blocks i ≡ Some (the_block i n)
  at-block i n e = node-block c ns facts drops i n e

  of-block : (i : ℕ) (b : CodeBlock) → slice_get blocks i ≡ Some b → (n : Node) × (slice_get ns i ≡ Some n) × (b ≡ the_block i n)
  of-block i b e = block-node c ns facts drops i b e

  -- where an edge leads there the label of its node is listed
  first-listed : (k : ℕ) (y : Node) → slice_get ns k ≡ Some y → comes_first entry blocks k ≡ true → listed_at (code_module count image p.variables entry blocks).labels (st k) ≡ Some (label_with (list_in facts k) (slots_around c k))
  first-listed k y at-k led = (blocks-labelled table p.variables constants entry blocks).first k (the_block k y) (at-block k y at-k) ∙ ap (λ t. cond t (Some (label_with (list_in facts k) (slots_around c k))) None) led

  -- the facts of a block are those of its node's label
  pub facts-listed : (i : ℕ) (n : Node) (f : Fact) → slice_get ns i ≡ Some n → IsIn f (list_in facts i) ↔ (labels i f ≡ true)
  facts-listed i n f e =
      let low = got-within ns i n e in
      let fs = got-lists facts i (let many = lists.many in omega (arith, low, many)) in
      subst (λ xs. IsIn f xs ↔ (labels i f ≡ true)) (sym (ap (list_of (λ xs. xs)) fs.1)) (lists.listed i fs.0 f fs.1)
    where
      got-lists : (xs : List (List Fact)) (k : ℕ) → k < length xs → (x : List Fact) × (slice_get xs k ≡ Some x)
      got-lists xs k h = got-some xs k h

  -- the block of a node, which is typed
  pub block-typed : (i : ℕ) (b : CodeBlock) → slice_get blocks i ≡ Some b → IsTypedBlock table p.variables constants count (processes_of modules) b
  block-typed i b e =
      let r = of-block i b e in
      let in-n = got-IsIn ns i r.0 r.1 in
      record {
        typed = subst (λ (b : CodeBlock). IsTypedForm table p.variables count (processes_of modules) b.form) (sym r.2) (typed-beside table p.variables count processes (processes_of modules) ports r.0.form (typed.typed r.0 in-n));
        known = λ l m. known r.0 in-n l (subst (λ (b : CodeBlock). IsIn l (literals_in b.form)) r.2 m);
        outcomes_in_order = linked.outcomes_in_order b (got-IsIn blocks i b e);
        goes_on = linked.goes_on b (got-IsIn blocks i b e);
        outcomes_differ = linked.outcomes_differ b (got-IsIn blocks i b e);
      }

  abbrev AreGoodFrom : (Outcome → ℕ) → List Instruction → Option Label → Type 0
  AreGoodFrom exit_at code a = AreGoodHere count image p.variables entry blocks exit_at code a

  abbrev Lands : Way → Label → Type 0
  Lands w l = LandsListed count image p.variables entry blocks w l

  -- What is left behind the drops arrives at the label of the target.
  arrives-there : (here : Fact → Bool) (k : ℕ) (y : Node) (hs gs : List Fact) (xs : List Path) (from to : List Slot) → slice_get ns k ≡ Some y → IsExcess here (labels k) xs → ((q : Path) → here (init q) ≡ true → IsFactOf table p.variables (init q)) → ((f : Fact) → labels k f ≡ true → here f ≡ true)
      → ((f : Fact) → IsIn f hs ↔ (here f ≡ true)) → ((f : Fact) → IsIn f gs ↔ (IsIn f hs × AreNotAbove xs f)) → from ≡ to → Arrives (label_with gs from) (label_with (list_in facts k) to)
  arrives-there here k y hs gs xs from to at-k excess there low listed iff slots = record {
    stack = refl;
    slots = sym slots;
    values = λ q. (kept (init q), λ m. (let r = (iff (init q)).0 m in (facts-listed k y (init q) at-k).1 (kept-low here (labels k) xs excess table p.variables there shut low q ((listed (init q)).0 r.0) r.1)));
    components = λ q i m. kept (case q i) m;
  }
    where
      shut : (f g : Fact) → labels k f ≡ true → IsIn g (prefixes table p.variables f) → labels k g ≡ true
      shut f g = label-closed count table processes p labels typed formed exact k y at-k f g

      kept : (f : Fact) → IsIn f (list_in facts k) → IsIn f gs
      kept f m =
          let h = (facts-listed k y f at-k).0 m in
          (iff f).1 ((listed f).1 (low f h), low-kept here (labels k) xs excess table p.variables there shut low f h)

  drops-there : (i j : ℕ) (paths : List Path) → option_and_then (λ edges. slice_get edges j) (slice_get drops i) ≡ Some paths → list_in (list_in drops i) j ≡ paths
  drops-there i j paths e = by (slice_get drops i) e
    where
      by : (o : Option (List (List Path))) → option_and_then (λ edges. slice_get edges j) o ≡ Some paths → list_in (list_of (λ xs. xs) o) j ≡ paths
      by None q = none-not_some q
      by (Some edges) q = ap (list_of (λ xs. xs)) q

  module _ (i j : ℕ) (n : Node) (x : Exit) (at-i : slice_get ns i ≡ Some n) (at-x : slice_get (exits table p.variables n) j ≡ Some x) where
    abbrev slots : List Slot
    slots = slots_within table p.variables n.number n.form (slots_around c i)

    abbrev hs : List Fact
    hs = facts_after table p.variables n.form x.outcome (list_in facts i)

    abbrev held : Fact → Bool
    held f = held_after_edge (edge table p.variables n.form x) f (labels i f)

    abbrev exit_at : Outcome → ℕ
    exit_at o = exit_of table p.variables constants (st i) (the_block i n) o

    in-x : IsIn x (exits table p.variables n)
    in-x = got-IsIn (exits table p.variables n) j x at-x

    hs-listed : (f : Fact) → IsIn f hs ↔ (held f ≡ true)
    hs-listed f = listed-behind table p.variables n x (list_in facts i) (labels i) (λ f. facts-listed i n f at-i) f

    dropped-here : (paths : List Path) × (list_in (list_in drops i) j ≡ paths) × IsExcess held (label_at labels x.target) paths
    dropped-here = let r = dropped.edges i j n x at-i at-x in (r.0, drops-there i j r.0 r.1, r.2)

    -- without drops and with the same slots what is held arrives at the target
    onward-arrives : (k : ℕ) (y : Node) → x.target ≡ node k → slice_get ns k ≡ Some y → list_in (list_in drops i) j ≡ [] → slots ≡ slots_around c k → Arrives (label_with hs slots) (label_with (list_in facts k) (slots_around c k))
    onward-arrives k y leads at-k bare same =
        arrives-there held k y hs hs [] slots (slots_around c k) at-k
        (let r = dropped-here in subst (λ xs. IsExcess held (labels k) xs) (sym r.1 ∙ bare) (subst (λ t. IsExcess held (label_at labels t) r.0) leads r.2))
        (λ q h. behind-there count table processes p labels typed formed exact i n x at-i in-x (init q) h)
        (low-behind count table processes p labels typed formed exact i n x at-i in-x k y leads at-k) hs-listed (λ f. ((λ m. (m, λ q z. absurd z)), λ m. m.0)) same

    -- the code of an edge to a node
    to-node : (k : ℕ) (y : Node) (a : Arrival) (paths : List Path) (at : ℕ) (to : List Slot) → x.target ≡ node k → slice_get ns k ≡ Some y → IsExcess held (labels k) paths → arrive_by st a ≡ Instruction.Jump at
        → listed_at (code_module count image p.variables entry blocks).labels at ≡ Some (label_with (list_in facts k) to) → without_slots (slots_left c slots (node k)) slots ≡ to
        → AreGoodFrom exit_at (map Drop paths ++ (map LoopDrop (slots_left c slots (node k)) ++ arrive_by st a ∷ [])) (Some (label_with hs slots))
    to-node k y a paths at to leads at-k excess jump listed left =
        all-dropped table p.variables constants count (processes_of modules) exit_at Lands held (labels k) paths excess there hs slots (map LoopDrop (slots_left c slots (node k)) ++ arrive_by st a ∷ []) hs-listed
        (behind-closed count table processes p labels typed formed exact i n x at-i in-x)
        (λ gs iff. loops-dropped table p.variables constants count (processes_of modules) exit_at Lands (slots_left c slots (node k)) gs slots (arrive_by st a ∷ [])
        (filter-Differ (λ (s : Slot). not (keeps_loop c (node k) s.number)) slots (within-Differ count table processes p labels typed i n at-i)) among
        (subst (λ z. AreGoodFrom exit_at (z ∷ []) (Some (label_with gs (without_slots (slots_left c slots (node k)) slots)))) (sym jump)
        (jump-good table p.variables constants count (processes_of modules) exit_at Lands at gs (without_slots (slots_left c slots (node k)) slots) (
          label_with (list_in facts k) to,
          listed,
          arrives-there held k y hs gs paths (without_slots (slots_left c slots (node k)) slots) to at-k excess there (low-behind count table processes p labels typed formed exact i n x at-i in-x k y leads at-k) hs-listed iff left,
        ))))
      where
        there : (q : Path) → held (init q) ≡ true → IsFactOf table p.variables (init q)
        there q h = behind-there count table processes p labels typed formed exact i n x at-i in-x (init q) h

        among : (s : ℕ) → IsIn s (slots_left c slots (node k)) → IsIn s (map (λ (x : Slot). x.number) slots)
        among s m =
            let r = in-map_from (λ (s : Slot). s.number) s (filter (λ (s : Slot). not (keeps_loop c (node k) s.number)) slots) m in
            subst (λ z. IsIn z (map (λ (x : Slot). x.number) slots)) (sym r.2) (in-map (λ (s : Slot). s.number) r.0 slots (in-filter_from (λ (s : Slot). not (keeps_loop c (node k) s.number)) r.0 slots r.1).0)

    exit-there : (k : ℕ) → x.target ≡ node k → (y : Node) × (slice_get ns k ≡ Some y)
    exit-there k leads =
        let there = edges-there table p (point table p.variables n) (edge table p.variables n.form x) (in-map (point table p.variables) n ns (got-IsIn ns i n at-i)) (in-map (edge table p.variables n.form) x (exits table p.variables n) in-x) in
        let low : k < length (flow_of table p).points = subst (IsThere (length (flow_of table p).points)) leads there in
        got-some ns k (let many = length-map (point table p.variables) ns in omega (arith, low, many))

    -- an exception that nothing catches is there
    ends-known : (e : ℕ) → x.target ≡ end_by e → e < count
    ends-known e q = exits-lead IsKnown table p.variables n raises leads x in-x e q
      where
        IsKnown : Target → Type 0
        IsKnown t = (e : ℕ) → t ≡ end_by e → e < count

        raises : (z : ℕ) → IsIn z (exceptions table p.variables n.form) → (e : ℕ) → end_by z ≡ end_by e → e < count
        raises z m e q = subst (λ k. k < count) (number-of q) (exceptions-known count table p.variables processes formed n.form (typed.typed n (got-IsIn ns i n at-i)) z m)
          where
            number : Target → ℕ
            number (end_by e) = e
            number t = 0

            number-of : {a b : ℕ} → end_by a ≡ end_by b → a ≡ b
            number-of s = ap number s

        leads : Leads IsKnown n
        leads = in-leads IsKnown p.body 1 0 (record { behind = end; catches = []; exit = end }) (λ k low high e q. cc) (record { behind = λ e q. cc; catches = λ c m. absurd m; exit = λ e q. cc }) n (got-IsIn ns i n at-i)

    module _ (off : goes_onward c i (edges_of c i n (list_in drops i)) ≡ false) where
      by-target : (t : Target) → x.target ≡ t → AreGoodFrom exit_at (edge_code st (departure c slots x.outcome t (list_in (list_in drops i) j))) (Some (label_with hs slots))
      by-target end leads = end-good table p.variables constants count (processes_of modules) exit_at Lands hs slots
      by-target (end_by e) leads = end_by-good table p.variables constants count (processes_of modules) exit_at Lands e hs slots (ends-known e leads)
      by-target (node k) leads = arrival (any_pass (λ (s : Slot). nat_eq s.number (number_at c k)) slots) refl
        where
          y : (y : Node) × (slice_get ns k ≡ Some y)
          y = exit-there k leads

          excess : IsExcess held (labels k) (list_in (list_in drops i) j)
          excess = let r = dropped-here in subst (λ xs. IsExcess held (labels k) xs) (sym r.1) (subst (λ t. IsExcess held (label_at labels t) r.0) leads r.2)

          in-b : IsIn (the_block i n) blocks
          in-b = got-IsIn blocks i (the_block i n) (at-block i n at-i)

          the_departure : Departure
          the_departure = departure c slots x.outcome (node k) (list_in (list_in drops i) j)

          in-d : IsIn (departure c slots x.outcome (node k) (list_in (list_in drops i) j)) (the_block i n).departures
          in-d = subst (λ t. IsIn the_departure (cond t [] (edges_of c i n (list_in drops i)))) (sym off) (got-IsIn (edges_of c i n (list_in drops i)) j the_departure (exit-departure c slots (exits table p.variables n) (list_in drops i) j x at-x ∙ ap (λ t. Some (departure c slots x.outcome t (list_in (list_in drops i) j))) leads))

          arrival : (b : Bool) → any_pass (λ (s : Slot). nat_eq s.number (number_at c k)) slots ≡ b → AreGoodFrom exit_at (edge_code st (departure c slots x.outcome (node k) (list_in (list_in drops i) j))) (Some (label_with hs slots))
          arrival false none =
              subst (λ a. AreGoodFrom exit_at (map Drop (list_in (list_in drops i) j) ++ (map LoopDrop (slots_left c slots (node k)) ++ arrive_by st a ∷ [])) (Some (label_with hs slots))) (sym (arrives-first c slots k none))
              (to-node k y.0 (to_block k) (list_in (list_in drops i) j) (st k) (slots_around c k) leads y.1 excess refl
              (first-listed k y.0 y.1 (led-edge count image p.variables entry blocks (the_block i n) the_departure k in-b in-d (arrives-first c slots k none))) (to-first count table processes p labels typed i k n y.0 x at-i in-x leads y.1 none))
          arrival true some =
              subst (λ a. AreGoodFrom exit_at (map Drop (list_in (list_in drops i) j) ++ (map LoopDrop (slots_left c slots (node k)) ++ arrive_by st a ∷ [])) (Some (label_with hs slots))) (sym second)
              (to-node k y.0 (to_second_step k) (list_in (list_in drops i) j) (st k + second_step) (slots_within table p.variables y.0.number y.0.form (slots_around c k)) leads y.1 excess refl listed (to-second count table processes p labels typed i k n y.0 x at-i in-x leads y.1 some))
            where
              second : arrival_at c slots (node k) ≡ to_second_step k
              second = arrives-second c slots k some

              loop : (b : CodeBlock) × (r t : Path) × (slice_get blocks k ≡ Some b) × (b.form ≡ Form.For r t)
              loop = linked.linked.again (the_block i n) (departure c slots x.outcome (node k) (list_in (list_in drops i) j)) k in-b in-d second

              form-is : y.0.form ≡ Form.For loop.1 loop.2
              form-is = ap (λ (b : CodeBlock). b.form) (some-injective (sym (at-block k y.0 y.1) ∙ loop.3)) ∙ loop.4

              at-loop : slice_get blocks k ≡ Some (record (the_block k y.0) { form = Form.For loop.1 loop.2 })
              at-loop = at-block k y.0 y.1 ∙ ap (λ form. Some (record (the_block k y.0) { form = form })) form-is

              listed : listed_at (code_module count image p.variables entry blocks).labels (st k + second_step) ≡ Some (label_with (list_in facts k) (slots_within table p.variables y.0.number y.0.form (slots_around c k)))
              listed =
                  turn-listed count image p.variables entry blocks (processes_of modules) formed reached block-typed k (the_block k y.0) loop.1 loop.2 at-loop
                  (comes count image p.variables entry blocks linked.linked (the_block i n) (departure c slots x.outcome (node k) (list_in (list_in drops i) j)) k in-b in-d second)
                  ∙ ap (λ form. Some (label_with (list_in facts k) (slots_within table p.variables y.0.number form (slots_around c k)))) (sym form-is)

      pub exit-good : AreGoodFrom exit_at (edge_code st (departure c slots x.outcome x.target (list_in (list_in drops i) j))) (Some (label_with hs slots))
      exit-good = by-target x.target refl

  node-sound : (i : ℕ) (n : Node) → slice_get ns i ≡ Some n → IsSoundBlock count image p.variables entry blocks i (the_block i n)
  node-sound i n at-i = record {
    typed = block-typed i (the_block i n) (at-block i n at-i);
    names = linked.linked.names (the_block i n) (got-IsIn blocks i (the_block i n) (at-block i n at-i));
    arm = node-arm p typed.blocks typed.arms n (got-IsIn ns i n at-i);
    needed = λ f m. (facts-listed i n f at-i).1 (label-needed count table processes p labels typed formed exact accepted i n f at-i m);
    own = λ r t e. own-absent count table processes p labels typed i n at-i;
    onward = onward-next;
    edges = λ j d at-d. by (goes_onward c i (edges_of c i n (list_in drops i))) refl j d at-d;
  }
    where
      onward-next : goes_onward c i (edges_of c i n (list_in drops i)) ≡ true
          → (next : CodeBlock) × (slice_get blocks (suc i) ≡ Some next) × Arrives (label_with (facts_after table p.variables n.form ok (list_in facts i)) (slots_within table p.variables n.number n.form (slots_around c i))) (label_with next.facts next.slots)
      onward-next on = (
        the_block (suc i) y.0,
        at-block (suc i) y.0 y.1,
        subst (λ o. Arrives (label_with (facts_after table p.variables n.form o (list_in facts i)) slots_here) (label_with (list_in facts (suc i)) (slots_around c (suc i)))) (sym (outcome-is x.0.target) ∙ ap (λ (d : Departure). d.outcome) (sym x.2) ∙ one.outcome)
            (onward-arrives i 0 n x.0 at-i x.1 (suc i) y.0 leads y.1 (ap (λ (d : Departure). d.drops) to-next ∙ one.drops) same),
      )
        where
          slots_here : List Slot
          slots_here = slots_within table p.variables n.number n.form (slots_around c i)

          one : IsOnePlain (suc i) (edges_of c i n (list_in drops i))
          one = one-plain (suc i) (edges_of c i n (list_in drops i)) (and-both _ _ on).0

          x : (x : Exit) × (slice_get (exits table p.variables n) 0 ≡ Some x) × (one.edge ≡ departure c slots_here x.outcome x.target (list_in (list_in drops i) 0))
          x = departure-exit c slots_here (exits table p.variables n) (list_in drops i) 0 one.edge (ap (λ ds. slice_get ds 0) one.only)

          outcome-is : (t : Target) → (departure c slots_here x.0.outcome t (list_in (list_in drops i) 0)).outcome ≡ x.0.outcome
          outcome-is (node k) = refl
          outcome-is end = refl
          outcome-is (end_by z) = refl

          leads : x.0.target ≡ node (suc i)
          leads = arrives-block c slots_here x.0.target (suc i) (sym (departure-arrives c slots_here x.0.outcome x.0.target (list_in (list_in drops i) 0)) ∙ ap (λ (d : Departure). d.arrival) (sym x.2) ∙ one.arrival)

          to-next : departure c slots_here x.0.outcome (node (suc i)) (list_in (list_in drops i) 0) ≡ one.edge
          to-next = ap (λ t. departure c slots_here x.0.outcome t (list_in (list_in drops i) 0)) (sym leads) ∙ sym x.2

          y : (y : Node) × (slice_get ns (suc i) ≡ Some y)
          y = exit-there i 0 n x.0 at-i x.1 (suc i) leads

          second_in : Arrival → Bool
          second_in (to_second_step q) = true
          second_in a = false

          none-again : any_pass (λ (s : Slot). nat_eq s.number (number_at c (suc i))) slots_here ≡ false
          none-again = side (any_pass (λ (s : Slot). nat_eq s.number (number_at c (suc i))) slots_here) refl (ap (λ (d : Departure). d.arrival) to-next ∙ one.arrival)
            where
              side : (t : Bool) → any_pass (λ (s : Slot). nat_eq s.number (number_at c (suc i))) slots_here ≡ t → cond t (to_second_step (suc i)) (to_block (suc i)) ≡ to_block (suc i) → any_pass (λ (s : Slot). nat_eq s.number (number_at c (suc i))) slots_here ≡ false
              side false e q = e
              side true e q = absurd (true≢false (ap second_in q))

          same : slots_here ≡ slots_around c (suc i)
          same =
              ap (λ ss. without_slots ss slots_here) (sym (ap (λ (d : Departure). d.slots) to-next ∙ one.slots))
              ∙ to-first count table processes p labels typed i (suc i) n y.0 x.0 at-i (got-IsIn (exits table p.variables n) 0 x.0 x.1) leads y.1 none-again

      edge-of : goes_onward c i (edges_of c i n (list_in drops i)) ≡ false → (j : ℕ) (d : Departure) (x : Exit) → slice_get (exits table p.variables n) j ≡ Some x → d ≡ departure c (slots_within table p.variables n.number n.form (slots_around c i)) x.outcome x.target (list_in (list_in drops i) j)
          → AreGoodFrom (λ o. exit_of table p.variables constants (st i) (the_block i n) o) (edge_code st d) (Some (label_with (facts_after table p.variables n.form d.outcome (list_in facts i)) (slots_within table p.variables n.number n.form (slots_around c i))))
      edge-of off j d x at-x e =
          subst (λ (d : Departure). AreGoodFrom (λ o. exit_of table p.variables constants (st i) (the_block i n) o) (edge_code st d) (Some (label_with (facts_after table p.variables n.form d.outcome (list_in facts i)) (slots_within table p.variables n.number n.form (slots_around c i)))))
          (sym e)
          (subst (λ o. AreGoodFrom (λ o. exit_of table p.variables constants (st i) (the_block i n) o) (edge_code st (departure c (slots_within table p.variables n.number n.form (slots_around c i)) x.outcome x.target (list_in (list_in drops i) j))) (Some (label_with (facts_after table p.variables n.form o (list_in facts i)) (slots_within table p.variables n.number n.form (slots_around c i)))))
          (sym (outcome-is x.target)) (exit-good i j n x at-i at-x off))
        where
          outcome-is : (t : Target) → (departure c (slots_within table p.variables n.number n.form (slots_around c i)) x.outcome t (list_in (list_in drops i) j)).outcome ≡ x.outcome
          outcome-is (node k) = refl
          outcome-is end = refl
          outcome-is (end_by z) = refl

      by : (t : Bool) → goes_onward c i (edges_of c i n (list_in drops i)) ≡ t → (j : ℕ) (d : Departure) → slice_get (cond t [] (edges_of c i n (list_in drops i))) j ≡ Some d
          → AreGoodFrom (λ o. exit_of table p.variables constants (st i) (the_block i n) o) (edge_code st d) (Some (label_with (facts_after table p.variables n.form d.outcome (list_in facts i)) (slots_within table p.variables n.number n.form (slots_around c i))))
      by true on j d at-d = none-not_some at-d
      by false off j d at-d =
          let x = departure-exit c (slots_within table p.variables n.number n.form (slots_around c i)) (exits table p.variables n) (list_in drops i) j d at-d in
          edge-of off j d x.0 x.1 x.2

  -- each block is sound
  pub blocks-sound : (i : ℕ) (b : CodeBlock) → slice_get blocks i ≡ Some b → IsSoundBlock count image p.variables entry blocks i b
  blocks-sound i b e = let r = of-block i b e in subst (IsSoundBlock count image p.variables entry blocks i) (sym r.2) (node-sound i r.0 r.1)

  -- and so is the edge to where the process begins
  pub entry-sound : AreGoodFrom (λ o. 0) (edge_code st entry) (Some label_at_start)
  entry-sound = by (entry_of p) refl
    where
      low-entry : (k : ℕ) → entry_of p ≡ node k → (y : Node) × (slice_get ns k ≡ Some y)
      low-entry k e =
          let low : k < length (flow_of table p).points = subst (IsThere (length (flow_of table p).points)) e (entry-there table p) in
          got-some ns k (let many = length-map (point table p.variables) ns in omega (arith, low, many))

      none-around : (k : ℕ) (y : Node) → entry_of p ≡ node k → slice_get ns k ≡ Some y → slots_around c k ≡ []
      none-around k y e at = first ns refl
        where
          place : Target → ℕ
          place (node i) = i
          place t = 0

          zero-is : k ≡ 0
          zero-is = ap place (sym e ∙ entry-first count table processes p labels facts entry_drops drops typed y k at)

          first : (xs : List Node) → ns ≡ xs → slots_around c k ≡ []
          first [] q = none-not_some (sym (ap (λ xs. slice_get xs k) q) ∙ at)
          first (n ∷ more) q = ap (slots_around c) zero-is ∙ first-bare count table processes p labels typed n more q

      no-exception : (e : ℕ) → entry_of p ≡ end_by e → ⊥
      no-exception e q = block-leads (λ t. (e : ℕ) → t ≡ end_by e → ⊥) p.body 0 end (λ k a b e q. cc) (λ e q. cc) e q

      by : (t : Target) → entry_of p ≡ t → AreGoodFrom (λ o. 0) (edge_code st (departure c [] ok t entry_drops)) (Some label_at_start)
      by end e = end-good table p.variables constants count (processes_of modules) (λ o. 0) Lands (init (0 ∷ []) ∷ []) []
      by (end_by z) e = absurd (no-exception z e)
      by (node k) e =
          let y = low-entry k e in
          let excess : IsExcess held_at_start (labels k) entry_drops = subst (λ t. IsExcess held_at_start (label_at labels t) entry_drops) e dropped.begins in
          all-dropped table p.variables constants count (processes_of modules) (λ o. 0) Lands held_at_start (labels k) entry_drops excess (λ q h. start-there count table processes p labels typed formed exact (init q) h) (init (0 ∷ []) ∷ []) [] (arrive_by st (to_block k) ∷ [])
          (start-listed count table processes p labels typed formed exact) (start-closed count table processes p labels typed formed exact)
          (λ gs iff. jump-good table p.variables constants count (processes_of modules) (λ o. 0) Lands (st k) gs [] (
            label_with (list_in facts k) (slots_around c k),
            first-listed k y.0 y.1 (led-entry count image p.variables entry blocks k (ap (λ t. (departure c [] ok t entry_drops).arrival) e)),
            arrives-there held_at_start k y.0 (init (0 ∷ []) ∷ []) gs entry_drops [] (slots_around c k) y.1 excess (λ q h. start-there count table processes p labels typed formed exact (init q) h) (low-start count table processes p labels typed formed exact k y.0 e y.1) (start-listed count table processes p labels typed formed exact) iff (sym (none-around k y.0 e y.1)),
          ))
