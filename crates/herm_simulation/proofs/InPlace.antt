-- A process beside its code: where the front of each node and each of its edges stand.
use Rattle.std.proofs.Common.{◌≡◌, inl, inr, true, false, cond, true≢false, ℕ, zero, suc, ◌+◌, ◌<◌, List, [], ◌∷◌, ◌++◌, map, Bool, Some, None, option_map, option_and_then, slice_get, refl, sym, ap, ap₂, subst, ◌∙◌, arith}
use Rattle.std.specs.Prelude.{flat_map, find, nat_eq}
use Rattle.std.proofs.lemmas.Bool.{eq-eqb, eqb-true}
use Rattle.herm_model.specs.Lists.{IsIn}
use Rattle.herm_model.specs.Paths.{Path, Fact}
use Rattle.herm_model.specs.Types.{TypeTable}
use Rattle.herm_model.specs.Exits.{Exit, exits}
use Rattle.herm_model.specs.Expressions.{Literal}
use Rattle.herm_model.specs.Labels.{Labels}
use Rattle.herm_model.specs.Nodes.{Node, process_nodes}
use Rattle.herm_model.specs.Outcomes.{Outcome, raised, outcomes}
use Rattle.herm_model.specs.Statements.{Process}
use Rattle.herm_model.specs.TypedStatements.{IsTypedForm}
use Rattle.herm_model.specs.Targets.{Target, node, end, end_by}
use Rattle.herm_model.proofs.Lists.{cons-not_nil, cons-head, and-both}
use Rattle.herm_model.proofs.FactTests.{got-IsIn}
use Rattle.herm_model.proofs.Options.{none-not_some, some-injective}
use Rattle.herm_forms.specs.Modules.{Module, module_of}
use Rattle.herm_source.proofs.sound.OneModule.{IsGoodModule}
use Rattle.herm_instructions.specs.Effects.{exceptions_of}
use Rattle.herm_instructions.specs.Images.{Landing, CodeModule, Image}
use Rattle.herm_instructions.specs.Instructions.{Instruction, Step}
use Rattle.herm_instructions.specs.Labels.{Slot}
use Rattle.herm_instructions.specs.Places.{label_at}
use Rattle.herm_code_machine.specs.ReadyCode.{ReadyCode}
use Rattle.herm_code_machine.specs.laws.GoodImageLaws.{IsGoodOver, labelled_code}
use Rattle.herm_translated.specs.Constants.{literals_in}
use Rattle.herm_translated.specs.BlockLabels.{label_with}
use Rattle.herm_translated.specs.CodeBlocks.{CheckedModule, CodeBlock, block_of, blocks_from, blocks_of, entry_edge, slots_within, slots_around, departure, departures_of, edges_of, goes_onward, arrival_at, slots_left, first_list, further_lists}
use Rattle.herm_translated.specs.Departures.{to_block, Departure, edge_code, edge_length}
use Rattle.herm_translated.specs.Fronts.{front}
use Rattle.herm_translated.specs.Layout.{landings_by, edge_at, edges_at, exit_of, block_code}
use Rattle.herm_translated.specs.Translated.{laid_out}
use Rattle.herm_translated.specs.laws.CheckedBlocks.{checked, HasLinkedBlocks}
use Rattle.herm_translated.specs.laws.LayoutLaws.{start, IsInBlock}
use Rattle.herm_translated.specs.laws.LabelsAtEdges.{AreReached, AreTypedBlocks}
use Rattle.herm_translated.proofs.Addresses.{outcome_of, first-here, laid-out, edges-there}
use Rattle.herm_translated.proofs.Joined.{got-within}
use Rattle.herm_translated.proofs.Lengths.{block-long, edge-long}
use Rattle.herm_translated.proofs.EdgesLabelled.{first-steps_labelled, onward-ends}
use Rattle.herm_translated.proofs.PlainEdges.{IsOnePlain, one-plain}
use Rattle.herm_translated.proofs.LinkedProcess.{arrives-block, block-place, linked-blocks}
use Rattle.herm_simulation.specs.Checks.{list_at, IsRight}
use Rattle.herm_simulation.specs.FrontsInPlace.{LandFrom, IsFrontAt}
use Rattle.herm_simulation.specs.Leading.{StandFrom}
use Rattle.herm_simulation.proofs.Leading.{stand-left, stand-rest}
use Rattle.herm_simulation.proofs.Rows.{land-left, land-rest}

-- A process of a checked program, what its check gives, and its code in a good image.
pub record Coded : Type 0 where
  pub exceptions : ℕ
  pub image : Image
  pub processes : List Process
  pub process : Process
  pub labels : Labels
  pub facts : List (List Fact)
  pub entry_drops : List Path
  pub drops : List (List (List Path))
  pub sound : IsGoodModule exceptions image.types processes process labels
  pub right : IsRight (checked image.types process labels facts entry_drops drops)
  pub known : (n : Node) → IsIn n (process_nodes process) → (l : Literal) → IsIn l (literals_in n.form) → IsIn l image.constants
  pub good : IsGoodOver exceptions image
  pub reached : AreReached image.types process.variables (entry_edge (checked image.types process labels facts entry_drops drops)) (blocks_of (checked image.types process labels facts entry_drops drops))
  pub in_image : IsIn (laid_out image.types process.variables image.constants (entry_edge (checked image.types process labels facts entry_drops drops)) (blocks_of (checked image.types process labels facts entry_drops drops))) image.modules

-- the landing of an exception
land-found : (exit_at : Outcome → ℕ) (es : List ℕ) (e : ℕ) → IsIn e es → option_map (λ (l : Landing). l.index) (find (λ (l : Landing). nat_eq l.exception e) (map (λ e. record { exception = e; index = exit_at (raised e) }) es)) ≡ Some (exit_at (raised e))
land-found exit_at [] e h = absurd h
land-found exit_at (x ∷ es) e h = by (nat_eq x e) refl h (land-found exit_at es e)
  where
    rest : List Landing
    rest = map (λ e. record { exception = e; index = exit_at (raised e) }) es

    by : (b : Bool) → nat_eq x e ≡ b → IsIn e (x ∷ es) → (IsIn e es → option_map (λ (l : Landing). l.index) (find (λ (l : Landing). nat_eq l.exception e) rest) ≡ Some (exit_at (raised e)))
        → option_map (λ (l : Landing). l.index) (cond b (Some (record { exception = x; index = exit_at (raised x) })) (find (λ (l : Landing). nat_eq l.exception e) rest)) ≡ Some (exit_at (raised e))
    by true q h again = ap (λ n. Some (exit_at (raised n))) (eqb-true x e q)
    by false q (inl same) again = absurd (true≢false (sym (eq-eqb x e (sym same)) ∙ q))
    by false q (inr h) again = again h

module _ (k : Coded) where
  abbrev pub types : TypeTable
  types = k.image.types

  abbrev pub variables : List ℕ
  variables = k.process.variables

  abbrev pub constants : List Literal
  constants = k.image.constants

  abbrev pub source_code : Module
  source_code = module_of types k.process k.labels

  abbrev pub checked_code : CheckedModule
  checked_code = checked types k.process k.labels k.facts k.entry_drops k.drops

  abbrev pub blocks : List CodeBlock
  blocks = blocks_of checked_code

  abbrev pub entry : Departure
  entry = entry_edge checked_code

  abbrev pub code : CodeModule
  code = laid_out types variables constants entry blocks

  abbrev pub ready : ReadyCode
  ready = labelled_code k.image code

  abbrev pub nodes : List Node
  nodes = process_nodes k.process

  abbrev pub begins_at : ℕ → ℕ
  begins_at = start types variables constants entry blocks

  -- the block of a node, the slots of its edges, and where its edges begin
  abbrev pub block : (place : ℕ) → Node → CodeBlock
  block i n = block_of source_code i n (list_at k.facts i) (list_at k.drops i)

  abbrev pub slots_of : (place : ℕ) → Node → List Slot
  slots_of i n = slots_within types variables n.number n.form (slots_around source_code i)

  abbrev pub exit : (place : ℕ) → Node → Outcome → ℕ
  exit i n = exit_of types variables constants (begins_at i) (block i n)

  pub linked : HasLinkedBlocks types k.process checked_code
  linked = linked-blocks k.exceptions types k.processes k.process k.labels k.facts k.entry_drops k.drops k.sound.typed

  typed-blocks : AreTypedBlocks types variables constants k.exceptions k.processes blocks
  typed-blocks i b e =
      let r = block-place k.exceptions types k.processes k.process k.labels k.facts k.entry_drops k.drops k.sound.typed 0 nodes k.facts k.drops i b e in
      let in-n = got-IsIn nodes i r.0 r.3 in
      record {
        typed = subst (λ (b : CodeBlock). IsTypedForm types variables k.exceptions k.processes b.form) (sym r.4) (k.sound.typed.typed r.0 in-n);
        known = λ l m. k.known r.0 in-n l (subst (λ (b : CodeBlock). IsIn l (literals_in b.form)) r.4 m);
        outcomes_in_order = linked.outcomes_in_order b (got-IsIn blocks i b e);
        goes_on = linked.goes_on b (got-IsIn blocks i b e);
        outcomes_differ = linked.outcomes_differ b (got-IsIn blocks i b e);
      }

  -- the label at the first step of a block
  pub first-labelled : (i : ℕ) (b : CodeBlock) → slice_get blocks i ≡ Some b → label_at types constants code (begins_at i) ≡ Some (label_with b.facts b.slots)
  first-labelled i b e = first-steps_labelled k.exceptions types variables constants k.processes entry blocks k.sound.well k.reached typed-blocks i b e

  -- the block of the node at a place
  first-list : {X : Type 0} (lists : List (List X)) → first_list lists ≡ list_at lists 0
  first-list [] = refl
  first-list (xs ∷ lists) = refl

  further-list : {X : Type 0} (lists : List (List X)) (i : ℕ) → list_at (further_lists lists) i ≡ list_at lists (suc i)
  further-list [] i = refl
  further-list (xs ∷ lists) i = refl

  among-blocks : (j : ℕ) (ns : List Node) (facts : List (List Fact)) (drops : List (List (List Path))) (i : ℕ) (n : Node) → slice_get ns i ≡ Some n
      → slice_get (blocks_from source_code j ns facts drops) i ≡ Some (block_of source_code (j + i) n (list_at facts i) (list_at drops i))
  among-blocks j [] facts drops i n e = none-not_some e
  among-blocks j (m ∷ ns) facts drops zero n e =
      let same : j ≡ j + 0 = omega arith in
      ap₂ (λ (m : Node) i. Some (block_of source_code i m (first_list facts) (first_list drops))) (some-injective e) same
      ∙ ap₂ (λ fs ds. Some (block_of source_code (j + 0) n fs ds)) (first-list facts) (first-list drops)
  among-blocks j (m ∷ ns) facts drops (suc i) n e =
      let same : suc j + i ≡ j + suc i = omega arith in
      among-blocks (suc j) ns (further_lists facts) (further_lists drops) i n e
      ∙ ap (λ q. Some (block_of source_code q n (list_at (further_lists facts) i) (list_at (further_lists drops) i))) same
      ∙ ap₂ (λ fs ds. Some (block_of source_code (j + suc i) n fs ds)) (further-list facts i) (further-list drops i)

  pub block-here : (i : ℕ) (n : Node) → slice_get nodes i ≡ Some n → slice_get blocks i ≡ Some (block i n)
  block-here i n e = let same : 0 + i ≡ i = omega arith in among-blocks 0 nodes k.facts k.drops i n e ∙ ap (λ q. Some (block_of source_code q n (list_at k.facts i) (list_at k.drops i))) same

  no-more : (j : ℕ) (ns : List Node) (facts : List (List Fact)) (drops : List (List (List Path))) (i : ℕ) → slice_get ns i ≡ None → slice_get (blocks_from source_code j ns facts drops) i ≡ None
  no-more j [] facts drops i e = refl
  no-more j (m ∷ ns) facts drops zero e = none-not_some (sym e)
  no-more j (m ∷ ns) facts drops (suc i) e = no-more (suc j) ns (further_lists facts) (further_lists drops) i e

  pub no-block : (i : ℕ) → slice_get nodes i ≡ None → slice_get blocks i ≡ None
  no-block i e = no-more 0 nodes k.facts k.drops i e

  -- the edge of an exit
  pub departure-outcome : (slots : List Slot) (o : Outcome) (t : Target) (drops : List Path) → (departure source_code slots o t drops).outcome ≡ o
  departure-outcome slots o (node i) drops = refl
  departure-outcome slots o end drops = refl
  departure-outcome slots o (end_by e) drops = refl

  among-departures : (slots : List Slot) (xs : List Exit) (drops : List (List Path)) (j : ℕ) (x : Exit) → slice_get xs j ≡ Some x → slice_get (departures_of source_code slots xs drops) j ≡ Some (departure source_code slots x.outcome x.target (list_at drops j))
  among-departures slots [] drops j x e = none-not_some e
  among-departures slots (y ∷ xs) drops zero x e = ap₂ (λ (x : Exit) ds. Some (departure source_code slots x.outcome x.target ds)) (some-injective e) (first-list drops)
  among-departures slots (y ∷ xs) drops (suc j) x e = among-departures slots xs (further_lists drops) j x e ∙ ap (λ ds. Some (departure source_code slots x.outcome x.target ds)) (further-list drops j)

  module _ (i : ℕ) (n : Node) (at : slice_get nodes i ≡ Some n) where
    here : slice_get blocks i ≡ Some (block i n)
    here = block-here i n at

    pub in-blocks : IsIn (block i n) blocks
    in-blocks = got-IsIn blocks i (block i n) here

    abbrev lines : List Instruction
    lines = block_code types variables constants begins_at (begins_at i) (block i n)

    within : (q : ℕ) (x : Instruction) → slice_get lines q ≡ Some x → IsInBlock types variables constants entry blocks (begins_at i + q) i q (block i n)
    within q x e = (here, (let w = got-within lines q x e in let l = block-long types variables constants begins_at (begins_at i) (block i n) in omega (arith, w, l)), refl)

    -- the whole block stands at its index
    pub block-stands : StandFrom ready (begins_at i) lines
    block-stands q x e = (laid-out types variables constants entry blocks).blocks_behind (begins_at i + q) i q (block i n) (within q x e) ∙ e

    block-lands : LandFrom ready (exit i n) (begins_at i) lines
    block-lands q x e y raises =
        let landings = (laid-out types variables constants entry blocks).landings_behind (begins_at i + q) i q (block i n) (within q x e) ∙ ap (option_map (landings_by types variables (exit i n))) e in
        ap (λ ls. option_map (λ (l : Landing). l.index) (option_and_then (find (λ (l : Landing). nat_eq l.exception y)) ls)) landings
        ∙ land-found (exit i n) (exceptions_of types variables x) y raises

    abbrev pub front_here : List Instruction
    front_here = front types variables constants (list_at k.facts i) n.number (suc (begins_at i)) (exit i n) n.form

    abbrev edges_code : List Instruction
    edges_code = flat_map (edge_code begins_at) (block i n).departures

    same-front : lines ≡ Step ∷ (front_here ++ edges_code)
    same-front = let same : begins_at i + 1 ≡ suc (begins_at i) = omega arith in ap (λ q. Step ∷ (front types variables constants (list_at k.facts i) n.number q (exit i n) n.form ++ edges_code)) same

    -- the edges of the node, and whether its block goes on to the next one
    abbrev pub the_edges : List Departure
    the_edges = edges_of source_code i n (list_at k.drops i)

    abbrev pub is_onward : Bool
    is_onward = goes_onward source_code i the_edges

    outcomes-here : is_onward ≡ false → map outcome_of (block i n).departures ≡ outcomes types variables n.form
    outcomes-here off = linked.outcomes_in_order (block i n) in-blocks off

    first-behind : (ds : List Departure) (o : Outcome) (rest : List Outcome) → map outcome_of ds ≡ o ∷ rest → (q : ℕ) → edge_at q ds o ≡ q
    first-behind [] o rest e q = cons-not_nil o rest (sym e)
    first-behind (d ∷ ds) o rest e q = subst (λ o. edge_at q (d ∷ ds) o ≡ q) (cons-head e) (first-here q d ds)

    first-exit : (o : Outcome) (rest : List Outcome) → outcomes types variables n.form ≡ o ∷ rest → edge_at (edges_at types variables constants (begins_at i) (block i n)) (block i n).departures o ≡ edges_at types variables constants (begins_at i) (block i n)
    first-exit o rest e = by is_onward refl
      where
        by : (t : Bool) → is_onward ≡ t → edge_at (edges_at types variables constants (begins_at i) (block i n)) (block i n).departures o ≡ edges_at types variables constants (begins_at i) (block i n)
        by true on = ap (λ t. edge_at (edges_at types variables constants (begins_at i) (block i n)) (cond t [] the_edges) o) on
        by false off = first-behind (block i n).departures o rest (outcomes-here off ∙ e) (edges_at types variables constants (begins_at i) (block i n))

    -- the front of a node stands behind its first step
    pub front-stands : IsFrontAt ready (list_at k.facts i) n.number n.form (suc (begins_at i)) (exit i n)
    front-stands = record {
      stands = stand-left ready (suc (begins_at i)) front_here edges_code (stand-rest ready (begins_at i) Step (front_here ++ edges_code) (subst (StandFrom ready (begins_at i)) same-front block-stands));
      lands = land-left ready (exit i n) (suc (begins_at i)) front_here edges_code (land-rest ready (exit i n) (begins_at i) Step (front_here ++ edges_code) (subst (LandFrom ready (exit i n) (begins_at i)) same-front block-lands));
      behind = λ o rest e. first-exit o rest e ∙ omega arith;
      names = linked.linked.names (block i n) in-blocks;
      known = k.known n (got-IsIn nodes i n at);
    }

    -- the edge of an exit
    edge-at : (j : ℕ) (x : Exit) → slice_get (exits types variables n) j ≡ Some x → slice_get the_edges j ≡ Some (departure source_code (slots_of i n) x.outcome x.target (list_at (list_at k.drops i) j))
    edge-at j x e = among-departures (slots_of i n) (exits types variables n) (list_at k.drops i) j x e

    pub departure-at : is_onward ≡ false → (j : ℕ) (x : Exit) → slice_get (exits types variables n) j ≡ Some x → slice_get (block i n).departures j ≡ Some (departure source_code (slots_of i n) x.outcome x.target (list_at (list_at k.drops i) j))
    departure-at off j x e = ap (λ t. slice_get (cond t [] the_edges) j) off ∙ edge-at j x e

    -- an edge stands where its outcome leads
    pub edge-stands : is_onward ≡ false → (j : ℕ) (x : Exit) → slice_get (exits types variables n) j ≡ Some x
        → StandFrom ready (exit i n x.outcome) (edge_code begins_at (departure source_code (slots_of i n) x.outcome x.target (list_at (list_at k.drops i) j)))
    edge-stands off j x at-j q y e =
        let d = departure source_code (slots_of i n) x.outcome x.target (list_at (list_at k.drops i) j) in
        let o = departure-outcome (slots_of i n) x.outcome x.target (list_at (list_at k.drops i) j) in
        let there : slice_get (block i n).departures j ≡ Some d = departure-at off j x at-j in
        let low : q < edge_length d = (let w = got-within (edge_code begins_at d) q y e in let l = edge-long begins_at d in omega (arith, w, l)) in
        ap (λ o. slice_get code.code (exit i n o + q)) (sym o)
        ∙ edges-there types variables constants entry blocks i j q (block i n) d here there (linked.outcomes_differ (block i n) in-blocks) low
        ∙ e

    -- Where the block goes on, its only exit leads to the next node, and nothing is dropped.
    pub record GoesOn (j : ℕ) (x : Exit) : Type 0 where
      pub leads : x.target ≡ node (suc i)
      pub arrival : arrival_at source_code (slots_of i n) (node (suc i)) ≡ to_block (suc i)
      pub drops : list_at (list_at k.drops i) j ≡ []
      pub slots : slots_left source_code (slots_of i n) (node (suc i)) ≡ []
      pub next : (c : CodeBlock) × (slice_get blocks (suc i) ≡ Some c)
      pub ends : (o : Outcome) → exit i n o ≡ begins_at (suc i)

    only-one : (ds : List Departure) (e d : Departure) (j : ℕ) → ds ≡ e ∷ [] → slice_get ds j ≡ Some d → d ≡ e
    only-one ds e d j only got = side j (ap (λ ds. slice_get ds j) (sym only) ∙ got)
      where
        side : (j : ℕ) → slice_get (e ∷ []) j ≡ Some d → d ≡ e
        side zero g = sym (some-injective g)
        side (suc j) g = none-not_some g

    pub goes-on : is_onward ≡ true → (j : ℕ) (x : Exit) → slice_get (exits types variables n) j ≡ Some x → GoesOn j x
    goes-on on j x at-j = record {
      leads = leads;
      arrival = ap (λ (d : Departure). d.arrival) to-next ∙ one.arrival;
      drops = ap (λ (d : Departure). d.drops) to-next ∙ one.drops;
      slots = ap (λ (d : Departure). d.slots) to-next ∙ one.slots;
      next = linked.linked.onward i (block i n) here on;
      ends = λ o.
          ap (λ t. edge_at (edges_at types variables constants (begins_at i) (block i n)) (cond t [] the_edges) o) on
          ∙ sym (onward-ends types variables constants (edge_length entry) blocks i (block i n) here (linked.goes_on (block i n) in-blocks on).0);
    }
      where
        one : IsOnePlain (suc i) the_edges
        one = one-plain (suc i) the_edges (and-both _ _ on).0

        is-edge : departure source_code (slots_of i n) x.outcome x.target (list_at (list_at k.drops i) j) ≡ one.edge
        is-edge = only-one the_edges one.edge (departure source_code (slots_of i n) x.outcome x.target (list_at (list_at k.drops i) j)) j one.only (edge-at j x at-j)

        arrives : (t : Target) → (departure source_code (slots_of i n) x.outcome t (list_at (list_at k.drops i) j)).arrival ≡ arrival_at source_code (slots_of i n) t
        arrives (node q) = refl
        arrives end = refl
        arrives (end_by e) = refl

        leads : x.target ≡ node (suc i)
        leads = arrives-block source_code (slots_of i n) x.target (suc i) (sym (arrives x.target) ∙ ap (λ (d : Departure). d.arrival) is-edge ∙ one.arrival)

        to-next : departure source_code (slots_of i n) x.outcome (node (suc i)) (list_at (list_at k.drops i) j) ≡ one.edge
        to-next = ap (λ t. departure source_code (slots_of i n) x.outcome t (list_at (list_at k.drops i) j)) (sym leads) ∙ is-edge
