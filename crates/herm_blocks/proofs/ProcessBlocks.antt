-- The blocks in one pass over the nodes of a process are its blocks.
use Rattle.std.proofs.Common.{◌≡◌, ℕ, ◌+◌, List, [], ◌∷◌, map, length, ◌||◌, nat_eq, ◌&&◌, refl, sym, ap, ap₂, subst, ◌∙◌, arith}
use Rattle.herm_model.specs.Lists.{any_pass, IsIn}
use Rattle.herm_model.specs.Paths.{Path, Fact}
use Rattle.herm_model.specs.Types.{TypeTable}
use Rattle.herm_model.specs.Statements.{Form, Process}
use Rattle.herm_model.specs.Outcomes.{ok}
use Rattle.herm_model.specs.Targets.{Target, end}
use Rattle.herm_model.specs.ControlPaths.{Edge, Point, point, Flow}
use Rattle.herm_model.specs.FactsOfStatements.{makes, kills}
use Rattle.herm_model.specs.Nodes.{Node, process_nodes, entry_of}
use Rattle.herm_model.specs.Labels.{Labels}
use Rattle.herm_model.specs.laws.FlowLaws.{first_of}
use Rattle.herm_model.proofs.Lists.{cons-head, cons-tail, cons-not_nil, length-map, in-map, in-map_from}
use Rattle.herm_model.proofs.NodeNumbers.{process_numbers-Rise}
use Rattle.herm_forms.specs.Modules.{Span, module_of, loops_in}
use Rattle.herm_forms.specs.LeavingLoops.{is_in_loop}
use Rattle.herm_types.specs.View.{path_view}
use Rattle.herm_typed.specs.declared.statements.TypedForm.{TypedForm}
use Rattle.herm_typed.specs.View.{typed_process_view}
use Rattle.herm_translated.specs.Departures.{Departure}
use Rattle.herm_translated.specs.CodeBlocks.{CheckedModule, CodeBlock, blocks_of, entry_edge}
use Rattle.herm_translated.specs.BlockLabels.{comes_first, goes_to_first}
use Rattle.herm_translated.specs.Settled.{settled}
use Rattle.herm_flow.specs.declared.flow.Point.{Point as CodePoint}
use Rattle.herm_flow.specs.View.{point_view}
use Rattle.herm_check.specs.View.{labels_view}
use Rattle.herm_fronts.specs.declared.nodes.Found.{Found}
use Rattle.herm_fronts.specs.declared.nodes.Span.{Span as CodeSpan}
use Rattle.herm_fronts.specs.Blocks.{MarkedDeparture, marked_view}
use Rattle.herm_fronts.specs.Forms.{form_seen}
use Rattle.herm_fronts.specs.Walked.{Nodes as Walk, span_view, found_view, no_nodes, walk_block}
use Rattle.herm_fronts.proofs.WalkedNodes.{block-walked, block-loops}
use Rattle.herm_blocks.specs.declared.block.Block.{Block}
use Rattle.herm_blocks.specs.declared.checked.CheckedProcess.{CheckedProcess}
use Rattle.herm_blocks.specs.CheckedProcesses.{held_lists, checked_view, HasFlow}
use Rattle.herm_blocks.specs.Marked.{marked_departure_of, marked_of}
use Rattle.herm_blocks.specs.Scopes.{is_within, list_at, departure_by, SeenNode, MarkedBlock, ways_by, led_by, settled_by, blocks_by}
use Rattle.herm_blocks.specs.Seen.{seen_nodes, drops_view, marked_block}
use Rattle.herm_blocks.specs.Views.{block_view, IsMarked}
use Rattle.herm_blocks.proofs.LeadingOn.{LeadOn, process-leads}
use Rattle.herm_blocks.proofs.OpenSlots.{rise-from}
use Rattle.herm_blocks.proofs.ScopedBlocks.{seen_as, departure-same, ways-same, ways_from, led-same, settled-same, settled-marks}

pub mapped-twice : {X Y Z : Type 0} (g : Y → Z) (f : X → Y) (xs : List X) → map g (map f xs) ≡ map (λ x. g (f x)) xs
mapped-twice g f [] = refl
mapped-twice g f (x ∷ xs) = ap (g (f x) ∷◌) (mapped-twice g f xs)

-- the nodes as contracts see them

abbrev a_seen : ℕ → Form → List Edge → SeenNode
a_seen number form edges = record { number = number; form = form; edges = edges }

seen-same : (types : TypeTable) (p : Process) (fs : List TypedForm) (ps : List CodePoint) (ns : List Node) → map form_seen fs ≡ map (λ (n : Node). n.form) ns → map point_view ps ≡ map (point types p.variables) ns
    → seen_nodes fs ps ≡ map (seen_as types p.variables) ns
seen-same types p [] ps [] e f = refl
seen-same types p [] ps (n ∷ ns) e f = cons-not_nil _ _ (sym e)
seen-same types p (g ∷ fs) ps [] e f = cons-not_nil _ _ e
seen-same types p (g ∷ fs) [] (n ∷ ns) e f = cons-not_nil _ _ (sym f)
seen-same types p (g ∷ fs) (x ∷ ps) (n ∷ ns) e f =
    ap₂ (λ s ss. s ∷ ss)
    (ap₂ (λ (k : Point) form. a_seen k.number form k.edges) (cons-head f) (cons-head e))
    (seen-same types p fs ps ns (cons-tail e) (cons-tail f))

numbers-same : (types : TypeTable) (p : Process) (ps : List CodePoint) (ns : List Node) → map point_view ps ≡ map (point types p.variables) ns → map (λ x. x.stmt.0) ps ≡ map (λ (n : Node). n.number) ns
numbers-same types p [] [] f = refl
numbers-same types p [] (n ∷ ns) f = cons-not_nil _ _ (sym f)
numbers-same types p (x ∷ ps) [] f = cons-not_nil _ _ f
numbers-same types p (x ∷ ps) (n ∷ ns) f = ap₂ (λ s ss. s ∷ ss) (ap (λ (k : Point). k.number) (cons-head f)) (numbers-same types p ps ns (cons-tail f))

abbrev a_checked : TypeTable → Process → Labels → List (List Fact) → List Path → List (List (List Path)) → CheckedModule
a_checked types p labels facts entry_drops drops = record { code = module_of types p labels; facts = facts; entry_drops = entry_drops; drops = drops }

-- the blocks of the nodes of a process

module _ (types : TypeTable) (p : Process) (labels : Labels) (lengths : List ℕ) (facts : List (List Fact)) (entry_drops : List Path) (drops : List (List (List Path)))
    (same : (k l : ℕ) → is_within lengths k l ≡ any_pass (λ (s : Span). nat_eq s.first l && is_in_loop k s) (loops_in p.body 1)) where
  ways-are : ways_by types p.variables (map (λ (n : Node). n.number) (process_nodes p)) lengths (map (seen_as types p.variables) (process_nodes p)) 0 [] (map (seen_as types p.variables) (process_nodes p)) drops
      ≡ ways_from (module_of types p labels) 0 (process_nodes p) drops
  ways-are =
      ways-same (module_of types p labels) lengths same 0 0 [] [] (process_nodes p) drops drops refl refl tt
      (rise-from 0 (process_nodes p) (λ m h. omega arith) (process_numbers-Rise p)) (λ k h. refl) (λ k. ap (λ i. list_at drops i) (let e : 0 + k ≡ k = omega arith in e))

  led-is : (entry : Departure) (k : ℕ) → led_by entry (ways_from (module_of types p labels) 0 (process_nodes p) drops) k ≡ comes_first entry (blocks_of (a_checked types p labels facts entry_drops drops)) k
  led-is entry k = ap (λ b. goes_to_first k entry.arrival || b) (led-same (module_of types p labels) k 0 (process_nodes p) facts drops)

  -- the entry's edge, and the blocks, of a process that begins there
  pub entry-is : (begins : Target) → begins ≡ entry_of p → departure_by (map (λ (n : Node). n.number) (process_nodes p)) lengths [] ok begins entry_drops ≡ entry_edge (a_checked types p labels facts entry_drops drops)
  entry-is begins e =
      ap (λ t. departure_by (map (λ (n : Node). n.number) (process_nodes p)) lengths [] ok t entry_drops) e
      ∙ departure-same (module_of types p labels) lengths same [] ok (entry_of p) entry_drops

  pub blocks-are : LeadOn (process_nodes p)
      → blocks_by types p.variables (map (λ (n : Node). n.number) (process_nodes p)) lengths (entry_edge (a_checked types p labels facts entry_drops drops)) (map (seen_as types p.variables) (process_nodes p)) facts drops
      ≡ map (marked_of types p.variables) (blocks_of (settled (a_checked types p labels facts entry_drops drops)))
  blocks-are lead =
      ap (λ ways. settled_by (led_by (entry_edge (a_checked types p labels facts entry_drops drops)) ways) facts 0 [] ways) ways-are
      ∙ (settled-marks _ (comes_first (entry_edge (a_checked types p labels facts entry_drops drops)) (blocks_of (a_checked types p labels facts entry_drops drops))) facts 0 [] (ways_from (module_of types p labels) 0 (process_nodes p) drops) (λ k within. led-is (entry_edge (a_checked types p labels facts entry_drops drops)) k)
      ∙ settled-same (module_of types p labels) (comes_first (entry_edge (a_checked types p labels facts entry_drops drops)) (blocks_of (a_checked types p labels facts entry_drops drops))) 0 [] (process_nodes p) facts facts drops lead (λ k. ap (λ i. list_at facts i) (let e : 0 + k ≡ k = omega arith in e)))

-- what marked blocks say

abbrev plain_block : MarkedBlock → CodeBlock
plain_block b = record { statement = b.statement; form = b.form; facts = b.facts; slots = b.slots; onward = b.onward; departures = map (λ (d : MarkedDeparture). d.departure) b.departures }

abbrev a_block : CodeBlock → List Departure → CodeBlock
a_block b ds = record { statement = b.statement; form = b.form; facts = b.facts; slots = b.slots; onward = b.onward; departures = ds }

module _ (types : TypeTable) (variables : List ℕ) where
  unmarked : (form : Form) (ds : List Departure) → map (λ (d : MarkedDeparture). d.departure) (map (marked_departure_of types variables form) ds) ≡ ds
  unmarked form [] = refl
  unmarked form (d ∷ ds) = ap (d ∷◌) (unmarked form ds)

  plain-marked : (bs : List CodeBlock) → map plain_block (map (marked_of types variables) bs) ≡ bs
  plain-marked [] = refl
  plain-marked (b ∷ bs) = ap₂ (λ x xs. x ∷ xs) (ap (a_block b) (unmarked b.form b.departures)) (plain-marked bs)

  plain-seen : (xs : List Block) → map plain_block (map marked_block xs) ≡ map block_view xs
  plain-seen [] = refl
  plain-seen (x ∷ xs) = ap₂ (λ y ys. y ∷ ys) (ap (a_block (block_view x)) (mapped-twice (λ (d : MarkedDeparture). d.departure) marked_view x.departures.items)) (plain-seen xs)

  pub blocks-plain : (xs : List Block) (bs : List CodeBlock) → map marked_block xs ≡ map (marked_of types variables) bs → map block_view xs ≡ bs
  blocks-plain xs bs e = sym (plain-seen xs) ∙ (ap (map plain_block) e ∙ plain-marked bs)

  abbrev HasMarks : Form → MarkedDeparture → Type 0
  HasMarks form d = (d.makes ≡ makes types variables form d.departure.outcome) × (d.kills ≡ kills types variables form d.departure.outcome)

  marks-of : (form : Form) (ds : List Departure) (d : MarkedDeparture) → IsIn d (map (marked_departure_of types variables form) ds) → HasMarks form d
  marks-of form ds d member =
      let m = in-map_from (marked_departure_of types variables form) d ds member in
      subst (HasMarks form) (sym m.2) (refl, refl)

  abbrev HasAllMarks : MarkedBlock → Type 0
  HasAllMarks b = (d : MarkedDeparture) → IsIn d b.departures → HasMarks b.form d

  all-marked : (xs : List Block) (bs : List CodeBlock) (x : Block) → map marked_block xs ≡ map (marked_of types variables) bs → IsIn x xs → HasAllMarks (marked_block x)
  all-marked xs bs x e member =
      let m = in-map_from (marked_of types variables) (marked_block x) bs (subst (IsIn (marked_block x)) e (in-map marked_block x xs member)) in
      subst HasAllMarks (sym m.2) (λ d within. marks-of m.0.form m.0.departures d within)

  pub blocks-marked : (xs : List Block) (bs : List CodeBlock) (x : Block) → map marked_block xs ≡ map (marked_of types variables) bs → IsIn x xs → IsMarked types variables x
  blocks-marked xs bs x e member = record {
    made = λ d within. (all-marked xs bs x e member (marked_view d) (in-map marked_view d x.departures.items within)).0;
    killed = λ d within. (all-marked xs bs x e member (marked_view d) (in-map marked_view d x.departures.items within)).1;
  }

-- the blocks of a checked process

module _ (types : TypeTable) (c : CheckedProcess) (found : Found) (flow : HasFlow types c) (walked : found_view found ≡ walk_block (typed_process_view c.process.now).body no_nodes) where
  points-same : map point_view c.flow.now.points.items ≡ map (point types (typed_process_view c.process.now).variables) (process_nodes (typed_process_view c.process.now))
  points-same = ap (λ (f : Flow). f.points) flow

  begins-same : first_of (length c.flow.now.points.items) ≡ entry_of (typed_process_view c.process.now)
  begins-same = ap (λ (f : Flow). f.entry) flow

  forms-same : map (λ f. form_seen f.now) found.forms.items ≡ map (λ (n : Node). n.form) (process_nodes (typed_process_view c.process.now))
  forms-same = ap (λ (w : Walk). w.forms) walked ∙ block-walked (typed_process_view c.process.now).body no_nodes 1 0 (record { behind = end; catches = []; exit = end })

  -- there are as many forms as points
  pub forms-many : length found.forms.items ≡ length c.flow.now.points.items
  forms-many =
      sym (length-map (λ f. form_seen f.now) found.forms.items) ∙ (ap length forms-same ∙ (length-map (λ (n : Node). n.form) (process_nodes (typed_process_view c.process.now))
      ∙ (sym (length-map (point types (typed_process_view c.process.now).variables) (process_nodes (typed_process_view c.process.now))) ∙ (sym (ap length points-same) ∙ length-map point_view c.flow.now.points.items))))

  module _ (lengths : List ℕ) (spans : (k l : ℕ) → is_within lengths k l ≡ any_pass (λ (s : Span). nat_eq s.first l && is_in_loop k s) (map span_view found.loops.items)) where
    within-same : (k l : ℕ) → is_within lengths k l ≡ any_pass (λ (s : Span). nat_eq s.first l && is_in_loop k s) (loops_in (typed_process_view c.process.now).body 1)
    within-same k l =
        spans k l
        ∙ (ap (λ (w : Walk). any_pass (λ (s : Span). nat_eq s.first l && is_in_loop k s) w.loops) walked
        ∙ block-loops (λ (s : Span). nat_eq s.first l && is_in_loop k s) (typed_process_view c.process.now).body no_nodes 1 refl)

    pub entry-found : departure_by (map (λ x. x.stmt.0) c.flow.now.points.items) lengths [] ok (first_of (length c.flow.now.points.items)) (map path_view c.coercions.now.entry.items) ≡ entry_edge (checked_view types c)
    entry-found =
        ap (λ numbers. departure_by numbers lengths [] ok (first_of (length c.flow.now.points.items)) (map path_view c.coercions.now.entry.items)) (numbers-same types (typed_process_view c.process.now) c.flow.now.points.items (process_nodes (typed_process_view c.process.now)) points-same)
        ∙ entry-is types (typed_process_view c.process.now) (labels_view c.labels.now) lengths (held_lists types (typed_process_view c.process.now).variables c.labels.now.at.items) (map path_view c.coercions.now.entry.items) (map (λ v. drops_view v.items) c.coercions.now.at.items) within-same (first_of (length c.flow.now.points.items)) begins-same

    pub blocks-found : (entry : Departure) → entry ≡ entry_edge (checked_view types c)
        → blocks_by types (typed_process_view c.process.now).variables (map (λ x. x.stmt.0) c.flow.now.points.items) lengths entry (seen_nodes (map (λ f. f.now) found.forms.items) c.flow.now.points.items) (held_lists types (typed_process_view c.process.now).variables c.labels.now.at.items) (map (λ v. drops_view v.items) c.coercions.now.at.items)
        ≡ map (marked_of types (typed_process_view c.process.now).variables) (blocks_of (settled (checked_view types c)))
    blocks-found entry is =
        ap (λ entry. blocks_by types (typed_process_view c.process.now).variables (map (λ x. x.stmt.0) c.flow.now.points.items) lengths entry (seen_nodes (map (λ f. f.now) found.forms.items) c.flow.now.points.items) (held_lists types (typed_process_view c.process.now).variables c.labels.now.at.items) (map (λ v. drops_view v.items) c.coercions.now.at.items)) is
        ∙ (ap₂ (λ numbers nodes. blocks_by types (typed_process_view c.process.now).variables numbers lengths (entry_edge (checked_view types c)) nodes (held_lists types (typed_process_view c.process.now).variables c.labels.now.at.items) (map (λ v. drops_view v.items) c.coercions.now.at.items))
        (numbers-same types (typed_process_view c.process.now) c.flow.now.points.items (process_nodes (typed_process_view c.process.now)) points-same)
        (seen-same types (typed_process_view c.process.now) (map (λ f. f.now) found.forms.items) c.flow.now.points.items (process_nodes (typed_process_view c.process.now)) (mapped-twice form_seen (λ f. f.now) found.forms.items ∙ forms-same) points-same)
        ∙ blocks-are types (typed_process_view c.process.now) (labels_view c.labels.now) lengths (held_lists types (typed_process_view c.process.now).variables c.labels.now.at.items) (map path_view c.coercions.now.entry.items) (map (λ v. drops_view v.items) c.coercions.now.at.items) within-same (process-leads c.process.now))

  -- the same of what the code has
  module _ (lengths L N V : List ℕ) (loops : List CodeSpan) (nodes : List SeenNode) (bs : List MarkedBlock) (begins : Departure)
      (is_L : L ≡ lengths) (is_N : N ≡ map (λ x. x.stmt.0) c.flow.now.points.items) (is_V : V ≡ (typed_process_view c.process.now).variables) (is_loops : loops ≡ found.loops.items)
      (spans : (k l : ℕ) → is_within lengths k l ≡ any_pass (λ (s : Span). nat_eq s.first l && is_in_loop k s) (map span_view loops))
      (begins_is : begins ≡ departure_by N L [] ok (first_of (length c.flow.now.points.items)) (map path_view c.coercions.now.entry.items)) where
    spans-found : (k l : ℕ) → is_within lengths k l ≡ any_pass (λ (s : Span). nat_eq s.first l && is_in_loop k s) (map span_view found.loops.items)
    spans-found k l = spans k l ∙ ap (λ xs. any_pass (λ (s : Span). nat_eq s.first l && is_in_loop k s) (map span_view xs)) is_loops

    pub entry-joined : begins ≡ entry_edge (checked_view types c)
    entry-joined =
        begins_is
        ∙ (ap₂ (λ numbers lengths. departure_by numbers lengths [] ok (first_of (length c.flow.now.points.items)) (map path_view c.coercions.now.entry.items)) is_N is_L
        ∙ entry-found lengths spans-found)

    pub marked-joined : nodes ≡ seen_nodes (map (λ f. f.now) found.forms.items) c.flow.now.points.items
        → bs ≡ blocks_by types V N L begins nodes (held_lists types V c.labels.now.at.items) (map (λ v. drops_view v.items) c.coercions.now.at.items)
        → bs ≡ map (marked_of types (typed_process_view c.process.now).variables) (blocks_of (settled (checked_view types c)))
    marked-joined is_nodes e =
        e
        ∙ (ap₂ (λ v ns. blocks_by types v N L begins ns (held_lists types v c.labels.now.at.items) (map (λ v. drops_view v.items) c.coercions.now.at.items)) is_V is_nodes
        ∙ (ap₂ (λ numbers lengths. blocks_by types (typed_process_view c.process.now).variables numbers lengths begins (seen_nodes (map (λ f. f.now) found.forms.items) c.flow.now.points.items) (held_lists types (typed_process_view c.process.now).variables c.labels.now.at.items) (map (λ v. drops_view v.items) c.coercions.now.at.items)) is_N is_L
        ∙ blocks-found lengths spans-found begins entry-joined))
