-- Statements of laws on nodes, flows, needs, makes and labels.
use Rattle.std.specs.Prelude.{◌≡◌, ◌↔◌, ℕ, zero, suc, ◌<◌, ◌≤◌, List, [], ◌∷◌, ◌++◌, map, filter, length, slice_get, Bool, not, true, Some, ⊤}
use Rattle.herm_model.specs.Lists.{IsIn}
use Rattle.herm_model.specs.Paths.{Fact}
use Rattle.herm_model.specs.Types.{TypeTable}
use Rattle.herm_model.specs.Facts.{prefixes, IsClosed}
use Rattle.herm_model.specs.Statements.{Form, Leave, Statement, simple, choosing, repeating, leaving, trying, Block, no_statements, statement, Blocks, no_blocks, block, Handlers, no_handlers, handler, numbers_of_block, Process, Differ, IsWellFormedBlock}
use Rattle.herm_model.specs.Outcomes.{Outcome, outcomes}
use Rattle.herm_model.specs.Nodes.{Node, process_nodes}
use Rattle.herm_model.specs.Exits.{Exit, exits}
use Rattle.herm_model.specs.Targets.{Target, node, end, end_by}
use Rattle.herm_model.specs.FactsOfStatements.{needs, makes}
use Rattle.herm_model.specs.ControlPaths.{Edge, Point, Flow, flow_of, Hop, walk, IsControlPath, IsReached, Holds}
use Rattle.herm_model.specs.MissingFacts.{Demand, demands, Refusal, AreRefusals, IsAccepted}
use Rattle.herm_model.specs.Labels.{Labels, AreInductive, AreExact}

-- each number is below all that come after it
abbrev pub Rise : List ℕ → Type 0
Rise [] = ⊤
Rise (n ∷ ns) = ((m : ℕ) → IsIn m ns → n < m) × Rise ns

-- Numbers of nodes rise, so they differ, and lie among the numbers that the body takes.
abbrev pub NumbersRise : Type 0
NumbersRise = (p : Process) → Rise (map (λ (n : Node). n.number) (process_nodes p))

abbrev pub NumbersAreInRange : Type 0
NumbersAreInRange = (p : Process) (n : Node) → IsIn n (process_nodes p) → (1 ≤ n.number) × (n.number ≤ numbers_of_block p.body)

-- the forms of a part of the text, in order; `try` has none
abbrev mutual
  pub forms_of : Statement → List Form
  forms_of (simple form) = form ∷ []
  forms_of (choosing form blocks) = form ∷ forms_of_blocks blocks
  forms_of (repeating form body) = form ∷ forms_of_block body
  forms_of leaving = Leave ∷ []
  forms_of (trying body handlers) = forms_of_block body ++ forms_of_handlers handlers

  pub forms_of_block : Block → List Form
  forms_of_block no_statements = []
  forms_of_block (statement s rest) = forms_of s ++ forms_of_block rest

  pub forms_of_blocks : Blocks → List Form
  forms_of_blocks no_blocks = []
  forms_of_blocks (block b rest) = forms_of_block b ++ forms_of_blocks rest

  pub forms_of_handlers : Handlers → List Form
  forms_of_handlers no_handlers = []
  forms_of_handlers (handler e b rest) = forms_of_block b ++ forms_of_handlers rest

-- The nodes are the statements other than `try`, in the order of the text.
abbrev pub NodesAreStatements : Type 0
NodesAreStatements = (p : Process) → map (λ (n : Node). n.form) (process_nodes p) ≡ forms_of_block p.body

-- Each outcome of a form has its exit, in the order of the form's outcomes, and no other exit is there.
abbrev pub ExitsAreOutcomes : Type 0
ExitsAreOutcomes = (types : TypeTable) (p : Process) (n : Node) → IsWellFormedBlock p.body → IsIn n (process_nodes p) → map (λ (e : Exit). e.outcome) (exits types p.variables n) ≡ outcomes types p.variables n.form

-- a place among so many, or an end
abbrev pub IsThere : ℕ → Target → Type 0
IsThere count (node i) = i < count
IsThere count end = ⊤
IsThere count (end_by e) = ⊤

-- A process begins and each edge leads at a place that is there, or at an end.
abbrev pub BeginsThere : Type 0
BeginsThere = (types : TypeTable) (p : Process) → IsThere (length (flow_of types p).points) (flow_of types p).entry

abbrev pub EdgesLeadThere : Type 0
EdgesLeadThere = (types : TypeTable) (p : Process) (point : Point) (e : Edge) → IsIn point (flow_of types p).points → IsIn e point.edges → IsThere (length (flow_of types p).points) e.target

-- Needs and makes are without repeats and contain the prefixes of their facts.
abbrev pub NeedsDiffer : Type 0
NeedsDiffer = (types : TypeTable) (variables : List ℕ) (form : Form) → Differ (needs types variables form)

abbrev pub NeedsAreClosed : Type 0
NeedsAreClosed = (types : TypeTable) (variables : List ℕ) (form : Form) → IsClosed types variables (λ f. IsIn f (needs types variables form))

abbrev pub MakesAreClosed : Type 0
MakesAreClosed = (types : TypeTable) (variables : List ℕ) (form : Form) (o : Outcome) → IsClosed types variables (λ f. IsIn f (makes types variables form o))

-- Labels that flow are held on every path.
abbrev pub FlowingLabelsHold : Type 0
FlowingLabelsHold = (flow : Flow) (labels : Labels) → AreInductive flow labels → (i : ℕ) (f : Fact) → labels i f ≡ true → Holds flow f i

-- which place control has led to does not depend on the fact that is carried along
abbrev pub PathsAreCommon : Type 0
PathsAreCommon = (flow : Flow) (f g : Fact) (hops : List Hop) (here there : Target) (before after other : Bool) → walk flow f hops here before ≡ Some (record { here = there; held = after }) → (last : Bool) × (walk flow g hops here other ≡ Some (record { here = there; held = last }))

-- What is held on a control path is closed: with a fact the facts before it. So is what holds at a statement.
abbrev pub HeldFactsAreClosed : Type 0
HeldFactsAreClosed = (types : TypeTable) (p : Process) (hops : List Hop) (there : Target) (f g : Fact) → IsIn g (prefixes types p.variables f) → IsControlPath (flow_of types p) f hops there true → IsControlPath (flow_of types p) g hops there true

abbrev pub HoldingFactsAreClosed : Type 0
HoldingFactsAreClosed = (types : TypeTable) (p : Process) (i : ℕ) → IsClosed types p.variables (λ f. Holds (flow_of types p) f i)

-- no outcome comes twice at a point
abbrev pub EdgesDiffer : Flow → Type 0
EdgesDiffer flow = (p : Point) → IsIn p flow.points → Differ (map (λ (e : Edge). e.outcome) p.edges)

-- Each statement of a well-formed body has different outcomes.
abbrev pub OutcomesDiffer : Type 0
OutcomesDiffer = (types : TypeTable) (p : Process) → IsWellFormedBlock p.body → EdgesDiffer (flow_of types p)

-- the targets to which edges lead from the entry
pub data IsLedTo (flow : Flow) : Target → Type 0 where
  begins : IsLedTo flow flow.entry
  goes_on : (i : ℕ) (p : Point) (e : Edge) → IsLedTo flow (node i) → slice_get flow.points i ≡ Some p → IsIn e p.edges → IsLedTo flow e.target

-- Control paths lead to these targets and to no others.
abbrev pub PathsFollowEdges : Type 0
PathsFollowEdges = (flow : Flow) → EdgesDiffer flow → (t : Target) → IsReached flow t ↔ IsLedTo flow t

-- the first of so many places, or the end where there is none
abbrev pub first_of : ℕ → Target
first_of zero = end
first_of (suc n) = node 0

-- Where every node is reached, a process begins at the first one.
abbrev pub BeginsFirst : Type 0
BeginsFirst = (types : TypeTable) (p : Process) → ((i : ℕ) → i < length (flow_of types p).points → IsReached (flow_of types p) (node i)) → (flow_of types p).entry ≡ first_of (length (flow_of types p).points)

-- what a refusal says beside its path
abbrev pub Said : Type 0
Said = ℕ × Fact

abbrev pub said : List Refusal → List Said
said refusals = map (λ (r : Refusal). (r.number, r.fact)) refusals

-- the demands whose fact is not in the label of their point
abbrev pub not_in_labels : Labels → List Demand → List Said
not_in_labels labels ds = map (λ (d : Demand). (d.number, d.fact)) (filter (λ (d : Demand). not (labels d.at d.fact)) ds)

-- What is missing is determined, but for the paths.
abbrev pub RefusalsAreDetermined : Type 0
RefusalsAreDetermined = (flow : Flow) (ds : List Demand) (refusals others : List Refusal) → AreRefusals flow ds refusals → AreRefusals flow ds others → said refusals ≡ said others

-- A process is accepted exactly where each fact that a statement needs holds there.
abbrev pub AcceptedMeansHeld : Type 0
AcceptedMeansHeld = (types : TypeTable) (p : Process) → IsAccepted types p ↔ ((d : Demand) → IsIn d (demands (flow_of types p)) → Holds (flow_of types p) d.fact d.at)

-- Exact labels give the list of refusals by looking the needs up, where a path leads to each point.
abbrev pub ExactLabelsRefuse : Type 0
ExactLabelsRefuse = (flow : Flow) (labels : Labels) (refusals : List Refusal) → AreExact flow labels → ((i : ℕ) → i < length flow.points → IsReached flow (node i)) → AreRefusals flow (demands flow) refusals → said refusals ≡ not_in_labels labels (demands flow)
