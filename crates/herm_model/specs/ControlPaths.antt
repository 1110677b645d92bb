-- Control: the flow of a process, its control paths, and which facts are held on them.
use Rattle.std.specs.Prelude.{◌≡◌, ℕ, List, [], ◌∷◌, map, find, Bool, true, false, cond, nat_eq, Option, Some, None, slice_get, option_and_then}
use Rattle.herm_model.specs.Lists.{any_pass}
use Rattle.herm_model.specs.Paths.{Path, Fact, init, same_fact, path_of, is_at_or_below}
use Rattle.herm_model.specs.Types.{TypeTable}
use Rattle.herm_model.specs.Statements.{Form, Process}
use Rattle.herm_model.specs.Outcomes.{Outcome, same_outcome}
use Rattle.herm_model.specs.Nodes.{Node, process_nodes, entry_of}
use Rattle.herm_model.specs.Exits.{Exit, exits}
use Rattle.herm_model.specs.Targets.{Target, node, end, end_by}
use Rattle.herm_model.specs.FactsOfStatements.{needs, makes, kills}

-- an outcome of a statement: the facts that it makes, the paths that it takes away, and where it leads
pub record Edge : Type 0 where
  pub outcome : Outcome
  pub makes : List Fact
  pub kills : List Path
  pub target : Target

-- a statement by its number: the facts that it needs, and its outcomes in their order
pub record Point : Type 0 where
  pub number : ℕ
  pub needs : List Fact
  pub edges : List Edge

-- where a process begins, and its statements in the order of their numbers
pub record Flow : Type 0 where
  pub entry : Target
  pub points : List Point

abbrev pub edge : TypeTable → List ℕ → Form → Exit → Edge
edge types variables form e = record {
  outcome = e.outcome;
  makes = makes types variables form e.outcome;
  kills = kills types variables form e.outcome;
  target = e.target;
}

abbrev pub point : TypeTable → List ℕ → Node → Point
point types variables n = record {
  number = n.number;
  needs = needs types variables n.form;
  edges = map (edge types variables n.form) (exits types variables n);
}

-- The flow of a process: its nodes, with what the statement table says of each. Language reference, "Control".
abbrev pub flow_of : TypeTable → Process → Flow
flow_of types p = record { entry = entry_of p; points = map (point types p.variables) (process_nodes p) }

-- one hop of a control path: a statement's number, and one of its outcomes
pub record Hop : Type 0 where
  pub number : ℕ
  pub outcome : Outcome

-- the edge of a point that a hop takes: it names this point's number, and the edge's outcome
abbrev pub edge_at : Hop → Option Point → Option Edge
edge_at hop None = None
edge_at hop (Some p) = cond (nat_eq p.number hop.number) (find (λ (e : Edge). same_outcome e.outcome hop.outcome) p.edges) None

abbrev pub edge_from : Flow → Target → Hop → Option Edge
edge_from flow (node i) hop = edge_at hop (slice_get flow.points i)
edge_from flow end hop = None
edge_from flow (end_by e) hop = None

-- Whether a fact is held behind an edge: where the edge makes it, it is; else where the edge takes it away, it is
-- not; else it is held exactly where it was before. Language reference, "Held".
abbrev pub held_after_edge : Edge → Fact → Bool → Bool
held_after_edge e f held =
    cond (any_pass (same_fact f) e.makes) true (cond (any_pass (λ p. is_at_or_below p (path_of f)) e.kills) false held)

-- where a control path has led to, and whether a fact is held there
pub record Standing : Type 0 where
  pub here : Target
  pub held : Bool

-- Along hops from here, with a fact held here or not: each hop leaves the statement that the hop before it led to.
-- Language reference, "Control paths".
abbrev pub walk : Flow → Fact → List Hop → Target → Bool → Option Standing
walk flow f [] here held = Some (record { here = here; held = held })
walk flow f (hop ∷ hops) here held =
    option_and_then (λ (e : Edge). walk flow f hops e.target (held_after_edge e f held)) (edge_from flow here hop)

-- A process starts with a value at its port, which is variable 0, and no other fact. Language reference, "Held".
abbrev pub held_at_start : Fact → Bool
held_at_start f = same_fact f (init (0 ∷ []))

-- The hops are a control path: they lead from where the body begins to there, and the fact is held on it or not.
-- The empty path leads to where the body begins. Language reference, "Control paths".
abbrev pub IsControlPath : Flow → Fact → List Hop → Target → Bool → Type 0
IsControlPath flow f hops there held =
    walk flow f hops flow.entry (held_at_start f) ≡ Some (record { here = there; held = held })

-- a control path leads there; which fact is carried along makes no difference
abbrev pub IsReached : Flow → Target → Type 0
IsReached flow there = (hops : List Hop) × (held : Bool) × IsControlPath flow (init (0 ∷ [])) hops there held

-- The fact is held on every control path to the point at this place. Language reference, "Held".
abbrev pub Holds : Flow → Fact → ℕ → Type 0
Holds flow f i = (hops : List Hop) (held : Bool) → IsControlPath flow f hops (node i) held → held ≡ true

-- These hops are a control path to the point on which the fact is not held.
abbrev pub LacksBy : Flow → Fact → ℕ → List Hop → Type 0
LacksBy flow f i hops = IsControlPath flow f hops (node i) false

-- There is a control path to the point on which the fact is not held.
abbrev pub Lacks : Flow → Fact → ℕ → Type 0
Lacks flow f i = (hops : List Hop) × LacksBy flow f i hops
