-- A flow without its edges to ends, and without edges that others of their point cover. No control path to a statement takes an edge to an end; and where one takes an edge that is covered, another takes one that covers it, and holds no more behind it.
use Rattle.std.specs.Prelude.{◌≡◌, List, [], ◌∷◌, Bool, true, false}
use Rattle.herm_model.specs.Lists.{IsIn}
use Rattle.herm_model.specs.Paths.{Fact}
use Rattle.herm_model.specs.Targets.{Target, node, end, end_by}
use Rattle.herm_model.specs.ControlPaths.{Edge, Point, Flow, held_after_edge}

abbrev pub is_node : Target → Bool
is_node (node i) = true
is_node end = false
is_node (end_by e) = false

-- the edge leads to a statement
abbrev pub leads_on : Edge → Bool
leads_on e = is_node e.target

-- The two lead to the same place by the same outcome, and the same is held behind them.
pub record IsSameEdge (d e : Edge) : Type 0 where
  pub outcome : d.outcome ≡ e.outcome
  pub target : d.target ≡ e.target
  pub held : (f : Fact) (held : Bool) → held_after_edge d f held ≡ held_after_edge e f held

-- edges that are the same as some of these, in their order
pub data ArePicked : List Edge → List Edge → Type 0 where
  none : ArePicked [] []
  picked : (d e : Edge) (left all : List Edge) → IsSameEdge d e → ArePicked left all → ArePicked (d ∷ left) (e ∷ all)
  passed : (e : Edge) (left all : List Edge) → ArePicked left all → ArePicked left (e ∷ all)

-- One of these leads where the edge leads; and each fact that is not held behind the edge is not held behind one of those that do, where it was held before both or before neither.
pub record IsCovered (left : List Edge) (e : Edge) : Type 0 where
  pub leads : (d : Edge) × IsIn d left × (d.target ≡ e.target)
  pub lost : (f : Fact) (held : Bool) → held_after_edge e f held ≡ false → (d : Edge) × IsIn d left × (d.target ≡ e.target) × (held_after_edge d f held ≡ false)

-- some of the edges, which lead on and cover each other one that does
pub record AreOnwardEdges (left all : List Edge) : Type 0 where
  pub picked : ArePicked left all
  pub on : (e : Edge) → IsIn e left → leads_on e ≡ true
  pub covered : (e : Edge) → IsIn e all → leads_on e ≡ true → IsCovered left e

-- the same statement with such edges
pub record IsOnwardPoint (p q : Point) : Type 0 where
  pub number : q.number ≡ p.number
  pub needs : q.needs ≡ p.needs
  pub edges : AreOnwardEdges q.edges p.edges

-- so it is of each
pub data AreOnward : List Point → List Point → Type 0 where
  none : AreOnward [] []
  more : (p q : Point) (ps qs : List Point) → IsOnwardPoint p q → AreOnward ps qs → AreOnward (p ∷ ps) (q ∷ qs)

pub record IsOnwardFlow (f g : Flow) : Type 0 where
  pub entry : g.entry ≡ f.entry
  pub points : AreOnward f.points g.points
