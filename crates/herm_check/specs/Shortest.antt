-- Refusals with control paths that none is shorter than.
use Rattle.std.specs.Prelude.{ℕ, ◌*◌, ◌≤◌, List, [], ◌∷◌, length, ⊤}
use Rattle.herm_model.specs.Lists.{IsIn}
use Rattle.herm_model.specs.Paths.{Fact}
use Rattle.herm_model.specs.ControlPaths.{Flow, Hop, Holds, LacksBy}
use Rattle.herm_model.specs.MissingFacts.{Demand, demands, Refusal, AreRefusals}

-- The hops are a control path to the point on which the fact is not held, and none is shorter. A point is passed at most twice.
pub record IsShortest (flow : Flow) (f : Fact) (i : ℕ) (hops : List Hop) : Type 0 where
  pub lacks : LacksBy flow f i hops
  pub least : (others : List Hop) → LacksBy flow f i others → length hops ≤ length others
  pub few : length hops ≤ 2 * length flow.points

-- What is reported of a list of demands, with a shortest path each.
pub data AreReported (flow : Flow) : List Demand → List Refusal → Type 0 where
  none : AreReported flow [] []
  missing : (d : Demand) (ds : List Demand) (hops : List Hop) (rs : List Refusal) → IsShortest flow d.fact d.at hops → AreReported flow ds rs → AreReported flow (d ∷ ds) (record { number = d.number; fact = d.fact; path = hops } ∷ rs)
  holds : (d : Demand) (ds : List Demand) (rs : List Refusal) → Holds flow d.fact d.at → AreReported flow ds rs → AreReported flow (d ∷ ds) rs

-- as many refusals, and no path of the first list is longer than the one at its place in the other
abbrev pub AreNoLonger : List Refusal → List Refusal → Type 0
AreNoLonger [] [] = ⊤
AreNoLonger [] (o ∷ os) = ⊥
AreNoLonger (r ∷ rs) [] = ⊥
AreNoLonger (r ∷ rs) (o ∷ os) = (length r.path ≤ length o.path) × AreNoLonger rs os

-- The refusals of a flow, none of which has a shorter path in any other list of its refusals.
pub record AreShortest (flow : Flow) (rs : List Refusal) : Type 0 where
  pub refusals : AreRefusals flow (demands flow) rs
  pub least : (others : List Refusal) → AreRefusals flow (demands flow) others → AreNoLonger rs others
  pub few : (r : Refusal) → IsIn r rs → length r.path ≤ 2 * length flow.points
