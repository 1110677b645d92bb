-- Refusals of typestate: what is missing where, each with a path.
use Rattle.std.specs.Prelude.{ℕ, List, [], ◌∷◌, map, flat_map}
use Rattle.herm_model.specs.Lists.{numbered}
use Rattle.herm_model.specs.Paths.{Fact}
use Rattle.herm_model.specs.Types.{TypeTable}
use Rattle.herm_model.specs.Statements.{Process}
use Rattle.herm_model.specs.ControlPaths.{Point, Flow, flow_of, Hop, Holds, LacksBy}

-- a fact that the point at a place needs
pub record Demand : Type 0 where
  pub at : ℕ
  pub number : ℕ
  pub fact : Fact

-- All facts that are needed, by statement and then in the order of needs.
abbrev pub demands_at : ℕ × Point → List Demand
demands_at (i, p) = map (λ f. record { at = i; number = p.number; fact = f }) p.needs

abbrev pub demands : Flow → List Demand
demands flow = flat_map demands_at (numbered 0 flow.points)

-- a missing fact: the number of the statement that needs it, and a control path on which it is not held
pub record Refusal : Type 0 where
  pub number : ℕ
  pub fact : Fact
  pub path : List Hop

-- What is reported of a list of demands: each is reported, with a control path on which its fact is not held, or
-- its fact holds there; in the order of the demands. Language reference, "Refusals of typestate".
pub data AreRefusals (flow : Flow) : List Demand → List Refusal → Type 0 where
  none : AreRefusals flow [] []
  missing : (d : Demand) (ds : List Demand) (hops : List Hop) (rs : List Refusal) → LacksBy flow d.fact d.at hops → AreRefusals flow ds rs → AreRefusals flow (d ∷ ds) (record { number = d.number; fact = d.fact; path = hops } ∷ rs)
  holds : (d : Demand) (ds : List Demand) (rs : List Refusal) → Holds flow d.fact d.at → AreRefusals flow ds rs → AreRefusals flow (d ∷ ds) rs

-- The list of what is missing in a process. Language reference, "Refusals of typestate".
abbrev pub IsMissing : TypeTable → Process → List Refusal → Type 0
IsMissing types p refusals = AreRefusals (flow_of types p) (demands (flow_of types p)) refusals

-- A process is accepted where nothing is missing. Language reference, "Refusals of typestate".
abbrev pub IsAccepted : TypeTable → Process → Type 0
IsAccepted types p = IsMissing types p []
