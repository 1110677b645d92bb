-- What missing facts stand for.
use Rattle.std.specs.Prelude.{◌≡◌, ℕ, ◌<◌, ◌++◌, List, [], false, map, length, Some, slice_get}
use Rattle.std.specs.declared.vec.Vec.{Vec}
use Rattle.std.specs.declared.alloc.Global.{Global}
use Rattle.herm_model.specs.Lists.{IsIn, map_or, list_of}
use Rattle.herm_model.specs.Paths.{Fact, init}
use Rattle.herm_model.specs.ControlPaths.{Point, Flow}
use Rattle.herm_model.specs.MissingFacts.{Demand, Refusal}
use Rattle.herm_types.specs.declared.fact.Fact.{Fact as FactHere}
use Rattle.herm_types.specs.View.{fact_view}
use Rattle.herm_facts.specs.declared.fact_numbers.FactNumbers.{FactNumbers}
use Rattle.herm_facts.specs.FactNumbers.{number_of, AreFacts}
use Rattle.herm_typestate.specs.declared.labels.Labels.{Labels}
use Rattle.herm_typestate.specs.declared.state.State.{State}
use Rattle.herm_typestate.specs.Facts.{has_fact}
use Rattle.herm_check.specs.Trails.{trail}
use Rattle.herm_check.specs.Shortest.{AreReported}
use Rattle.herm_check.specs.declared.search.Search.{Search}
use Rattle.herm_check.specs.declared.missing.MissingAt.{MissingAt}
use Rattle.herm_check.specs.declared.missing.Missing.{Missing}
use Rattle.herm_check.specs.declared.missing.Lost.{Lost}

-- A missing fact: the number of its statement, the fact with its number among those that are missing somewhere, and the hops that lead to its place in its search.
abbrev pub refusal_of : List FactHere → List Search → MissingAt → Refusal
refusal_of lost ss m = record {
  number = m.stmt.0;
  fact = map_or (init []) fact_view (slice_get lost m.fact);
  path = list_of (λ (s : Search). trail s.visits.items m.place) (slice_get ss m.search);
}

abbrev pub refusals_of : Missing → List Refusal
refusals_of m = map (refusal_of m.lost.items m.searches.items) m.facts.items

-- the fact and the search of each missing fact are there
abbrev pub ArePlaced : Missing → Type 0
ArePlaced m = (f : MissingAt) → IsIn f m.facts.items → (f.fact < length m.lost.items) × (f.search < length m.searches.items)

-- the fact has a number
abbrev pub IsNoted : FactNumbers → Fact → Type 0
IsNoted numbers f = (n : ℕ) × (number_of numbers f ≡ Some n)

-- facts keep their numbers
abbrev pub AreKept : FactNumbers → FactNumbers → Type 0
AreKept old new = (f : Fact) (n : ℕ) → number_of old f ≡ Some n → number_of new f ≡ Some n

-- each fact that a point needs and its label lacks has a number
abbrev pub AreNoted : Flow → Labels → FactNumbers → Type 0
AreNoted flow labels numbers = (i : ℕ) (p : Point) (s : State) (f : Fact) → slice_get flow.points i ≡ Some p → slice_get labels.at.items i ≡ Some s → IsIn f p.needs → has_fact s f ≡ false → IsNoted numbers f

-- What is missing of a list of demands: each has its fact and its search, and a shortest path.
pub record AreMissing (flow : Flow) (ds : List Demand) (m : Missing) : Type 0 where
  pub placed : ArePlaced m
  pub reported : AreReported flow ds (refusals_of m)

-- the fact that the point at a place needs
abbrev pub demand : ℕ → ℕ → Fact → Demand
demand i number f = record { at = i; number = number; fact = f }

-- the missing facts with the searches for them, where these are the facts by their numbers
abbrev pub missing_of : Lost → Vec FactHere Global → Vec MissingAt Global → Missing
missing_of lost facts missing = record { lost = facts; searches = lost.searches; facts = missing }

-- what is missing of more demands was appended, whatever was missing before
abbrev pub IsAdded : Flow → Lost → List Demand → Vec MissingAt Global → Vec MissingAt Global → Type 0
IsAdded flow lost more old new = (ds : List Demand) (facts : Vec FactHere Global) → AreFacts lost.numbers (map fact_view facts.items) → AreMissing flow ds (missing_of lost facts old) → AreMissing flow (ds ++ more) (missing_of lost facts new)
