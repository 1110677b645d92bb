-- What edges and blocks of the generator stand for.
use Rattle.std.specs.Prelude.{ℕ, List, map, get_or}
use Rattle.herm_base.specs.declared.numbers.ExcNo.{ExcNo}
use Rattle.herm_model.specs.Paths as paths
use Rattle.herm_model.specs.Outcomes.{Outcome, raised}
use Rattle.herm_instructions.specs.Images.{Landing}
use Rattle.herm_types.specs.View.{path_view, fact_view}
use Rattle.herm_typed.specs.View.{outcome_view}
use Rattle.herm_translated.specs.Departures as model
use Rattle.herm_translated.specs.Layout.{edge_at}
use Rattle.herm_fronts.specs.declared.departures.Arrival.{Arrival}
use Rattle.herm_fronts.specs.declared.departures.Arrival.TheVariants.{Block, SecondStep, End, EndBy}
use Rattle.herm_fronts.specs.declared.departures.Departure.{Departure}
use Rattle.herm_fronts.specs.declared.departures.Exits.{Exits}
use Rattle.herm_fronts.specs.declared.departures.Starts.{Starts}

abbrev pub arrival_view : Arrival → model.Arrival
arrival_view (Block n) = model.to_block n
arrival_view (SecondStep n) = model.to_second_step n
arrival_view End = model.to_end
arrival_view (EndBy e) = model.to_end_by e.0

abbrev pub departure_view : Departure → model.Departure
departure_view d = record { outcome = outcome_view d.outcome; drops = map path_view d.drops.now; slots = d.slots.items; arrival = arrival_view d.arrival }

-- an edge with the facts that it makes and the paths that it takes away
pub record MarkedDeparture : Type 0 where
  pub departure : model.Departure
  pub makes : List paths.Fact
  pub kills : List paths.Path

abbrev pub marked_view : Departure → MarkedDeparture
marked_view d = record { departure = departure_view d; makes = map fact_view d.makes.now; kills = map path_view d.kills.now }

-- the index at which the edge of an outcome begins
abbrev pub exits_view : Exits → Outcome → ℕ
exits_view e o = edge_at e.first (map departure_view e.edges.now) o

abbrev pub landings_view : List (ExcNo × ℕ) → List Landing
landings_view ls = map (λ l. record { exception = (l.0).0; index = l.1 }) ls

-- where an exception lands
abbrev pub landing_to : (exit_at : Outcome → ℕ) → (exception : ℕ) → Landing
landing_to exit_at e = record { exception = e; index = exit_at (raised e) }

-- the index at which a block begins, which for none is behind the last
abbrev pub starts_view : Starts → ℕ → ℕ
starts_view s n = get_or s.at.items n s.end
