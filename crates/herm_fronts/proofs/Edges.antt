-- Edges begin no earlier than the first one.
use Rattle.std.proofs.Common.{ℕ, ◌≤◌, ◌+◌, List, [], ◌∷◌, Bool, true, false, cond, arith}
use Rattle.herm_model.specs.Outcomes.{Outcome, same_outcome}
use Rattle.herm_translated.specs.Departures.{Departure, edge_length}
use Rattle.herm_translated.specs.Layout.{edge_at}

pub edge_at_least : (at : ℕ) (ds : List Departure) (o : Outcome) → at ≤ edge_at at ds o
edge_at_least at [] o = omega arith
edge_at_least at (d ∷ ds) o = by (same_outcome d.outcome o) (edge_at_least (at + edge_length d) ds o)
  where
    by : (b : Bool) → at + edge_length d ≤ edge_at (at + edge_length d) ds o → at ≤ cond b at (edge_at (at + edge_length d) ds o)
    by true h = omega arith
    by false h = omega (arith, h)
