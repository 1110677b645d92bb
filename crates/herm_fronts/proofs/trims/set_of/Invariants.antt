use Rattle.std.proofs.Common.{◌≡◌, ◌≤◌, length, map, drop}
use Rattle.herm_model.specs.Lists.{any_pass}
use Rattle.herm_model.specs.Paths.{Fact, same_fact}
use Rattle.herm_types.specs.View.{fact_view}
use Rattle.herm_typestate.specs.Facts.{has_fact}
use Rattle.herm_fronts.proofs.trims.set_of.Given as goal

-- The set has the facts behind what is left.
abbrev pub invariant-facts : goal.invariant-facts
invariant-facts l = record {
  within : l.left ≤ length l.facts;
  facts : (f : Fact) → has_fact l.state f ≡ any_pass (same_fact f) (map fact_view (drop l.left l.facts));
}

abbrev pub decreases-facts : goal.decreases-facts
decreases-facts l = l.left
