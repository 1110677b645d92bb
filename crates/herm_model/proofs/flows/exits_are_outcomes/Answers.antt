use Rattle.herm_model.proofs.NodeExits.{exits-outcomes}
use Rattle.herm_model.proofs.DifferentOutcomes.{process-EdgesDiffer}
use Rattle.herm_model.proofs.flows.exits_are_outcomes.Goals as goal

pub returns : goal.returns
returns c = record {
  exits = exits-outcomes;
  differ = process-EdgesDiffer;
}
