use Rattle.herm_model.proofs.DeterminedRefusals.{refusals-determined, accepted-held}
use Rattle.herm_model.proofs.flows.refusals_are_determined.Goals as goal

pub returns : goal.returns
returns c = record {
  determined = refusals-determined;
  accepted = accepted-held;
}
