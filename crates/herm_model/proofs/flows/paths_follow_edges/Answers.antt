use Rattle.herm_model.proofs.Walks.{walk-common}
use Rattle.herm_model.proofs.Reached.{reached-led}
use Rattle.herm_model.proofs.flows.paths_follow_edges.Goals as goal

pub returns : goal.returns
returns c = record {
  common = walk-common;
  reached = reached-led;
}
