use Rattle.herm_model.proofs.HeldClosed.{held-closed, holds-closed}
use Rattle.herm_model.proofs.flows.held_facts_are_closed.Goals as goal

pub returns : goal.returns
returns c = record {
  path = held-closed;
  statement = holds-closed;
}
