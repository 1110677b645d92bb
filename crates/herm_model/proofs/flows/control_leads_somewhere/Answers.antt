use Rattle.herm_model.proofs.NodePlaces.{entry-there, edges-there}
use Rattle.herm_model.proofs.FirstNode.{begins-first}
use Rattle.herm_model.proofs.flows.control_leads_somewhere.Goals as goal

pub returns : goal.returns
returns c = record {
  entry = entry-there;
  edges = edges-there;
  first = begins-first;
}
