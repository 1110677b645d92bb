use Rattle.herm_simulation.proofs.AlongEdges.{edges-do_arrivals}
use Rattle.herm_simulation.proofs.edges.edges_do_arrivals.Goals as goal

pub returns : goal.returns
returns c = record { edges = edges-do_arrivals }
