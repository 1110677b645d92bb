use Rattle.herm_translated.proofs.EdgesLabelled.{first-steps_labelled, edges-are_labelled}
use Rattle.herm_translated.proofs.layout.edges_are_labelled.Goals as goal

pub returns : goal.returns
returns c = record { first_steps = first-steps_labelled; edges = edges-are_labelled }
