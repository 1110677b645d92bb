use Rattle.herm_translated.proofs.Handing.{expressions-push, fronts-hand_on, edges-hand_on}
use Rattle.herm_translated.proofs.layout.labels_are_handed_on.Goals as goal

pub returns : goal.returns
returns c = record { expressions = expressions-push; fronts = fronts-hand_on; edges = edges-hand_on }
