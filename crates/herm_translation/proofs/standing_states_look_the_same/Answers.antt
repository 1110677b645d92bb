use Rattle.herm_translation.proofs.Looks.{standing-looks}
use Rattle.herm_translation.proofs.standing_states_look_the_same.Goals as goal

pub returns : goal.returns
returns c = record { same = standing-looks }
