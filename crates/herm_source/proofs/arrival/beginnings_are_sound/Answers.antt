use Rattle.herm_source.proofs.BeginningsSound.{beginnings-sound}
use Rattle.herm_source.proofs.arrival.beginnings_are_sound.Goals as goal

pub returns : goal.returns
returns c = record { begin = beginnings-sound }
