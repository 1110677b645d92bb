use Rattle.herm_sound.specs.laws.SoundLaws.{IsAmong}
use Rattle.herm_sound.proofs.RoundsReachEnd.{events-are-bounded}
use Rattle.herm_sound.proofs.progress.limits_bound_events.Goals as goal

pub returns : goal.returns
returns g c = record { events = λ machine state keeps begins counts. events-are-bounded machine (IsAmong state) keeps begins counts }
