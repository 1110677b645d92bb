use Rattle.std.specs.Prelude.{IsTrue}
use Rattle.herm_source.proofs.placed.PlacedSteps.{local-steps-keep-places}
use Rattle.herm_source.proofs.places.local_steps_keep_places.Goals as goal

pub returns : goal.returns
returns c = record { places = λ is. local-steps-keep-places (λ t k. IsTrue (is t k)) }
