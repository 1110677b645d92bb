use Rattle.herm_source.proofs.instance.SourceLaws.{source-knows-places}
use Rattle.herm_source.proofs.machine.places_are_known.Goals as goal

pub returns : goal.returns
returns c = record { places = source-knows-places }
