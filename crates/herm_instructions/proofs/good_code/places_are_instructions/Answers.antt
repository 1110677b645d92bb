use Rattle.herm_instructions.proofs.LabelsOfCode.{instructions-have_places, places-are_instructions}
use Rattle.herm_instructions.proofs.good_code.places_are_instructions.Goals as goal

pub returns : goal.returns
returns c = record { instructions = instructions-have_places; places = places-are_instructions }
