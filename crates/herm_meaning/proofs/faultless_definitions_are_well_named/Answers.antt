use Rattle.herm_meaning.proofs.WellNamed.{well-named}
use Rattle.herm_meaning.proofs.Outlines.{outline-well_named}
use Rattle.herm_meaning.proofs.faultless_definitions_are_well_named.Goals as goal

pub returns : goal.returns
returns c = record { well_named = well-named; outline = outline-well_named }
