use Rattle.herm_simulation.proofs.TranslatedModules.{checked-modules_translated}
use Rattle.herm_simulation.proofs.checked_programs.checked_programs_are_translated.Goals as goal

pub returns : goal.returns
returns c = record { translated = checked-modules_translated }
