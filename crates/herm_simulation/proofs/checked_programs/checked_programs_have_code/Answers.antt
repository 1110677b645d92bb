use Rattle.herm_simulation.proofs.TranslatedModules.{checked-code_does, checked-have_code}
use Rattle.herm_simulation.proofs.checked_programs.checked_programs_have_code.Goals as goal

pub returns : goal.returns
returns c = record { each = checked-code_does; there = checked-have_code }
