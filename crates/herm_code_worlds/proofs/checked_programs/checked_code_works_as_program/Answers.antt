use Rattle.herm_code_worlds.proofs.ProgramWorlds.{checked-code-works, programs-have-worlds}
use Rattle.herm_code_worlds.proofs.checked_programs.checked_code_works_as_program.Goals as goal

pub returns : goal.returns
returns c = record { each = checked-code-works; there = programs-have-worlds }
