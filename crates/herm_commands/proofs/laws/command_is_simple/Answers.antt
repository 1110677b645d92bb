use Rattle.herm_commands.proofs.Asking.{program_is_free, program_is_simple}
use Rattle.herm_commands.proofs.laws.command_is_simple.Goals as goal

pub returns : goal.returns
returns c = record {
  simple = program_is_simple;
  free = program_is_free;
}
