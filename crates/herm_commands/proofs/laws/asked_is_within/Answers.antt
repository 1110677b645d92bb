use Rattle.herm_commands.proofs.Within.{asked_within}
use Rattle.herm_commands.proofs.laws.asked_is_within.Goals as goal

pub returns : goal.returns
returns c = record {
  within = record { asked_for = asked_within };
}
