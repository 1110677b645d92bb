use Rattle.herm_code_machine.proofs.CountedSteps.{nameless-puts_aside, puts-aside}
use Rattle.herm_code_machine.proofs.machine.what_is_put_aside_counts.Goals as goal

pub returns : goal.returns
returns c = record { aside = puts-aside; nameless = nameless-puts_aside }
