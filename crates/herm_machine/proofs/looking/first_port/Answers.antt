use Rattle.std.proofs.Common.{Some, ap, ◌∙◌}
use Rattle.herm_machine.proofs.looking.first_port.Goals as goal

pub returns-in-Some-clause-none : goal.returns-in-Some-clause-none
returns-in-Some-clause-none c some = let found = c.first_of.ensures.none some in (found.0, c.in-Some.is ∙ ap Some found.1)
