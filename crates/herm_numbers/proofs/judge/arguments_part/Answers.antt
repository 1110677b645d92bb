use Rattle.std.proofs.Common.{◌∙◌}
use Rattle.herm_numbers.proofs.Repeated.{no_arguments}
use Rattle.herm_numbers.proofs.judge.arguments_part.Goals as goal

pub returns : goal.returns
returns c = record { part = no_arguments c.arguments.rest.now c.arguments.left.now c.in_default.ensures.cases ∙ c.arguments.invariant }
