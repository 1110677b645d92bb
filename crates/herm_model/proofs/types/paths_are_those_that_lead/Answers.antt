use Rattle.herm_model.specs.Types.{full_parts, held_parts, all_parts}
use Rattle.herm_model.proofs.Steps.{full-named, held-named, all-named, steps-lead, steps-listed}
use Rattle.herm_model.proofs.types.paths_are_those_that_lead.Goals as goal

pub returns-clause-full : goal.returns-clause-full
returns-clause-full c = λ n table t w p. (steps-lead full_parts table n t p, steps-listed full_parts table full-named n t w p)

pub returns-clause-held : goal.returns-clause-held
returns-clause-held c = λ n table t w p. (steps-lead held_parts table n t p, steps-listed held_parts table held-named n t w p)

pub returns-clause-all : goal.returns-clause-all
returns-clause-all c = λ n table t w p. (steps-lead all_parts table n t p, steps-listed all_parts table all-named n t w p)
