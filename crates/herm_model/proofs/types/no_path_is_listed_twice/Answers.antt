use Rattle.herm_model.specs.Types.{full_parts, held_parts, all_parts}
use Rattle.herm_model.proofs.DistinctSteps.{full-rise, held-rise, all-rise, steps-differ}
use Rattle.herm_model.proofs.types.no_path_is_listed_twice.Goals as goal

pub returns-clause-full : goal.returns-clause-full
returns-clause-full c = λ n table t. steps-differ full_parts full-rise n table t

pub returns-clause-held : goal.returns-clause-held
returns-clause-held c = λ n table t. steps-differ held_parts held-rise n table t

pub returns-clause-all : goal.returns-clause-all
returns-clause-all c = λ n table t. steps-differ all_parts all-rise n table t
