use Rattle.herm_model.specs.Types.{full_parts, held_parts, all_parts}
use Rattle.herm_model.proofs.Steps.{full-named, held-named, all-named, steps-same}
use Rattle.herm_model.proofs.Copyable.{within-more}
use Rattle.herm_model.proofs.types.depth_bound_is_free.Goals as goal

pub returns-clause-full : goal.returns-clause-full
returns-clause-full c = λ m n table t v w. steps-same full_parts table full-named m n t v w

pub returns-clause-held : goal.returns-clause-held
returns-clause-held c = λ m n table t v w. steps-same held_parts table held-named m n t v w

pub returns-clause-all : goal.returns-clause-all
returns-clause-all c = λ m n table t v w. steps-same all_parts table all-named m n t v w

pub returns-clause-greater : goal.returns-clause-greater
returns-clause-greater c = λ n k table t w. within-more table n k t w
