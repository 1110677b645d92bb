use Rattle.std.proofs.Common.{◌/◌, ◌%◌, ◌∙◌, ap}
use Rattle.herm_facts.specs.NumberSets.{has_at, has_number}
use Rattle.herm_facts.specs.SparseSets.{has_sparse}
use Rattle.herm_facts.proofs.number_set.NumberSet.sparse.Goals as goal

pub returns : goal.returns
unfolding has_sparse has_number
returns c n = c.in_ok-words.ensures.same n ∙ ap (λ ws. has_at ws (n / 64) (n % 64)) c.as_slice.ensures.value
