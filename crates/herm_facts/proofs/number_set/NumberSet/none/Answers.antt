use Rattle.std.proofs.Common.{◌/◌, ◌%◌, ap}
use Rattle.herm_facts.specs.NumberSets.{has_at, has_number}
use Rattle.herm_facts.proofs.number_set.NumberSet.none.Goals as goal

pub returns : goal.returns
unfolding has_number
returns c n = ap (λ ws. has_at ws (n / 64) (n % 64)) c.new.ensures.items
