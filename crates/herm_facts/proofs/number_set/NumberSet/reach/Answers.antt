use Rattle.std.proofs.Common.{◌/◌, ◌%◌, ◌∙◌, ap}
use Rattle.herm_facts.specs.NumberSets.{has_at, has_number}
use Rattle.herm_facts.proofs.number_set.NumberSet.reach.Goals as goal

pub returns-in_err-push-clause-kept : goal.returns-in_err-push-clause-kept
unfolding has_number
returns-in_err-push-clause-kept c n = ap (λ ws. has_at ws (n / 64) (n % 64)) c.in_err-push.ensures.items ∙ c.loop-self.invariant (n / 64) (n % 64)

pub returns-clause-kept : goal.returns-clause-kept
unfolding has_number
returns-clause-kept c n = c.loop-self.invariant (n / 64) (n % 64)
