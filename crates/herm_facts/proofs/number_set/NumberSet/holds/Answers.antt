use Rattle.std.proofs.Common.{◌/◌, ◌%◌, ◌∙◌, ap}
use Rattle.herm_facts.specs.NumberSets.{has_at, has_number}
use Rattle.herm_facts.proofs.number_set.NumberSet.holds.Goals as goal

pub returns : goal.returns
unfolding has_number
returns c = c.holds.ensures ∙ c.word_at.ensures (c.args.number % 64) ∙ ap (λ ws. has_at ws (c.args.number / 64) (c.args.number % 64)) c.as_slice.ensures.value
