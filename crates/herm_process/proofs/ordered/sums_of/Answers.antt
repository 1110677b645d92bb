use Rattle.herm_process.proofs.ordered.sums_of.Goals as goal

pub returns : goal.returns
returns c = record { sums = λ image main s h. let n = c.counts-steps.ensures.counts image main s h in record { steps = n.0; actions = n.1 } }
