use Rattle.herm_facts.proofs.SparseSets.{insert-next}
use Rattle.herm_facts.proofs.number_set.NumberSet.insert_all.Goals as goal

pub loop-number-preserved : goal.loop-number-preserved
loop-number-preserved c n = insert-next c.args.numbers.now c.loop-number.number-index _ n _ _ _ c.loop-number-test.true (c.in_ok-insert.ensures.ok n) (c.loop-number.invariant n)
