use Rattle.std.proofs.Common.{not, ◌&&◌, ◌∙◌, ap}
use Rattle.std.proofs.lemmas.List.{take_all}
use Rattle.herm_model.specs.Lists.{any_pass}
use Rattle.herm_facts.specs.NumberSets.{has_number}
use Rattle.herm_facts.specs.SparseSets.{word_has, has_sparse}
use Rattle.herm_facts.proofs.SparseSets.{taken-next}
use Rattle.herm_facts.proofs.number_set.NumberSet.subtract.Goals as goal

pub loop-word-preserved : goal.loop-word-preserved
loop-word-preserved c n = taken-next (has_number c.args.self.now n) _ _ (word_has n) c.as_slice-word-items.result.now c.loop-word.word-index _ c.loop-word-test.true (c.subtract_word.ensures n) (c.loop-word.invariant n)

pub returns : goal.returns
unfolding has_sparse
returns c n =
    c.loop-word.invariant n ∙ ap (λ ws. has_number c.args.self.now n && not (any_pass (word_has n) ws)) (take_all c.loop-word.word-index c.as_slice-word-items.result.now c.loop-word-test.false ∙ c.as_slice-word-items.ensures.value)
