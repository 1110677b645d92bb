use Rattle.std.proofs.Common.{◌||◌, ◌∙◌, sym, ap}
use Rattle.std.proofs.lemmas.List.{take_all}
use Rattle.herm_model.specs.Lists.{any_pass}
use Rattle.herm_typestate.proofs.Marks.{on_err}
use Rattle.herm_facts.specs.NumberSets.{has_number}
use Rattle.herm_facts.specs.SparseSets.{word_has, has_sparse}
use Rattle.herm_facts.proofs.FactsInSets.{or_first}
use Rattle.herm_facts.proofs.SparseSets.{joined-next, joined-only}
use Rattle.herm_facts.proofs.number_set.NumberSet.union.Goals as goal

pub loop-word-preserved : goal.loop-word-preserved
loop-word-preserved c n = joined-next (has_number c.args.self.now n) _ _ (word_has n) c.as_slice-word-items.result.now c.loop-word.word-index _ c.loop-word-test.true (c.in_ok-union_word.ensures.ok n) (c.loop-word.invariant n)

pub returns-clause-ok : goal.returns-clause-ok
unfolding has_sparse
returns-clause-ok c n =
    c.loop-word.invariant n ∙ ap (λ ws. has_number c.args.self.now n || any_pass (word_has n) ws) (take_all c.loop-word.word-index c.as_slice-word-items.result.now c.loop-word-test.false ∙ c.as_slice-word-items.ensures.value)

pub returns-in_err-union_word-clause-kept : goal.returns-in_err-union_word-clause-kept
returns-in_err-union_word-clause-kept c = on_err c.from_residual.result (λ n h. c.in_err-union_word.ensures.err n ∙ (c.loop-word.invariant n ∙ or_first (has_number c.args.self.now n) _ h))

pub returns-in_err-union_word-clause-only : goal.returns-in_err-union_word-clause-only
unfolding has_sparse
returns-in_err-union_word-clause-only c =
    on_err c.from_residual.result (λ n h. joined-only (has_number c.args.self.now n) (word_has n) c.as_slice-word-items.result.now c.args.more.now.words.items c.loop-word.word-index c.as_slice-word-items.ensures.value (sym (c.in_err-union_word.ensures.err n ∙ c.loop-word.invariant n) ∙ h))
