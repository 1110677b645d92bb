use Rattle.std.proofs.Common.{◌≡◌, ◌<◌, length, false, nat_eq, subst, arith}
use Rattle.std.proofs.lemmas.List.{take_all}
use Rattle.herm_model.specs.Lists.{any_pass}
use Rattle.herm_facts.specs.SparseSets.{places_of}
use Rattle.herm_facts.proofs.SparseSets.{read-place, none-next}
use Rattle.herm_facts.proofs.sparse_words.index_of.Goals as goal

pub loop-i-preserved : goal.loop-i-preserved
loop-i-preserved c = none-next c.args.words.now c.loop-i.i c.args.at _ (omega (arith, c.loop-i-test.true)) c.loop-i.invariant c.if-at-words.false

pub returns-then-at-words-clause-found : goal.returns-then-at-words-clause-found
returns-then-at-words-clause-found c = let within : c.loop-i.i < length c.args.words.now = omega (arith, c.loop-i-test.true) in (within, read-place c.args.words.now c.loop-i.i c.args.at _ within c.if-at-words.true)

pub returns-clause-none : goal.returns-clause-none
returns-clause-none c = subst (λ ws. any_pass (nat_eq c.args.at) (places_of ws) ≡ false) (take_all c.loop-i.i c.args.words.now (omega (arith, c.loop-i-test.false))) c.loop-i.invariant
