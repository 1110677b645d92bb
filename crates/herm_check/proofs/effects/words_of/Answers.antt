use Rattle.std.proofs.Common.{◌≡◌, ℕ, ◌+◌, ◌*◌, ◌<◌, length, refl, arith}
use Rattle.std.proofs.lemmas.Option.{slice_get_read}
use Rattle.herm_facts.specs.declared.fact_set.FactSet.{FactSet}
use Rattle.herm_facts.specs.declared.sparse_set.SparseSet.{SparseSet}
use Rattle.herm_facts.specs.FactSets.{has}
use Rattle.herm_facts.specs.SparseSets.{has_sparse}
use Rattle.herm_check.proofs.EdgeEffects.{words-each}
use Rattle.herm_check.proofs.Making.{each-more}
use Rattle.herm_check.proofs.effects.words_of.Goals as goal

pub loop-set-preserved : goal.loop-set-preserved
loop-set-preserved c =
    let sets = c.args.sets.now in
    let i = c.loop-set.set-index in
    let s = c.set-item.result in
    each-more (λ (t : SparseSet) (w : FactSet). (j : ℕ) → j < 64 → has w j ≡ has_sparse t (64 * c.args.search + j)) sets c.loop-set.words.items c.push.new.self.items i s c.word.result c.loop-set.invariant
    (slice_get_read sets (length sets) i s refl c.loop-set-test.true c.set-item.is) c.word.ensures c.in_ok-push.ensures.items

pub returns : goal.returns
returns c = words-each c.args.sets.now c.args.search c.loop-set.words.items (omega (arith, c.loop-set.invariant.0, c.loop-set-test.false)) c.loop-set.invariant.1
