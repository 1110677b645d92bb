use Rattle.std.proofs.Common.{refl, sym, subst}
use Rattle.std.proofs.lemmas.Iterator.{items_from_collect, YieldsList}
use Rattle.std.proofs.lemmas.Iterator.Adapters.{YieldsList-from_skip, YieldsList-from_vec}
use Rattle.std.specs.Vec.Iter.{into_iter_items, into_iter_steps}
use Rattle.hermes.proofs.words.Goals as goal

pub returns-in-Ok-clause-words : goal.returns-in-Ok-clause-words
returns-in-Ok-clause-words c =
    let all = into_iter_items c.in-Ok.all in
    rw c.in-Ok.is
    (items_from_collect {steps = _} c.collect.result c.collect.ensures.ran
    (YieldsList-from_skip {ys = all} 1 (subst (λ s. YieldsList into_iter_steps (λ y. y) s all) (sym c.skip.ensures.source) (YieldsList-from_vec all refl (c.in-Ok.all.rest.ok).0)) c.skip.ensures.count))
