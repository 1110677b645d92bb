use Rattle.std.proofs.Common.{◌+◌, sym, subst, arith}
use Rattle.std.specs.declared.vec.Vec.{Vec}
use Rattle.std.specs.declared.alloc.Global.{Global}
use Rattle.herm_facts.specs.declared.sparse_set.WordAt.{WordAt}
use Rattle.herm_facts.proofs.Filled.{AreFilled, empty_next, filled_next, all_filled}
use Rattle.herm_facts.proofs.sparse_words.filled_words.Goals.{then-not-is_empty+in_ok-push, else-not-is_empty}
use Rattle.herm_facts.proofs.sparse_words.filled_words.Goals as goal

pub loop-at-preserved : goal.loop-at-preserved
loop-at-preserved c =
    let words = c.args.words.now in
    let at = c.loop-at.at in
    let old = c.loop-at.filled.items in
    elim c.if-not-is_empty.branch [
      | then-not-is_empty+in_ok-push w ↦ subst (λ (f : Vec WordAt Global). AreFilled words (at + 1) f.items) (sym w.filled-is) (filled_next words at _ old c.loop-at.invariant (omega (arith, c.loop-at-test.true)) w.push.new.self.items w.in_ok-push.ensures.items)
      | else-not-is_empty w ↦ subst (λ (f : Vec WordAt Global). AreFilled words (at + 1) f.items) (sym w.filled-is) (empty_next words at _ old c.loop-at.invariant (omega (arith, c.loop-at-test.true)) (c.is_empty.ensures.none w.if-not-is_empty.false))
    ]

pub returns-clause-same : goal.returns-clause-same
returns-clause-same c n = all_filled c.args.words.now c.loop-at.at c.loop-at.filled.items c.loop-at.invariant (omega (arith, c.loop-at-test.false)) n
