use Rattle.std.proofs.Common.{◌≡◌, ◌∙◌, ap, subst, length, ◌⊎◌, List, Vec, Global, ℕ}
use Rattle.herm_model.specs.Lists.{IsIn}
use Rattle.herm_types.specs.Chosen.{lists}
use Rattle.herm_graph.specs.Graph.{IsNext}
use Rattle.herm_graph.proofs.Nexts.{reversed-more}
use Rattle.herm_graph.proofs.Reaching.{kept-back}
use Rattle.herm_graph.proofs.hints.reversed.Goals as goal

pub loop-t-init : goal.loop-t-init
loop-t-init c = record {
  reversed = λ t u n. absurd (c.in_ok-before.ensures.none t u n);
  each = c.in_ok-before.ensures.each;
}

pub loop-t-preserved : goal.loop-t-preserved
loop-t-preserved c =
    let many : length c.put_all.new.before ≡ length c.loop-t.before.items = c.put_all.auto.before ∙ ap length c.as_mut_slice.ensures.value in
    let back = kept-back c.put_all.new.before c.loop-t.before.items c.loop-t.before.len many c.loop-t.before.ok.0 in
    let put = subst (λ (old : List (Vec ℕ Global)). (u w : ℕ) → IsNext (lists c.put_all.new.before) u w → IsNext (lists old) u w ⊎ ((w ≡ c.loop-t.t) × IsIn u c.as_slice.result.now)) c.as_mut_slice.ensures.value c.in_ok-put_all.ensures in
    rw back (record {
      reversed = reversed-more c.args.next.now c.loop-t.before.items c.put_all.new.before c.index-next-t.result c.as_slice.result.now c.loop-t.t c.loop-t.invariant.reversed c.loop-t-test.true c.index-next-t.is c.as_slice.ensures.value put;
      each = many ∙ c.loop-t.invariant.each;
    })
