use Rattle.std.proofs.Common.{◌≡◌, ◌⊎◌, inl, inr, ◌≢◌, ℕ, ◌<◌, length, Some, slice_get, refl, sym, subst, arith, ap, ◌∙◌}
use Rattle.std.proofs.lemmas.Option.{slice_get_read, slice_get_within}
use Rattle.herm_check.specs.declared.lists.ListsOf.{ListsOf}
use Rattle.herm_check.specs.Lists.{at_has}
use Rattle.herm_check.specs.Alike.{AreCovered, AreListsCovered}
use Rattle.herm_check.proofs.Joined.{same_or_not}
use Rattle.herm_check.proofs.Searched.{one-at}
use Rattle.herm_check.proofs.alike.are_lists_covered.Goals as goal

pub loop-point-preserved : goal.loop-point-preserved
loop-point-preserved c i l before at = by (same_or_not i c.loop-point.point-index)
  where
    here : AreListsCovered c.point-item.result c.args.firsts.now c.args.groups.now (length c.args.firsts.now)
    here k = (
      subst (λ sets. AreCovered (at_has sets k) c.args.firsts.now c.args.groups.now (length c.args.firsts.now)) c.as_slice.ensures.value (c.in_ok-are_sets_covered.ensures c.if-not-branch.false k),
      subst (λ sets. AreCovered (at_has sets k) c.args.firsts.now c.args.groups.now (length c.args.firsts.now)) c.as_slice-in-loop-point.ensures.value (c.in_ok-are_sets_covered-2.ensures c.if-not-branch-2.false k),
    )

    by : (i ≡ c.loop-point.point-index) ⊎ (i ≢ c.loop-point.point-index) → AreListsCovered l c.args.firsts.now c.args.groups.now (length c.args.firsts.now)
    by (inl e) =
        let read = slice_get_read c.args.lists.now (length c.args.lists.now) c.loop-point.point-index c.point-item.result refl c.loop-point-test.true c.point-item.is in
        subst (λ x. AreListsCovered x c.args.firsts.now c.args.groups.now (length c.args.firsts.now)) (one-at (slice_get c.args.lists.now i) c.point-item.result l (subst (λ k. slice_get c.args.lists.now k ≡ Some c.point-item.result) (sym e) read) at) here
    by (inr d) = c.loop-point.invariant i l (omega (arith, before, d)) at

pub returns : goal.returns
returns c _ i l at = let within = slice_get_within c.args.lists.now i l at in c.loop-point.invariant i l (omega (arith, within, c.loop-point-test.false)) at
