use Rattle.std.proofs.Common.{◌≡◌, ◌⊎◌, inl, inr, ◌≢◌, ℕ, ◌<◌, ◌≤◌, length, true, false, Some, slice_get, refl, sym, subst, arith, ap, ◌∙◌, true≢false}
use Rattle.std.proofs.lemmas.Option.{slice_get_read, slice_get_past}
use Rattle.herm_model.specs.Lists.{map_or}
use Rattle.herm_facts.specs.declared.sparse_set.SparseSet.{SparseSet}
use Rattle.herm_facts.specs.SparseSets.{has_sparse}
use Rattle.herm_check.specs.Lists.{at_has}
use Rattle.herm_check.specs.Alike.{AreCovered}
use Rattle.herm_check.proofs.Joined.{same_or_not}
use Rattle.herm_check.proofs.Searched.{le_or}
use Rattle.herm_check.proofs.Standing.{covered-at}
use Rattle.herm_check.proofs.alike.are_sets_covered.Goals as goal

pub loop-set-preserved : goal.loop-set-preserved
loop-set-preserved c i before = by (same_or_not i c.loop-set.set-index)
  where
    by : (i ≡ c.loop-set.set-index) ⊎ (i ≢ c.loop-set.set-index) → AreCovered (at_has c.args.sets.now i) c.args.firsts.now c.args.groups.now (length c.args.firsts.now)
    by (inl e) = subst (λ k. AreCovered (at_has c.args.sets.now k) c.args.firsts.now c.args.groups.now (length c.args.firsts.now)) (sym e)
        (covered-at c.args.sets.now c.loop-set.set-index c.set-item.result c.args.firsts.now c.args.groups.now (slice_get_read c.args.sets.now (length c.args.sets.now) c.loop-set.set-index c.set-item.result refl c.loop-set-test.true c.set-item.is) (c.in_ok-is_set_covered.ensures c.if-not-branch.false))
    by (inr d) = c.loop-set.invariant i (omega (arith, before, d))

pub returns : goal.returns
returns c _ i = by (le_or (length c.args.sets.now) i)
  where
    by : (length c.args.sets.now ≤ i) ⊎ (i < length c.args.sets.now) → AreCovered (at_has c.args.sets.now i) c.args.firsts.now c.args.groups.now (length c.args.firsts.now)
    by (inl past) n below has = absurd (true≢false (sym has ∙ ap (map_or false (λ (s : SparseSet). has_sparse s n)) (slice_get_past c.args.sets.now i past)))
    by (inr before) n below has = c.loop-set.invariant i (omega (arith, before, c.loop-set-test.false)) n below has
