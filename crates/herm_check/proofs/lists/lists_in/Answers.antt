use Rattle.std.proofs.Common.{◌≡◌, ℕ, length, Some, slice_get, refl, sym, ap, subst, arith}
use Rattle.std.proofs.lemmas.Option.{slice_get_read}
use Rattle.herm_flow.specs.declared.onward.OnwardPoint.{OnwardPoint}
use Rattle.herm_check.specs.declared.lists.ListsOf.{ListsOf}
use Rattle.herm_check.specs.Lists.{AreListsOf}
use Rattle.herm_check.proofs.Making.{each-more}
use Rattle.herm_check.proofs.lists.lists_in.Goals as goal

pub loop-point-preserved : goal.loop-point-preserved
loop-point-preserved c =
    let points = c.deref-point-items.result.now in
    let i = c.loop-point.point-index in
    let p = c.point-item.result in
    each-more (λ (q : OnwardPoint) (k : ListsOf). AreListsOf c.args.numbers.now q k) points c.loop-point.lists.items c.push.new.self.items i p c.in_ok-lists_at.field-0 c.loop-point.invariant
    (slice_get_read points (length points) i p refl c.loop-point-test.true c.point-item.is) c.in_ok-lists_at.ensures c.in_ok-push.ensures.items

pub returns : goal.returns
returns c = record {
  many = omega (arith, c.loop-point.invariant.0, c.loop-point-test.false, ap length c.deref-point-items.ensures.value);
  each = λ i p k at there. c.loop-point.invariant.1 i p k (subst (λ xs. slice_get xs i ≡ Some p) (sym c.deref-point-items.ensures.value) at) there;
}
