use Rattle.std.proofs.Common.{inl, inr, sym, subst, ⊎_elim}
use Rattle.std.proofs.Math.ListN.{drop_of_length-le}
use Rattle.herm_model.specs.Lists.{IsIn}
use Rattle.herm_flow.proofs.CallLists.{next-at}
use Rattle.herm_flow.proofs.Trails.{get-in}
use Rattle.herm_flow.proofs.touched.push_each_placed.Goals as goal

pub each-init : goal.each-init
each-init c = record { placed = c.requires.placed; more = λ n h. h; only = λ n m. inl m }

pub each-preserved : goal.each-preserved
each-preserved c = record {
  placed = c.in_ok-push_placed.ensures.placed;
  more = λ n h. ⊎_elim
      (λ m. inl (c.in_ok-push_placed.ensures.more n (inl m)))
      (λ d. ⊎_elim (λ e. inl (c.in_ok-push_placed.ensures.more n (inr e))) (λ r. inr r) (next-at c.args.numbers.now c.each.number-index _ n c.each-test.true d))
      (c.each.invariant.more n h);
  only = λ n m. ⊎_elim (λ o. c.each.invariant.only n o) (λ e. inr (subst (λ x. IsIn x c.args.numbers.now) (sym e) (get-in c.args.numbers.now c.each.number-index _ c.each-test.true))) (c.in_ok-push_placed.ensures.only n m);
}

pub returns-clause-more : goal.returns-clause-more
returns-clause-more c = λ n h. ⊎_elim (λ m. m) (λ d. absurd (subst (IsIn n) (drop_of_length-le c.args.numbers.now c.each-test.false) d)) (c.each.invariant.more n h)
