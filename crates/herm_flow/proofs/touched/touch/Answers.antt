use Rattle.std.proofs.Common.{◌≡◌, inl, inr, sym, ap, subst, ⊎_elim}
use Rattle.std.proofs.Math.ListN.{drop_of_length-le}
use Rattle.herm_model.specs.Lists.{IsIn}
use Rattle.herm_flow.specs.Touched.{numbers_at, touched_by}
use Rattle.herm_flow.proofs.Trails.{touched-next, touched-at}
use Rattle.herm_flow.proofs.touched.touch.Goals as goal

pub each-preserved : goal.each-preserved
each-preserved c = record {
  placed = c.in_ok-push_each_placed.ensures.placed;
  more = λ n m. ⊎_elim
      (λ h. inl (c.in_ok-push_each_placed.ensures.more n (inl h)))
      (λ d. ⊎_elim (λ b. inl (c.in_ok-push_each_placed.ensures.more n (inr (subst (IsIn n) (sym c.numbers_of-beside.ensures.numbers) b)))) (λ r. inr r) (touched-next (numbers_at c.args.numbers.now) c.args.keeps.now c.each.parameter-index _ n c.each-test.true d))
      (c.each.invariant.more n m);
  only = λ n m. ⊎_elim (λ o. c.each.invariant.only n o) (λ b. touched-at (numbers_at c.args.numbers.now) c.args.keeps.now c.each.parameter-index _ n c.each-test.true (subst (IsIn n) c.numbers_of-beside.ensures.numbers b)) (c.in_ok-push_each_placed.ensures.only n m);
}

pub returns-clause-more : goal.returns-clause-more
returns-clause-more c = λ n m. ⊎_elim (λ h. h) (λ d. absurd (subst (λ ks. IsIn n (touched_by (numbers_at c.args.numbers.now) ks)) (drop_of_length-le c.args.keeps.now c.each-test.false) d)) (c.each.invariant.more n m)
