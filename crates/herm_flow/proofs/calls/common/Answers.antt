use Rattle.std.proofs.Common.{◌≡◌, inl, inr, true, subst, ⊎_elim}
use Rattle.std.proofs.Math.ListN.{drop_of_length-le}
use Rattle.herm_model.specs.Lists.{IsIn}
use Rattle.herm_flow.specs.Touched.{has_place}
use Rattle.herm_flow.proofs.CallLists.{next-at}
use Rattle.herm_flow.proofs.calls.common.Goals as goal

pub each-init : goal.each-init
each-init c = λ k m t. inr m

pub each-preserved : goal.each-preserved
each-preserved c = λ k m t. ⊎_elim
    (λ h. inl (c.in_ok-add_placed.ensures.added k (inl h)))
    (λ h. ⊎_elim (λ e. inl (c.in_ok-add_placed.ensures.added k (inr (e, subst (λ n. has_place c.args.places.now c.args.found.now n ≡ true) e t)))) (λ r. inr r) (next-at c.args.numbers.now c.each.number-index _ k c.each-test.true h))
    (c.each.invariant k m t)

pub returns : goal.returns
returns c = record { common = λ k m n. ⊎_elim (λ h. h) (λ h. absurd (subst (IsIn k) (drop_of_length-le c.args.numbers.now c.each-test.false) h)) (c.each.invariant k m (c.requires.placed k n)) }
