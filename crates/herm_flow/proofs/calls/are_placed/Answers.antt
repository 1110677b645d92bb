use Rattle.std.proofs.Common.{sym, subst, ◌∙◌, ⊎_elim}
use Rattle.std.proofs.Math.ListN.{drop_of_length-le}
use Rattle.herm_model.specs.Lists.{IsIn}
use Rattle.herm_flow.proofs.CallLists.{next-at}
use Rattle.herm_flow.proofs.Placed.{placed-in}
use Rattle.herm_flow.proofs.calls.are_placed.Goals as goal

pub each-preserved : goal.each-preserved
each-preserved c = λ rest k m. c.each.invariant (λ n h. ⊎_elim (λ e. subst (λ x. IsIn x c.args.found.now) (sym e) (placed-in c.args.places.now c.args.found.now _ (sym c.is_placed-is_there.ensures.placed ∙ c.if-not-is_there.false))) (λ r. rest n r) (next-at c.args.numbers.now c.each.number-index _ n c.each-test.true h)) k m

pub returns : goal.returns
returns c = record { within = λ t. c.each.invariant (λ k h. absurd (subst (IsIn k) (drop_of_length-le c.args.numbers.now c.each-test.false) h)) }
