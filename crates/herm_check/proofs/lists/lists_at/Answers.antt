use Rattle.std.proofs.Common.{ℕ, subst}
use Rattle.herm_flow.specs.OnwardView.{facts_in, paths_in}
use Rattle.herm_check.specs.Lists.{at_has, HasFacts, HasBelow}
use Rattle.herm_check.proofs.lists.lists_at.Goals as goal

pub returns : goal.returns
returns c = record {
  made = subst (λ lists. (i : ℕ) → HasFacts c.args.numbers.now (facts_in lists i) (at_has c.in_ok-made.made.items i)) c.as_slice.ensures.value c.in_ok-made.ensures;
  gone = subst (λ lists. (i : ℕ) → HasBelow c.args.numbers.now (paths_in lists i) (at_has c.in_ok-gone.gone.items i)) c.as_slice-2.ensures.value c.in_ok-gone.ensures;
}
