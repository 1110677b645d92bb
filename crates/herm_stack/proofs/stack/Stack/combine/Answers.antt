use Rattle.std.proofs.Common.{reverse, subst, ap, ◌∙◌}
use Rattle.herm_stack.specs.Answers.{AreLetGo, binary_view, evaluated}
use Rattle.herm_stack.proofs.Stacked.{two_gone}
use Rattle.herm_stack.proofs.stack.Stack.combine.Goals as goal

pub returns : goal.returns
returns c = record {
  effect = λ code b.
      two_gone (binary_view c.args.o) code b c.let_two_go.result c.args.self.now (reverse c.let_two_go.new.values.items) (evaluated c.combined_at_end-e.result)
      (subst (λ old. AreLetGo c.let_two_go.result old (reverse c.let_two_go.new.values.items)) c.self.view_is c.let_two_go.ensures.gone) c.if-not-let_two_go.false
      (λ l r below is. c.combined_at_end-e.ensures l r below (ap reverse c.as_slice.ensures.value ∙ (c.self.view_is ∙ is)))
      ∙ c.put.ensures.effect b;
}
