use Rattle.std.proofs.Common.{ap, option_map, reverse, subst, ◌∙◌}
use Rattle.herm_values.specs.View.{value_view}
use Rattle.herm_stack.specs.Answers.{IsCopied}
use Rattle.herm_stack.proofs.Stacked.{load_pushed}
use Rattle.herm_stack.proofs.stack.Stack.load.Goals as goal

pub returns-clause-effect : goal.returns-clause-effect
returns-clause-effect c = λ code p b at.
    load_pushed code p b c.args.self.now (reverse c.push_copy.new.values.items) c.in-Some.v.now (at ∙ ap (option_map (λ v. value_view v.now)) c.in-Some.is)
    (subst (λ old. IsCopied c.in-Some.v.now old (reverse c.push_copy.new.values.items)) c.self.view_is c.in_ok-push_copy.ensures.pushed)
