use Rattle.std.proofs.Common.{sym, ap, ◌∙◌}
use Rattle.herm_model.specs.Values.{read_at}
use Rattle.herm_forms.specs.Evaluate.{value_there}
use Rattle.herm_types.specs.View.{path_view}
use Rattle.herm_stack.specs.Answers.{effect_of, on_stack}
use Rattle.herm_steps.proofs.Pushed.{on_pushing, raised_pushing, stuck_pushing}
use Rattle.herm_steps.proofs.operands.push_copy.Goals as goal

pub returns-in-Next : goal.returns-in-Next
returns-in-Next c = record {
  pushed = λ code s h.
      let p = path_view c.args.path.now in
      on_pushing (value_there (read_at p s.variables)) (on_stack c.args.stack.now) (on_stack c.load.new.self) s
      (c.in_ok-load.ensures.effect code p s (sym (c.read.ensures.stands s h)) ∙ ap (λ r. effect_of r (on_stack c.load.new.self) s) c.in-Next.is);
}

pub returns-in-Raised : goal.returns-in-Raised
returns-in-Raised c = record {
  pushed = λ code s h.
      let p = path_view c.args.path.now in
      raised_pushing (value_there (read_at p s.variables)) (on_stack c.args.stack.now) (on_stack c.load.new.self) s c.in-Raised.field-0.0
      (c.in_ok-load.ensures.effect code p s (sym (c.read.ensures.stands s h)) ∙ ap (λ r. effect_of r (on_stack c.load.new.self) s) c.in-Raised.is);
}

pub returns-in-Stuck : goal.returns-in-Stuck
returns-in-Stuck c = record {
  pushed = λ code s h.
      let p = path_view c.args.path.now in
      stuck_pushing (value_there (read_at p s.variables)) (on_stack c.args.stack.now) s
      (c.in_ok-load.ensures.effect code p s (sym (c.read.ensures.stands s h)) ∙ ap (λ r. effect_of r (on_stack c.load.new.self) s) c.in-Stuck.is);
}
