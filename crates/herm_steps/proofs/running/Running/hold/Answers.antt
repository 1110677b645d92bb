use Rattle.std.proofs.Common.{refl, sym, ap, subst}
use Rattle.herm_journal.specs.Renaming.{forget_name}
use Rattle.herm_code.specs.View.{instr_view}
use Rattle.herm_code_machine.specs.Effects.{effect}
use Rattle.herm_frames.specs.Scopes.{numbers_of}
use Rattle.herm_pieces.specs.View.{ready_view}
use Rattle.herm_stack.specs.Answers.{on_stack}
use Rattle.herm_steps.specs.Performed.{Performs}
use Rattle.herm_steps.proofs.Done.{by_frame}
use Rattle.herm_steps.proofs.running.Running.hold.Goals as goal

pub returns-in_ok-outcome-in-Unite : goal.returns-in_ok-outcome-in-Unite
returns-in_ok-outcome-in-Unite c = record {
  performed = λ b h.
      by_frame (ready_view c.args.code.now) _ _ b _ _ c.unite.new.self c.in_ok-outcome-in-Unite.outcome c.in-Unite.is c.self.view_is h
      (c.in_ok-outcome-in-Unite.ensures.effect (ready_view c.args.code.now) (on_stack c.self.inside.stack) b (refl, ap numbers_of (sym c.as_slice.ensures.value)));
}

pub returns-in_ok-outcome-in-Dissolve : goal.returns-in_ok-outcome-in-Dissolve
returns-in_ok-outcome-in-Dissolve c = record {
  performed = λ b h.
      by_frame (ready_view c.args.code.now) _ _ b _ _ c.dissolve.new.self c.in_ok-outcome-in-Dissolve.outcome c.in-Dissolve.is c.self.view_is h
      (c.in_ok-outcome-in-Dissolve.ensures.effect (ready_view c.args.code.now) (on_stack c.self.inside.stack) b);
}

pub returns-in_ok-outcome-in-Wrap : goal.returns-in_ok-outcome-in-Wrap
returns-in_ok-outcome-in-Wrap c = record {
  performed = λ b h.
      by_frame (ready_view c.args.code.now) _ _ b _ _ c.wrap.new.self c.in_ok-outcome-in-Wrap.outcome c.in-Wrap.is c.self.view_is h
      (c.in_ok-outcome-in-Wrap.ensures.effect (ready_view c.args.code.now) (on_stack c.self.inside.stack) b (refl, ap numbers_of (sym c.as_slice-in-Wrap.ensures.value)));
}

pub returns-in_ok-outcome-in-Unwrap : goal.returns-in_ok-outcome-in-Unwrap
returns-in_ok-outcome-in-Unwrap c = record {
  performed = λ b h.
      by_frame (ready_view c.args.code.now) _ _ b _ _ c.unwrap.new.self c.in_ok-outcome-in-Unwrap.outcome c.in-Unwrap.is c.self.view_is h
      (c.in_ok-outcome-in-Unwrap.ensures.effect (ready_view c.args.code.now) (on_stack c.self.inside.stack) b);
}

pub returns-in-Reveal : goal.returns-in-Reveal
returns-in-Reveal c = record {
  performed = λ b h.
      subst (λ q. Performs c.reveal.result q (effect forget_name (ready_view c.args.code.now) (instr_view c.args.instruction.now) (on_stack c.args.self.now.stack) b)) c.self.view_is
      (by_frame (ready_view c.args.code.now) _ _ b _ _ c.self.inside.frame c.reveal.result c.in-Reveal.is c.self.view_is h (c.reveal.ensures.effect (ready_view c.args.code.now) (on_stack c.self.inside.stack) b));
}

pub returns-in-CaseOf : goal.returns-in-CaseOf
returns-in-CaseOf c = record {
  performed = λ b h.
      subst (λ q. Performs c.choose.result q (effect forget_name (ready_view c.args.code.now) (instr_view c.args.instruction.now) (on_stack c.args.self.now.stack) b)) c.self.view_is
      (by_frame (ready_view c.args.code.now) _ _ b _ _ c.self.inside.frame c.choose.result c.in-CaseOf.is c.self.view_is h (c.choose.ensures.effect (ready_view c.args.code.now) c.in-CaseOf.field-1.items (on_stack c.self.inside.stack) b));
}
