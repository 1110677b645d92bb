use Rattle.std.proofs.Common.{refl, sym, ap, subst}
use Rattle.herm_journal.specs.Renaming.{forget_name}
use Rattle.herm_code.specs.View.{instr_view}
use Rattle.herm_code_machine.specs.Effects.{effect}
use Rattle.herm_frames.specs.Scopes.{numbers_of}
use Rattle.herm_pieces.specs.View.{ready_view}
use Rattle.herm_stack.specs.Answers.{on_stack}
use Rattle.herm_steps.proofs.Done.{by_frame}
use Rattle.herm_steps.specs.Performed.{Performs}
use Rattle.herm_steps.proofs.running.Running.place.Goals as goal

pub returns-in_ok-outcome-in-Move : goal.returns-in_ok-outcome-in-Move
returns-in_ok-outcome-in-Move c = record {
  performed = λ b h.
      by_frame (ready_view c.args.code.now) _ _ b _ _ c.move_value.new.self c.in_ok-outcome-in-Move.outcome c.in-Move.is c.self.view_is h
      (c.in_ok-outcome-in-Move.ensures.effect (ready_view c.args.code.now) (on_stack c.self.inside.stack) b (refl, ap numbers_of (sym c.as_slice.ensures.value)));
}

pub returns-in_ok-outcome-in-New : goal.returns-in_ok-outcome-in-New
returns-in_ok-outcome-in-New c = record {
  performed = λ b h.
      by_frame (ready_view c.args.code.now) _ _ b _ _ c.new_value.new.self c.in_ok-outcome-in-New.outcome c.in-New.is c.self.view_is h
      (c.in_ok-outcome-in-New.ensures.effect (ready_view c.args.code.now) (on_stack c.self.inside.stack) b refl);
}

pub returns-in_ok-outcome-in-Discard : goal.returns-in_ok-outcome-in-Discard
returns-in_ok-outcome-in-Discard c = record {
  performed = λ b h.
      by_frame (ready_view c.args.code.now) _ _ b _ _ c.discard.new.self c.in_ok-outcome-in-Discard.outcome c.in-Discard.is c.self.view_is h
      (c.in_ok-outcome-in-Discard.ensures.effect (ready_view c.args.code.now) (on_stack c.self.inside.stack) b);
}

pub returns-in_ok-outcome-in-Connect : goal.returns-in_ok-outcome-in-Connect
returns-in_ok-outcome-in-Connect c = record {
  performed = λ b h.
      by_frame (ready_view c.args.code.now) _ _ b _ _ c.connect.new.self c.in_ok-outcome-in-Connect.outcome c.in-Connect.is c.self.view_is h
      (c.in_ok-outcome-in-Connect.ensures.effect (ready_view c.args.code.now) (on_stack c.self.inside.stack) b);
}

pub returns-in_ok-outcome-in-Drop : goal.returns-in_ok-outcome-in-Drop
returns-in_ok-outcome-in-Drop c = record {
  performed = λ b h.
      by_frame (ready_view c.args.code.now) _ _ b _ _ c.drop_path.new.self c.in_ok-outcome-in-Drop.outcome c.in-Drop.is c.self.view_is h
      (c.in_ok-outcome-in-Drop.ensures.effect (ready_view c.args.code.now) (on_stack c.self.inside.stack) b);
}
