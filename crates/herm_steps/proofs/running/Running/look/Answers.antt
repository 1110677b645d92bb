use Rattle.std.proofs.Common.{sym, subst, ap, ◌∙◌}
use Rattle.herm_code_machine.specs.CodeSteps.{code_next}
use Rattle.herm_journal.specs.Actions.{to_take}
use Rattle.herm_code.specs.View.{instr_view}
use Rattle.herm_pieces.specs.View.{met_view, piece_view, ready_view}
use Rattle.herm_frames.specs.Standing.{Stands}
use Rattle.herm_steps.specs.ToldNext.{looked_next}
use Rattle.herm_steps.proofs.Wanted.{action_comes, action_wanted, not_item, not_nothing, not_piece, not_reply}
use Rattle.herm_steps.proofs.running.Running.look.Goals as goal

pub returns-in-Item : goal.returns-in-Item
returns-in-Item c = record { port = λ s ports h e. let n = code_next (ready_view c.args.code.now) s in absurd (not_item n (action_comes (ready_view c.args.code.now) s n ports e) (c.in-Item.ensures.next s h)); exactly = λ s h. ap (λ n. looked_next c.args.place n s.frame) (c.in-Item.ensures.next s h) }

pub returns-in-Reply : goal.returns-in-Reply
returns-in-Reply c = record {
  port = λ s ports h e.
      let n = code_next (ready_view c.args.code.now) s in absurd (not_reply n c.in-Reply.field-0.index (instr_view c.in-Reply.field-0.instruction.now) (action_comes (ready_view c.args.code.now) s n ports e) (c.in-Reply.ensures.next s h));
  exactly = λ s h. ap (λ n. looked_next c.args.place n s.frame) (c.in-Reply.ensures.next s h);
}

pub returns-in-Action : goal.returns-in-Action
returns-in-Action c = record {
  port = λ s ports h e.
      let code = ready_view c.args.code.now in
      let t = action_wanted code s (code_next code s) (piece_view c.in-Action.field-0) (met_view c.in-Action.met) (to_take ports) (c.in-Action.ensures.next s h) e in
      c.port_at.ensures.port code t.stack s.frame ports (subst (λ p. Stands p.frame s.frame) (sym c.self.view_is) h.frame) t.wants;
  exactly = λ s h. c.port_at.ensures.exactly s.frame (subst (λ p. Stands p.frame s.frame) (sym c.self.view_is) h.frame) ∙ ap (λ n. looked_next c.args.place n s.frame) (c.in-Action.ensures.next s h);
}

pub returns-in-Local : goal.returns-in-Local
returns-in-Local c = record {
  port = λ s ports h e. let n = code_next (ready_view c.args.code.now) s in absurd (not_piece n (piece_view c.in-Local.field-0) (action_comes (ready_view c.args.code.now) s n ports e) (c.in-Local.ensures.next s h));
  exactly = λ s h. ap (λ n. looked_next c.args.place n s.frame) (c.in-Local.ensures.next s h);
}

pub returns-in-Nothing : goal.returns-in-Nothing
returns-in-Nothing c = record { port = λ s ports h e. let n = code_next (ready_view c.args.code.now) s in absurd (not_nothing n (action_comes (ready_view c.args.code.now) s n ports e) (c.in-Nothing.ensures.next s h)); exactly = λ s h. ap (λ n. looked_next c.args.place n s.frame) (c.in-Nothing.ensures.next s h) }
