use Rattle.std.proofs.Common.{sym, ap, subst}
use Rattle.herm_frames.specs.Scopes.{numbers_of}
use Rattle.herm_frames.specs.Standing.{Stands}
use Rattle.herm_pieces.specs.View.{position_view, ready_view}
use Rattle.herm_stack.specs.Answers.{on_stack}
use Rattle.herm_steps.proofs.Done.{ended}
use Rattle.herm_steps.proofs.running.Running.end_at.Goals as goal

pub returns : goal.returns
returns c = record {
  done = λ s index i is h.
      let at = subst (λ q. Stands q.frame s.frame) (sym c.self.view_is) h.frame in
      let of = ap numbers_of (sym c.as_slice.ensures.value) in
      ended (ready_view c.args.code.now) s index i c.args.end (record { position = position_view c.position_of-self-inside.result; stack = c.clear.new.self; frame = c.end.new.self }) is c.position_of-self-inside.ensures.position (ap on_stack c.clear.ensures.empty)
      (c.in_ok-end.ensures.end (ready_view c.args.code.now) s.frame of at) (λ e. c.in_ok-end.ensures.end_by (ready_view c.args.code.now) e s.frame of at);
}
