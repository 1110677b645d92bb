use Rattle.std.proofs.Common.{sym, subst}
use Rattle.herm_code_machine.specs.CodeSteps.{code_next}
use Rattle.herm_pieces.specs.View.{met_view, piece_view, ready_view}
use Rattle.herm_frames.specs.Standing.{Stands}
use Rattle.herm_steps.proofs.Wanted.{action_wanted}
use Rattle.herm_steps.proofs.running.Running.coming.Goals as goal

pub returns-in-Action-clause-want : goal.returns-in-Action-clause-want
returns-in-Action-clause-want c = λ s w h e.
    let code = ready_view c.args.code.now in
    let t = action_wanted code s (code_next code s) (piece_view c.in-Action.piece) (met_view c.in-Action.met) w (c.in-Action.ensures.next s h) e in
    c.want_of.ensures.want code t.stack s.frame w (subst (λ p. Stands p.frame s.frame) (sym c.self.view_is) h.frame) t.wants
