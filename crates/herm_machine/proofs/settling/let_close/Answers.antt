use Rattle.herm_pieces.specs.View.{met_view, piece_view, ready_view}
use Rattle.herm_steps.specs.Coming.{coming_action}
use Rattle.herm_machine.proofs.Wanted.{action-closes, want-at}
use Rattle.herm_machine.proofs.settling.let_close.Goals as goal

pub returns-in-Action : goal.returns-in-Action
returns-in-Action c = record {
  answered = λ s w at count h e closes. action-closes w (want-at (ready_view c.args.code.now) s _ w (c.in-Action.ensures.next s h) e) closes;
}
