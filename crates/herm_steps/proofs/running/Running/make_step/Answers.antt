use Rattle.std.proofs.Common.{refl}
use Rattle.herm_journal.specs.Renaming.{forget_name}
use Rattle.herm_code_machine.specs.CodeStates.{to_next_piece}
use Rattle.herm_pieces.specs.View.{piece_view, ready_view}
use Rattle.herm_steps.specs.Stepped.{at_piece}
use Rattle.herm_steps.proofs.Stepped.{behind_same}
use Rattle.herm_steps.proofs.running.Running.make_step.Goals as goal

pub returns : goal.returns
returns c = record {
  step = λ s h.
      let code = ready_view c.args.code.now in
      let t = at_piece (piece_view c.args.piece) s in
      behind_same c.in_ok-made.made c.run_on.new.self t s (to_next_piece forget_name code t) refl (c.in_ok-made.ensures.runs t (c.begin_piece.ensures.stands s h));
}
