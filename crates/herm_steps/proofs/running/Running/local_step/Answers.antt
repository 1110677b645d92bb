use Rattle.std.proofs.Common.{sym, subst}
use Rattle.herm_code_machine.specs.CodeSteps.{code_next}
use Rattle.herm_pieces.specs.View.{piece_view, ready_view}
use Rattle.herm_steps.specs.Behind.{IsBehind}
use Rattle.herm_steps.proofs.Stepped.{local_next}
use Rattle.herm_steps.proofs.running.Running.local_step.Goals as goal

pub returns-in_ok-made-in-Local : goal.returns-in_ok-made-in-Local
returns-in_ok-made-in-Local c = record {
  step = λ s h.
      let code = ready_view c.args.code.now in
      subst (IsBehind c.in_ok-made-in-Local.made c.make_step.new.self s) (sym (local_next code s (code_next code s) (piece_view c.in-Local.piece) (c.in-Local.ensures.next s h))) (c.in_ok-made-in-Local.ensures.step s h);
}
