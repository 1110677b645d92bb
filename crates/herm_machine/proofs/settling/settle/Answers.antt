use Rattle.herm_pieces.specs.View.{ready_view}
use Rattle.herm_machine.proofs.Standing.{left-settles}
use Rattle.herm_machine.proofs.settling.settle.Goals as goal

pub returns-in-Left : goal.returns-in-Left
returns-in-Left c = record {
  answered = λ s w at a from e answers hears tells.
      left-settles c.args.got c.in-Left.left c.in-Left.is c.args.is_front (ready_view c.args.code.now) c.args.process.now c.let_close.new.process c.in_ok-goes-in-Left.goes s w at a from answers tells
      (λ count h closes. c.in_ok-goes-in-Left.ensures.answered s w at count h e closes);
}
