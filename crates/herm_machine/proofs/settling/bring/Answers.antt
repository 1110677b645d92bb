use Rattle.herm_pieces.specs.View.{ready_view}
use Rattle.herm_steps.specs.Coming.{coming_item}
use Rattle.herm_machine.proofs.Wanted.{front-brings, want-at}
use Rattle.herm_machine.proofs.settling.bring.Goals as goal

pub returns-in-Item : goal.returns-in-Item
returns-in-Item c = record {
  answered = λ s w at a h e brings tells. front-brings w (want-at (ready_view c.args.code.now) s coming_item w (c.in-Item.ensures.next s h) e) brings;
}
