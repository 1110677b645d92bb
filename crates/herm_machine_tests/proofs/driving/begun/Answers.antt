use Rattle.herm_code.specs.View.{image_view}
use Rattle.herm_machine_tests.proofs.Going.{reached-goes}
use Rattle.herm_machine_tests.proofs.driving.begun.Goals as goal

pub returns : goal.returns
returns c = record { going = reached-goes (image_view c.args.image.now) 0 c.in_ok-machine.machine _ (c.in_ok-machine.ensures.begins 0) }
