use Rattle.herm_machine_tests.proofs.Going.{alive-by, behind}
use Rattle.herm_machine_tests.proofs.driving.go_on.Goals as goal

pub returns : goal.returns
returns c = record { going = behind c.args.machine.now c.took.new.self c.args.got c.requires.fits (alive-by c.args.machine.now.is_dead c.in_ok-took.ensures.dead) c.in_ok-took.ensures.answered }
