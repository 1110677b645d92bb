use Rattle.herm_machine_tests.proofs.Going.{aside-goes, inside}
use Rattle.herm_machine_tests.proofs.driving.put_aside.Goals as goal

pub put_aside-requires-clause-inside : goal.put_aside-requires-clause-inside
put_aside-requires-clause-inside c = inside c.args.machine.now c.requires.going

pub returns : goal.returns
returns c = record { going = aside-goes c.args.machine.now c.put_aside.new.self c.requires.going c.put_aside.ensures.dead c.put_aside.ensures.aside }
