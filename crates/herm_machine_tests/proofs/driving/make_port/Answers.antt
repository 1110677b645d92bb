use Rattle.std.proofs.Common.{sym, ap, ◌∙◌}
use Rattle.herm_machine.specs.declared.order.Got.TheVariants as gots
use Rattle.herm_machine_tests.proofs.Going.{fits-port, telling}
use Rattle.herm_machine_tests.proofs.driving.make_port.Goals as goal

pub take_in-requires-clause-fits : goal.take_in-requires-clause-fits
take_in-requires-clause-fits c = fits-port c.args.machine.now c.requires.going (gots.Port c.args.made) tt (λ image main s at. ap telling (sym c.in-Some-MakePort.field-0-is) ∙ c.in-Some-MakePort.ensures.wanted image main s at)
