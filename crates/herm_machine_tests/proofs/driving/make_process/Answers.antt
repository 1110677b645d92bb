use Rattle.std.proofs.Common.{sym, ap, ◌∙◌}
use Rattle.herm_machine.specs.declared.order.Got.TheVariants as gots
use Rattle.herm_machine_tests.proofs.Going.{fits-process, telling}
use Rattle.herm_machine_tests.proofs.driving.make_process.Goals as goal

pub take_in-requires-clause-fits : goal.take_in-requires-clause-fits
take_in-requires-clause-fits c = fits-process c.args.machine.now c.requires.going (gots.Process c.args.made) _ (λ code. tt) (λ image main s at. ap telling (sym c.in-Some-MakeProcess.field-0-is) ∙ c.in-Some-MakeProcess.ensures.wanted image main s at)
