use Rattle.std.proofs.Common.{sym, ap, ◌∙◌}
use Rattle.herm_machine.specs.declared.order.Got.TheVariants as gots
use Rattle.herm_machine_tests.proofs.Going.{fits-close, telling}
use Rattle.herm_machine_tests.proofs.driving.close.Goals as goal

pub take_in-requires-clause-fits : goal.take_in-requires-clause-fits
take_in-requires-clause-fits c = fits-close c.args.machine.now c.requires.going (gots.Left c.args.left) _ (λ n. tt) (λ image main s at. ap telling (sym c.in-Some-Close.field-0-is) ∙ c.in-Some-Close.ensures.wanted image main s at)
