use Rattle.std.proofs.Common.{sym, ap, ◌∙◌}
use Rattle.herm_machine.specs.declared.order.Got.TheVariants as gots
use Rattle.herm_machine_tests.proofs.Going.{fits-take, telling}
use Rattle.herm_machine_tests.proofs.driving.take.Goals as goal

pub take_in-requires-clause-fits : goal.take_in-requires-clause-fits
take_in-requires-clause-fits c = fits-take c.args.machine.now c.requires.going (gots.Message c.args.port c.args.parcel) _ _ (λ ports. tt) (λ image main s at. ap telling (sym c.in-Some-Take.field-0-is) ∙ c.in-Some-Take.ensures.wanted image main s at)
