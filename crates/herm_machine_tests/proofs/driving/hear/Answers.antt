use Rattle.std.proofs.Common.{sym, ap, ◌∙◌}
use Rattle.herm_machine.specs.declared.order.Got.TheVariants as gots
use Rattle.herm_machine_tests.proofs.Going.{fits-hear, telling}
use Rattle.herm_machine_tests.proofs.driving.hear.Goals as goal

pub take_in-requires-clause-fits : goal.take_in-requires-clause-fits
take_in-requires-clause-fits c = fits-hear c.args.machine.now c.requires.going (gots.Heard c.args.call c.args.reply c.args.trace) c.requires.text (λ image main s at. ap telling (sym c.in-Some-Hear.field-0-is) ∙ c.in-Some-Hear.ensures.wanted image main s at)
