use Rattle.std.proofs.Common.{sym, ap, subst, ◌∙◌}
use Rattle.herm_model.specs.ValueTexts.{text_of}
use Rattle.herm_values.specs.View.{value_view}
use Rattle.herm_values.specs.Whole.{IsWhole}
use Rattle.herm_machine.specs.declared.order.Got.TheVariants as gots
use Rattle.herm_machine_tests.specs.Going.{HasSent}
use Rattle.herm_machine_tests.proofs.Going.{fits-placed, order-out, some_of, placed-suits}
use Rattle.herm_machine_tests.proofs.driving.put.Goals as goal

pub go_on-requires-clause-fits : goal.go_on-requires-clause-fits
go_on-requires-clause-fits c = fits-placed c.letter_of.new.machine c.in-Some.letter (gots.Placed c.args.number c.into_parts-value.result.1) (some_of (HasSent c.letter_of.new.machine) c.in_ok-letter.field-0 c.in-Some.letter c.in-Some.is c.in_ok-letter.ensures.sent) (λ port. c.into_parts-value.ensures.texts.diary)

pub go_on-requires-clause-suits : goal.go_on-requires-clause-suits
go_on-requires-clause-suits c = placed-suits c.letter_of.new.machine c.args.number c.into_parts-value.result.1

pub go_on-requires-clause-ordered : goal.go_on-requires-clause-ordered
go_on-requires-clause-ordered c = order-out c.letter_of.new.machine c.in-Some.letter (some_of (HasSent c.letter_of.new.machine) c.in_ok-letter.field-0 c.in-Some.letter c.in-Some.is c.in_ok-letter.ensures.sent)

pub returns-clause-parcel : goal.returns-clause-parcel
returns-clause-parcel c = record {
  whole = subst IsWhole (sym c.into_parts-value.ensures.value) (c.into_parts-value.ensures.texts).whole;
  told = (c.into_parts-value.ensures.texts).parcel ∙ ap (λ v. text_of (value_view v)) (sym c.into_parts-value.ensures.value);
}
