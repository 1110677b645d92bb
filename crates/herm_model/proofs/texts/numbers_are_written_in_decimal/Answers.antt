use Rattle.herm_model.proofs.Numerals.{numeral-decimal, signed-decimal}
use Rattle.herm_model.proofs.texts.numbers_are_written_in_decimal.Goals as goal

pub returns-clause-unsigned : goal.returns-clause-unsigned
returns-clause-unsigned c = λ n h. numeral-decimal n h

pub returns-clause-signed : goal.returns-clause-signed
returns-clause-signed c = λ z h. signed-decimal z h
