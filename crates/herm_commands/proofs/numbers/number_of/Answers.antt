use Rattle.std.proofs.Common.{rules}
use Rattle.herm_commands.proofs.DigitTexts.{number_given}
use Rattle.herm_commands.proofs.numbers.number_of.Goals as goal

pub returns : goal.returns
returns c = record {
  number = number_given c.args.text.now c.parse.result c.ok.result c.parse.ensures.value.0 (search rules) c.ok.ensures.value;
}
