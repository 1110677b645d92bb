use Rattle.std.proofs.Common.{rules}
use Rattle.clap.specs.Words.{found_of}
use Rattle.herm_commands.proofs.Rows.{number_given, number_missing}
use Rattle.herm_commands.proofs.numbers.given_number.Goals as goal

pub returns-in-Some : goal.returns-in-Some
returns-in-Some c = record {
  given = number_given (found_of c.args.matches.now) c.args.id.now c.args.greatest c.args.default c.get_str.result c.in-Some.text
      c.number_to.result c.get_str.ensures c.in-Some.is c.number_to.ensures.number;
  range = c.number_to.ensures.range;
}

pub returns-in-None : goal.returns-in-None
returns-in-None c = record {
  given = number_missing (found_of c.args.matches.now) c.args.id.now c.args.greatest c.args.default c.get_str.result
      c.get_str.ensures c.in-None.is;
  range = search rules;
}
