use Rattle.clap.specs.Words.{found_of}
use Rattle.herm_commands.proofs.Rows.{arg_given, arg_missing}
use Rattle.herm_commands.proofs.options.given_text.Goals as goal

pub returns-in-Some : goal.returns-in-Some
returns-in-Some c = record {
  text = arg_given (found_of c.args.matches.now) c.get_str.result c.in-Some.text c.get_str.ensures c.in-Some.is;
}

pub returns-in-None : goal.returns-in-None
returns-in-None c = record {
  text = arg_missing (found_of c.args.matches.now) c.get_str.result c.get_str.ensures c.in-None.is;
}
