use Rattle.std.proofs.Common.{sym, ◌∙◌}
use Rattle.clap.specs.Words.{found_of}
use Rattle.herm_commands.proofs.Rows.{flag_given, flag_missing}
use Rattle.herm_commands.proofs.options.is_given.Goals as goal

pub returns-in-Some : goal.returns-in-Some
returns-in-Some c = record {
  flag = c.eq.ensures
      ∙ sym (flag_given (found_of c.args.matches.now) c.args.flag.now c.get_str.result c.in-Some.text c.get_str.ensures c.in-Some.is);
}

pub returns-in-None : goal.returns-in-None
returns-in-None c = record {
  flag = sym (flag_missing (found_of c.args.matches.now) c.args.flag.now c.get_str.result c.get_str.ensures c.in-None.is);
}
