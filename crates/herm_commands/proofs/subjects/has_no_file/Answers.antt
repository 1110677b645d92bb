use Rattle.std.proofs.Common.{◌∙◌}
use Rattle.clap.specs.Words.{found_of}
use Rattle.herm_commands.proofs.Rows.{files_missing, files_there}
use Rattle.herm_commands.proofs.subjects.has_no_file.Goals as goal

pub returns-in-Some : goal.returns-in-Some
returns-in-Some c = record {
  none = c.is_empty.ensures ∙ files_there (found_of c.args.matches.now) c.get_strs.result c.in-Some.files c.get_strs.ensures c.in-Some.is;
}

pub returns-in-None : goal.returns-in-None
returns-in-None c = record {
  none = files_missing (found_of c.args.matches.now) c.get_strs.result c.get_strs.ensures c.in-None.is;
}
