use Rattle.std.proofs.Common.{rules}
use Rattle.clap.specs.Words.{found_of}
use Rattle.herm_commands.proofs.Rows.{words_found, words_missing}
use Rattle.herm_commands.proofs.subjects.words_of.Goals as goal

pub returns-in_ok-extend_from_slice-in-Some : goal.returns-in_ok-extend_from_slice-in-Some
returns-in_ok-extend_from_slice-in-Some c = record {
  words = words_found (found_of c.args.matches.now) c.get_strs.result c.in-Some.found c.extend_from_slice.new.self.items
      c.get_strs.ensures c.in-Some.is (search rules);
}

pub returns-in-None : goal.returns-in-None
returns-in-None c = record {
  words = words_missing (found_of c.args.matches.now) c.get_strs.result c.new-words.result.items c.get_strs.ensures c.in-None.is
      c.new-words.ensures.items;
}
