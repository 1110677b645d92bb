use Rattle.std.proofs.Common.{ap, option_map, refl, None, Some}
use Rattle.clap.specs.Words.{found_of, rows_of}
use Rattle.herm_commands.specs.Words.{files_of}
use Rattle.herm_commands.proofs.Rows.{source_given}
use Rattle.herm_commands.proofs.subjects.source_of.Goals as goal

pub returns-in-Some : goal.returns-in-Some
returns-in-Some c = record {
  source = source_given (found_of c.args.matches.now) c.get_str.result (Some c.in-Some.nodes.now)
      (files_of (rows_of (found_of c.args.matches.now))) c.ring_of.result c.get_str.ensures (ap (option_map (λ s. s.now)) c.in-Some.is) refl
      (c.ring_of.ensures.ring (files_of (rows_of (found_of c.args.matches.now))) c.has_no_file.ensures.none);
}

pub returns-in-None : goal.returns-in-None
returns-in-None c = record {
  source = source_given (found_of c.args.matches.now) c.get_str.result None (files_of (rows_of (found_of c.args.matches.now)))
      c.files_alone.result c.get_str.ensures (ap (option_map (λ s. s.now)) c.in-None.is) refl c.files_alone.ensures.files;
}
