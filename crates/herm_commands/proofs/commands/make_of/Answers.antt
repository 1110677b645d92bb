use Rattle.std.proofs.Common.{subst}
use Rattle.clap.specs.Words.{found_of}
use Rattle.herm_commands.specs.Words.{Answers}
use Rattle.herm_commands.proofs.Rows.{nodes_given, nodes_missing}
use Rattle.herm_commands.proofs.commands.make_of.Goals as goal

pub returns-in-Some : goal.returns-in-Some
returns-in-Some c = record {
  answers = subst (λ wanted. Answers wanted c.ring_of.result)
      (nodes_given (found_of c.args.found.now) c.get_str.result c.in-Some.nodes c.get_str.ensures c.in-Some.is) c.ring_of.ensures.answers;
}

pub returns-in-None : goal.returns-in-None
returns-in-None c = record {
  answers = nodes_missing (found_of c.args.found.now) c.get_str.result c.get_str.ensures c.in-None.is;
}
