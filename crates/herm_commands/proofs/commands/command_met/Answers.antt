use Rattle.std.proofs.Common.{subst}
use Rattle.herm_commands.specs.Words.{Answers}
use Rattle.herm_commands.proofs.Asking.{no_subcommand_met, subcommand_met}
use Rattle.herm_commands.proofs.commands.command_met.Goals as goal

pub returns-in-Some : goal.returns-in-Some
returns-in-Some c = record {
  met = subst (λ wanted. Answers wanted c.command_by.result)
      (subcommand_met c.args.matches.now c.subcommand.result c.in-Some.name c.in-Some.found c.subcommand.ensures.name
      c.subcommand.ensures.rows c.in-Some.is) c.command_by.ensures.answers;
}

pub returns-in-None : goal.returns-in-None
returns-in-None c = record {
  met = no_subcommand_met c.args.matches.now c.subcommand.result c.subcommand.ensures.rows c.in-None.is;
}
