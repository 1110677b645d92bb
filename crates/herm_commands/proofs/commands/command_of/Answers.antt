use Rattle.std.proofs.Common.{ap, map, subst, ◌∙◌}
use Rattle.std.specs.Prelude.{string_bytes}
use Rattle.clap.specs.Words.{app_of}
use Rattle.herm_commands.specs.Words.{Answers, fault_by}
use Rattle.herm_commands.proofs.Asking.{failed, taken}
use Rattle.herm_commands.proofs.commands.command_of.Goals as goal

pub returns-in-Ok : goal.returns-in-Ok
returns-in-Ok c = record {
  answers = subst (λ wanted. Answers wanted c.command_met.result)
      (taken (app_of c.in_ok-program.program) (map string_bytes c.args.words.now) c.try_get_matches_from.result c.in-Ok.matches
      c.in_ok-program.ensures.app c.try_get_matches_from.ensures.kinds c.try_get_matches_from.ensures.matches c.in-Ok.is)
      c.command_met.ensures.met;
}

pub returns-in-Err : goal.returns-in-Err
returns-in-Err c = record {
  answers = failed (app_of c.in_ok-program.program) (map string_bytes c.args.words.now) c.try_get_matches_from.result c.in-Err.error
      c.fault_by.result c.in_ok-program.ensures.app c.try_get_matches_from.ensures.kinds c.in-Err.is
      (c.fault_by.ensures.fault ∙ ap fault_by c.kind.ensures);
}
