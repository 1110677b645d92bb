use Rattle.std.proofs.Common.{sym, subst}
use Rattle.herm_journal.specs.Renaming.{forget_name}
use Rattle.herm_forms.specs.Exchanges as exchanges
use Rattle.herm_code.specs.View.{instr_view}
use Rattle.herm_code_machine.specs.CodeActions.{code_settles}
use Rattle.herm_frames.specs.Completed.{outcome_view}
use Rattle.herm_types.specs.View.{path_view}
use Rattle.herm_answers.specs.Incomings.{process_made}
use Rattle.herm_answers.specs.Settled.{Settles}
use Rattle.herm_answers.proofs.Behind.{settles_by}
use Rattle.herm_answers.proofs.incoming.take_process.Goals as goal

pub returns-in_ok-outcome-in-Create : goal.returns-in_ok-outcome-in-Create
returns-in_ok-outcome-in-Create c = record {
  settles = λ code s stack at number h.
      let made = process_made number c.args.made in
      subst (λ i. Settles c.outcome_of.result c.create.new.frame stack (code_settles forget_name code (instr_view i) stack at made s)) (sym c.in-Create.is)
      (settles_by c.outcome_of.result (outcome_view c.in_ok-outcome-in-Create.outcome) c.create.new.frame stack (exchanges.create forget_name (path_view c.in-Create.target) made s) c.outcome_of.ensures.outcome (c.in_ok-outcome-in-Create.ensures.settles s number h));
}
