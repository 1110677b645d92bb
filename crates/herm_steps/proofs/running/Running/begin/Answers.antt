use Rattle.std.proofs.Common.{subst}
use Rattle.herm_journal.specs.Renaming.{forget_name}
use Rattle.herm_model.specs.Values.{an_inport}
use Rattle.herm_code_machine.specs.CodeStates.{to_next_piece}
use Rattle.herm_pieces.specs.View.{ready_view}
use Rattle.herm_values.specs.View.{leaf}
use Rattle.herm_steps.specs.Behind.{IsBehind}
use Rattle.herm_steps.specs.Stepped.{begun}
use Rattle.herm_steps.proofs.running.Running.begin.Goals as goal

pub returns-then-branch-clause-begins : goal.returns-then-branch-clause-begins
returns-then-branch-clause-begins c = λ module_number.
    let code = ready_view c.args.code.now in
    let s = begun code module_number c.args.number.number (leaf (an_inport c.args.port.number)) in
    subst (λ b. IsBehind b c.run_on.new.self s (to_next_piece forget_name code s)) c.if-branch.true (c.in_ok-run_on.ensures.runs s (c.in_ok-process.ensures.stands module_number))

pub returns-clause-stuck : goal.returns-clause-stuck
returns-clause-stuck c = λ module_number.
    let code = ready_view c.args.code.now in
    let s = begun code module_number c.args.number.number (leaf (an_inport c.args.port.number)) in
    subst (λ b. IsBehind b c.run_on.new.self s (to_next_piece forget_name code s)) c.if-branch.false (c.in_ok-run_on.ensures.runs s (c.in_ok-process.ensures.stands module_number))
