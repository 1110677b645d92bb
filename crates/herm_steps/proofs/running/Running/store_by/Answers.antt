use Rattle.std.proofs.Common.{sym, subst}
use Rattle.herm_journal.specs.Renaming.{forget_name}
use Rattle.herm_code.specs.View.{instr_view}
use Rattle.herm_code_machine.specs.Effects.{effect}
use Rattle.herm_stack.specs.Answers.{on_stack}
use Rattle.herm_steps.specs.Performed.{Performs}
use Rattle.herm_steps.proofs.running.Running.store_by.Goals as goal

pub returns-in_ok-outcome-in-Store : goal.returns-in_ok-outcome-in-Store
returns-in_ok-outcome-in-Store c = record {
  performed = λ code b h.
      subst (λ i. Performs c.in_ok-outcome-in-Store.outcome c.store.new.self (effect forget_name code (instr_view i) (on_stack c.args.self.now.stack) b)) (sym c.in-Store.is)
      (c.in_ok-outcome-in-Store.ensures.performed code b h);
}
