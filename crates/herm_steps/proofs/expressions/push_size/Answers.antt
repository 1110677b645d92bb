use Rattle.std.proofs.Common.{◌≡◌, sym, subst}
use Rattle.herm_journal.specs.Renaming.{forget_name}
use Rattle.herm_types.specs.View.{path_view}
use Rattle.herm_code.specs.View.{instr_view}
use Rattle.herm_code_machine.specs.Effects.{effect}
use Rattle.herm_pieces.specs.View.{ready_view}
use Rattle.herm_stack.specs.Answers.{effect_of, on_stack}
use Rattle.herm_steps.proofs.expressions.push_size.Goals as goal

pub returns-in_ok-done-in-Size-clause-effect : goal.returns-in_ok-done-in-Size-clause-effect
returns-in_ok-done-in-Size-clause-effect c = λ s h.
    subst (λ i. effect forget_name (ready_view c.args.code.now) (instr_view i) (on_stack c.args.stack.now) s ≡ effect_of c.in_ok-done-in-Size.done (on_stack c.size.new.self) s) (sym c.in-Size.is)
    (c.in_ok-done-in-Size.ensures.effect (ready_view c.args.code.now) (path_view c.in-Size.path) s (sym (c.read.ensures.stands s h)))
