use Rattle.std.proofs.Common.{sym, slice_get}
use Rattle.herm_code_machine.specs.Effects.{constant_value}
use Rattle.herm_pieces.specs.View.{ready_view}
use Rattle.herm_stack.specs.Answers.{on_stack}
use Rattle.herm_steps.proofs.Pushed.{on_pushing}
use Rattle.herm_steps.proofs.operands.push_constant.Goals as goal

pub returns-in_ok-constant-in-Some : goal.returns-in_ok-constant-in-Some
returns-in_ok-constant-in-Some c = record {
  pushed = λ s.
      on_pushing (constant_value (slice_get (ready_view c.args.code.now).constants c.args.number)) (on_stack c.args.stack.now) (on_stack c.constant-in-Some.new.self) s
      (c.in_ok-constant-in-Some.ensures.effect (ready_view c.args.code.now) c.args.number s (sym c.in-Some.ensures.constant));
}
