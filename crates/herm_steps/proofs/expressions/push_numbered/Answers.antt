use Rattle.std.proofs.Common.{sym}
use Rattle.herm_pieces.specs.View.{ready_view}
use Rattle.herm_steps.proofs.expressions.push_numbered.Goals as goal

pub returns-in_ok-constant-in-Some : goal.returns-in_ok-constant-in-Some
returns-in_ok-constant-in-Some c = record { effect = λ s. c.in_ok-constant-in-Some.ensures.effect (ready_view c.args.code.now) c.args.number s (sym c.in-Some.ensures.constant) }
