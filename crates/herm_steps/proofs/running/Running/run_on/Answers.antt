use Rattle.std.proofs.Common.{arith, subst}
use Rattle.herm_journal.specs.Renaming.{forget_name}
use Rattle.herm_code_machine.specs.CodeStates.{to_next_piece}
use Rattle.herm_pieces.specs.View.{ready_view}
use Rattle.herm_steps.specs.Turns.{IsTurned}
use Rattle.herm_steps.proofs.Turned.{RunsFrom, goes_on}
use Rattle.herm_steps.proofs.running.Running.run_on.Goals as goal

pub turns-preserved : goal.turns-preserved
turns-preserved c = λ s h.
    let code = ready_view c.args.code.now in
    let o = to_next_piece forget_name code s in
    subst (λ n. RunsFrom code c.turn.new.self s n o) (omega (arith, c.if-left-eq0.false))
    (goes_on code c.turns.self c.turn.new.self s c.turns.left o (c.turns.invariant s h) (λ t k. subst (λ r. IsTurned r c.turn.new.self code t) c.in_default.is (c.in_ok-here.ensures.turned t k)))
