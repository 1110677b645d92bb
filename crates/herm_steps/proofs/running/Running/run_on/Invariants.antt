use Rattle.std.proofs.Common.{suc}
use Rattle.std.specs.Prelude.{⊤}
use Rattle.herm_journal.specs.Renaming.{forget_name}
use Rattle.herm_code_machine.specs.CodeStates.{CodeState, to_next_piece}
use Rattle.herm_pieces.specs.View.{ready_view}
use Rattle.herm_steps.specs.StandingAt.{StandsAt}
use Rattle.herm_steps.proofs.Turned.{RunsFrom}
use Rattle.herm_steps.proofs.running.Running.run_on.Given as goal

abbrev pub invariant-turns : goal.invariant-turns
invariant-turns l = (s : CodeState ⊤) → StandsAt l.fn.self s → RunsFrom (ready_view l.code) l.self s (suc l.left) (to_next_piece forget_name (ready_view l.code) s)

abbrev pub decreases-turns : goal.decreases-turns
decreases-turns l = suc l.left
