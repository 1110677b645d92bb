-- One turn of a run to the next piece.
use Rattle.std.specs.Prelude.{◌≡◌, Bool, true, false, Option, Some, None, ⊤}
use Rattle.herm_journal.specs.Renaming.{forget_name}
use Rattle.herm_code_machine.specs.CodeStates.{CodeState, on_from}
use Rattle.herm_code_machine.specs.ReadyCode.{ReadyCode}
use Rattle.herm_steps.specs.HeldStates.{HeldState}
use Rattle.herm_steps.specs.StandingAt.{StandsAt}

-- A turn is the end of the run, at a piece or an end; or nothing is there behind it; or the run goes on from a state of the
-- same module, for which the process stands. Code reference, "Pieces".
abbrev pub IsTurned : Option Bool → HeldState → ReadyCode → CodeState ⊤ → Type 0
IsTurned (Some true) p c s = StandsAt p s × ((next : CodeState ⊤ → Option (CodeState ⊤)) → on_from forget_name c next s s.position ≡ Some s)
IsTurned (Some false) p c s = (next : CodeState ⊤ → Option (CodeState ⊤)) → on_from forget_name c next s s.position ≡ None
IsTurned None p c s = (t : CodeState ⊤) × (t.module_number ≡ s.module_number) × StandsAt p t × ((next : CodeState ⊤ → Option (CodeState ⊤)) → on_from forget_name c next s s.position ≡ next t)
