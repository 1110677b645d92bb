-- Where a process is behind what was done.
use Rattle.std.specs.Prelude.{◌≡◌, Bool, true, false, Option, Some, None, ⊤}
use Rattle.herm_code_machine.specs.CodeStates.{CodeState}
use Rattle.herm_steps.specs.HeldStates.{HeldState}
use Rattle.herm_steps.specs.StandingAt.{StandsAt}

-- There is a state behind, of the same module, for which the process stands; or there is none.
abbrev pub IsBehind : Bool → HeldState → CodeState ⊤ → Option (CodeState ⊤) → Type 0
IsBehind false p s o = o ≡ None
IsBehind true p s o = (t : CodeState ⊤) × (o ≡ Some t) × (t.module_number ≡ s.module_number) × StandsAt p t
