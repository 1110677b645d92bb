-- What comes next in a process, by the machine of its code.
use Rattle.std.specs.Prelude.{◌≡◌, ℕ, Bool, ◌&&◌, not, nat_lt, Some, ⊤}
use Rattle.herm_journal.specs.Messages.{CellWant}
use Rattle.herm_system.specs.Machines.{Machine, ended, out_of_steps, out_of_actions, local, acting, greatest_actions}
use Rattle.herm_code_machine.specs.CodeStates.{CodeState}
use Rattle.herm_code_machine.specs.CodeSteps.{code_next}
use Rattle.herm_code_machine.specs.ReadyCode.{ReadyCode}
use Rattle.herm_exchanges.specs.Told.{told, want_view}
use Rattle.herm_steps.specs.Coming.{begins_with_step, coming, end_view}
use Rattle.herm_process.specs.declared.next.Next.{Next}
use Rattle.herm_process.specs.declared.next.Next.TheVariants as nexts
use Rattle.herm_process.specs.declared.next.Spent.TheVariants as spent

-- It stands so under this limit of steps; what is told is told of its want, and an end is its end. Language reference, "Processes".
abbrev pub IsNext : {P : Type 0} → Machine ⊤ P → (limit : ℕ) → P → Next → Type 0
IsNext machine limit x nexts.Local = machine.ready limit x ≡ local
IsNext machine limit x (nexts.Act want) = (machine.ready limit x ≡ acting) × (w : CellWant ⊤) × (machine.wanted x ≡ Some w) × (told w ≡ Some (want_view want))
IsNext machine limit x (nexts.Ended e) = (machine.ready limit x ≡ ended) × (machine.exception x ≡ end_view e)
IsNext machine limit x (nexts.Stopped (spent.Steps n)) = (machine.ready limit x ≡ out_of_steps) × (n ≡ limit)
IsNext machine limit x (nexts.Stopped (spent.Actions n)) = (machine.ready limit x ≡ out_of_actions) × (n ≡ greatest_actions)

-- a step is next, and none is left
abbrev pub is_spent : ReadyCode → (limit : ℕ) → CodeState ⊤ → Bool
is_spent c limit s = begins_with_step (coming (code_next c s)) && not (nat_lt s.frame.steps limit)
