-- Instructions in a row, and the states that runs of code lead through.
use Rattle.std.specs.Prelude.{ℕ, ◌+◌, List, Some, slice_get, ◌≡◌}
use Rattle.herm_model.specs.Values.{Name, Value}
use Rattle.herm_forms.specs.Frames.{Frame}
use Rattle.herm_instructions.specs.Instructions.{Instruction}
use Rattle.herm_instructions.specs.Images.{instruction_at}
use Rattle.herm_translated.specs.Departures.{Arrival, to_block, to_second_step, to_end, to_end_by, second_step}
use Rattle.herm_code_machine.specs.ReadyCode.{ReadyCode}
use Rattle.herm_code_machine.specs.CodeStates.{Position, at_index, at_end, at_end_by, CodeState, run_on}

-- these instructions stand in the code from an index on
abbrev pub StandFrom : ReadyCode → (index : ℕ) → List Instruction → Type 0
StandFrom c i row = (n : ℕ) (x : Instruction) → slice_get row n ≡ Some x → instruction_at c.code (i + n) ≡ Some x

-- a process at an index
abbrev pub state_at : (module_number index : ℕ) → List Value → Frame Name → CodeState Name
state_at k i stack b = record { module_number = k; position = at_index i; stack = stack; frame = b }

-- So many instructions lead from a state to another: with so many more, a run from here comes to what a run from there comes to.
-- Code reference, "Processes".
abbrev pub LeadsTo : (Name → Name) → ReadyCode → (here there : CodeState Name) → Type 0
LeadsTo name c s t = (n : ℕ) × ((more : ℕ) → run_on name c (n + more) s ≡ run_on name c more t)

-- where an arrival is, where blocks begin at these indices; Code reference, "Blocks"
abbrev pub arrived_at : (start : ℕ → ℕ) → Arrival → Position
arrived_at start (to_block n) = at_index (start n)
arrived_at start (to_second_step n) = at_index (start n + second_step)
arrived_at start to_end = at_end
arrived_at start (to_end_by e) = at_end_by e
