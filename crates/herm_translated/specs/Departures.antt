-- Departures: the code of an edge of control, which drops values, then loops, and arrives somewhere.
use Rattle.std.specs.Prelude.{ℕ, ◌+◌, List, [], ◌∷◌, ◌++◌, map, length}
use Rattle.herm_model.specs.Paths.{Path}
use Rattle.herm_model.specs.Outcomes.{Outcome}
use Rattle.herm_instructions.specs.Instructions.{Instruction, Jump, LoopDrop, Drop, End, EndBy}

-- Where an edge arrives: at the first step of a node's block, at the second step of a `for`, or at an end.
-- Code reference, "Blocks".
pub data Arrival : Type 0 where
  to_block : (node : ℕ) → Arrival
  to_second_step : (node : ℕ) → Arrival
  to_end : Arrival
  to_end_by : (exception : ℕ) → Arrival

-- An edge: the outcome that takes it, the paths that it drops, the slots of the loops that it leaves, innermost first, and where it
-- arrives. At an end all is finalised by the end itself. Code reference, "Blocks".
pub record Departure : Type 0 where
  pub outcome : Outcome
  pub drops : List Path
  pub slots : List ℕ
  pub arrival : Arrival

-- how far behind its first step the second step of a `for` stands
abbrev pub second_step : ℕ
second_step = 3

-- the last instruction of an edge, where blocks begin at these indices
abbrev pub arrive_by : (start : ℕ → ℕ) → Arrival → Instruction
arrive_by start (to_block n) = Jump (start n)
arrive_by start (to_second_step n) = Jump (start n + second_step)
arrive_by start to_end = End
arrive_by start (to_end_by e) = EndBy e

abbrev pub edge_code : (start : ℕ → ℕ) → Departure → List Instruction
edge_code start d = map Drop d.drops ++ (map LoopDrop d.slots ++ arrive_by start d.arrival ∷ [])

abbrev pub edge_length : Departure → ℕ
edge_length d = length d.drops + (length d.slots + 1)
