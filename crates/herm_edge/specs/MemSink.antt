-- A sink in memory. (Language reference, "The outside".)
use Rattle.std.specs.Prelude.{ℕ, ◌-◌, ◌^◌, min, List, ◌++◌, length, take, ◌==◌, if◌then◌else◌}
use Rattle.herm_edge.specs.Faults.{next_count, is_next_failing}
use Rattle.herm_edge.specs.declared.sink.Wrote.{Wrote}
use Rattle.herm_edge.specs.declared.sink.Wrote.TheVariants.{Took, Failed}

-- a sink in memory: its bytes, the most that a call takes, the numbers of the calls that fail, and how many calls and faults there were
pub record SinkState : Type 0 where
  pub written : List ℕ
  pub piece : ℕ
  pub failing : List ℕ
  pub calls : ℕ
  pub faults : ℕ

-- how many of the bytes that it is given the next write takes: none where it fails or no room is left
abbrev pub taken_count : SinkState → ℕ → ℕ
taken_count s given = if is_next_failing s.failing s.calls then 0 else min s.piece (min given (2 ^ 20 - length s.written))

-- the answer of a write that takes so many bytes
abbrev pub write_answer : ℕ → Wrote
write_answer taken = if taken == 0 then Failed else Took taken

-- a write counts the call, appends what it takes, and counts the fault where it takes nothing
abbrev pub after_write : SinkState → List ℕ → SinkState
after_write s given =
    let taken = taken_count s (length given) in
    record s { written = s.written ++ take taken given; calls = next_count s.calls; faults = if taken == 0 then next_count s.faults else s.faults }
