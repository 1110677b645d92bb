-- What a sink answers. (Language reference, "The outside".)
use Rattle.std.specs.Prelude.{ℕ, List, ◌++◌, Option, Some, None}
use Rattle.herm_edge.specs.Faults.{next_count}
use Rattle.herm_edge.specs.declared.sink.Wrote.{Wrote}
use Rattle.herm_edge.specs.declared.sink.Wrote.TheVariants.{Took, Failed}

-- the bytes written, told or not, after these bytes more
abbrev pub written_after : Option (List ℕ) → List ℕ → Option (List ℕ)
written_after None more = None
written_after (Some bytes) more = Some (bytes ++ more)

-- a fact about the number of bytes that were taken
abbrev pub IfTook : Wrote → (ℕ → Type 0) → Type 0
IfTook (Took n) P = P n
IfTook Failed P = Unit {0}

-- a fact where the write failed
abbrev pub OnWriteFailed : Wrote → Type 0 → Type 0
OnWriteFailed (Took n) P = Unit {0}
OnWriteFailed Failed P = P

-- a count of faults after a write with this answer: one higher where it failed
abbrev pub faults_after_write : Wrote → ℕ → ℕ
faults_after_write (Took n) faults = faults
faults_after_write Failed faults = next_count faults

-- a sink over a writer: the writer, and how many faults there were
pub record WriterState (W : Type 0) : Type 0 where
  pub writer : W
  pub faults : ℕ
