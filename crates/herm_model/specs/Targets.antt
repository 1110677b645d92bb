-- Where control leads: a statement's node, or an end.
use Rattle.std.specs.Prelude.{ℕ}

-- Where an outcome leads: to the node at a place of the list, to the process's normal end, or to its end by
-- an exception. Language reference, "Control".
pub data Target : Type 0 where
  node : ℕ → Target
  end : Target
  end_by : (exception : ℕ) → Target
