-- The handlers of each `try` around a statement, and where a raised exception leads. Language reference, "Exceptions".
use Rattle.std.specs.Prelude.{ℕ, List, [], ◌∷◌, cond, nat_eq}
use Rattle.herm_model.specs.Targets.{Target, end_by}

-- a handler within reach: its exception, and where its block begins
pub record Catch : Type 0 where
  pub exception : ℕ
  pub target : Target

-- Where an exception leads: to the nearest handler for it within reach, or else to the end by it.
-- Language reference, "Exceptions".
abbrev pub caught : List Catch → ℕ → Target
caught [] e = end_by e
caught (c ∷ catches) e = cond (nat_eq c.exception e) c.target (caught catches e)
