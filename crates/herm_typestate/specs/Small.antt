-- Marks at the end of steps of 32 bits alone.
use Rattle.std.specs.Prelude.{◌≡◌, ℕ, ◌^◌, List, Bool, true, nat_lt}
use Rattle.herm_model.specs.Lists.{all_pass}
use Rattle.herm_typestate.specs.declared.tree.Mark.{Mark}
use Rattle.herm_typestate.specs.declared.tree.Tree.{Tree}
use Rattle.herm_typestate.specs.Trees.{has_mark}

-- the step is a number of 32 bits
abbrev pub is_step : ℕ → Bool
is_step i = nat_lt i (2 ^ 32)

-- only at the end of such steps are there marks
abbrev pub AreSmall : List Tree → Type 0
AreSmall ts = (m : Mark) (p : List ℕ) → has_mark ts m p ≡ true → all_pass is_step p ≡ true
