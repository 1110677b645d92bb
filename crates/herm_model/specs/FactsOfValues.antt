-- What facts say of values. Language reference, "Facts".
use Rattle.std.specs.Prelude.{ℕ, Bool, false, Option, Some, None, nat_eq, IsTrue, ◌↔◌}
use Rattle.herm_model.specs.Paths.{Path, Fact, init, case}
use Rattle.herm_model.specs.Values.{a_variant, Cell, Parts, cell, has_value, read_at}

-- whether the cell is a variant with this component
abbrev pub is_component : {N : Type 0} → Option (Cell N) → ℕ → Bool
is_component None c = false
is_component (Some (cell n (a_variant d) ps)) c = nat_eq d c
is_component (Some (cell n k ps)) c = false

-- What a fact says of the variables' values. Language reference, "Facts".
abbrev pub satisfies : {N : Type 0} → Parts N → Fact → Bool
satisfies ps (init p) = has_value ps p
satisfies ps (case p c) = is_component (read_at p ps) c

-- The values have exactly these facts: a value where there is init and nowhere else, reached through records and
-- callmessages, and the component of each case. Language reference, "Facts".
pub record HasExactly {N : Type 0} (ps : Parts N) (facts : Fact → Type 0) : Type 0 where
  pub values : (p : Path) → IsTrue (has_value ps p) ↔ facts (init p)
  pub components : (p : Path) (c : ℕ) → facts (case p c) → IsTrue (satisfies ps (case p c))
