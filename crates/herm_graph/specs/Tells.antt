-- What a test says of a fact.
use Rattle.std.specs.Prelude.{Bool, true, false}

-- the test says whether the fact holds
abbrev pub Tells : Bool → Type 0 → Type 0
Tells true fact = fact
Tells false fact = fact → ⊥

-- the test says whether the fact fails
abbrev pub Refutes : Bool → Type 0 → Type 0
Refutes true fact = fact → ⊥
Refutes false fact = fact
