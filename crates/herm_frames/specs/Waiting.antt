-- Values of which something waits where they are finalised.
use Rattle.std.specs.Prelude.{ℕ, ◌<◌, length, Option, Some, None}
use Rattle.herm_model.specs.Finalising.{pending}
use Rattle.herm_model.specs.Values.{Value}

-- There is a value, with an inport or a callmessage in it. Language reference, "Finalising".
abbrev pub Waits : Option Value → Type 0
Waits None = ⊥
Waits (Some c) = 0 < length (pending c)
