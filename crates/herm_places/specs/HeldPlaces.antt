-- Places in order, each with a value or empty.
use Rattle.std.specs.Prelude.{List, Option}
use Rattle.herm_values.specs.declared.value.Value.{Value}

abbrev pub HeldPlaces : Type 0
HeldPlaces = List (Option Value)
