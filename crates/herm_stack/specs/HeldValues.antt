-- Values on a stack, the top first.
use Rattle.std.specs.Prelude.{List}
use Rattle.herm_values.specs.declared.value.Value.{Value}

abbrev pub HeldValues : Type 0
HeldValues = List Value
