use Rattle.std.proofs.Common.{◌≡◌, ◌++◌, map, drop, option_map}
use Rattle.herm_code_machine.specs.Stacks.{scalars_of}
use Rattle.herm_values.specs.View.{value_view, key_view}
use Rattle.herm_stack.proofs.scalars.scalars_of.Given as goal

abbrev pub invariant-values : goal.invariant-values
invariant-values l = option_map (λ more. key_view l.key.items ++ more) (scalars_of (map value_view (drop l.v-index l.values))) ≡ scalars_of (map value_view l.values)
