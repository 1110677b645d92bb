use Rattle.std.proofs.Common.{◌≡◌, ◌≤◌, ◌-◌, take, length}
use Rattle.herm_numbers.proofs.part_names.part_names.Given as goal

abbrev pub invariant-types : goal.invariant-types
invariant-types l = record {
  within : l.t ≤ length l.types.shapes;
  names : l.found.items ≡ take l.t l.types.parts;
}

abbrev pub decreases-types : goal.decreases-types
decreases-types l = length l.types.shapes - l.t
