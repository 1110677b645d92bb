use Rattle.std.proofs.Common.{◌≡◌, ◌≤◌, ◌-◌, map, take, length}
use Rattle.herm_types.specs.Chosen.{lists}
use Rattle.herm_numbers.specs.Counts.{part_types}
use Rattle.herm_numbers.proofs.counts.all_part_types.Given as goal

abbrev pub invariant-types : goal.invariant-types
invariant-types l = record {
  within : l.t ≤ length l.types.shapes;
  types : lists l.found.items ≡ map part_types (take l.t l.types.shapes);
}

abbrev pub decreases-types : goal.decreases-types
decreases-types l = length l.types.shapes - l.t
