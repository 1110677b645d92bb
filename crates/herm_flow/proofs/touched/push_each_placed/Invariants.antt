use Rattle.std.proofs.Common.{◌⊎◌, ℕ, drop}
use Rattle.herm_model.specs.Lists.{IsIn}
use Rattle.herm_flow.specs.Touched.{HavePlaces}
use Rattle.herm_flow.proofs.touched.push_each_placed.Given as goal

-- Those that are not left were pushed.
abbrev pub invariant-each : goal.invariant-each
invariant-each l = record {
  placed : HavePlaces l.places.items l.found.items;
  more : (n : ℕ) → IsIn n l.fn.found.items ⊎ IsIn n l.numbers → IsIn n l.found.items ⊎ IsIn n (drop l.number-index l.numbers);
  only : (n : ℕ) → IsIn n l.found.items → IsIn n l.fn.found.items ⊎ IsIn n l.numbers;
}
