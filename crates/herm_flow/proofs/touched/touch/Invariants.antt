use Rattle.std.proofs.Common.{◌⊎◌, ℕ, drop}
use Rattle.herm_model.specs.Lists.{IsIn}
use Rattle.herm_flow.specs.Touched.{HavePlaces, numbers_at, touched_by}
use Rattle.herm_flow.proofs.touched.touch.Given as goal

-- What is touched by parameters that are not left was found.
abbrev pub invariant-each : goal.invariant-each
invariant-each l = record {
  placed : HavePlaces l.places.items l.found.items;
  more : (n : ℕ) → IsIn n (touched_by (numbers_at l.numbers) l.keeps) → IsIn n l.found.items ⊎ IsIn n (touched_by (numbers_at l.numbers) (drop l.parameter-index l.keeps));
  only : (n : ℕ) → IsIn n l.found.items → IsIn n (touched_by (numbers_at l.numbers) l.keeps);
}
