use Rattle.std.proofs.Common.{◌≡◌, ℕ, Some, [], false, length, slice_get}
use Rattle.herm_facts.specs.FactSets.{has}
use Rattle.herm_check.specs.declared.search.Rest.{Rest}
use Rattle.herm_check.proofs.search.pristine.Given as goal

abbrev pub invariant-loop : goal.invariant-loop
invariant-loop l = record {
  many : length l.rests.items ≡ l.counter;
  facts : (i j : ℕ) (r : Rest) → slice_get l.rests.items i ≡ Some r → has r.facts j ≡ false;
  edges : (i : ℕ) (r : Rest) → slice_get l.rests.items i ≡ Some r → r.edges.items ≡ [];
}
