use Rattle.std.proofs.Common.{◌≡◌, ℕ, ◌<◌, length, Some, slice_get}
use Rattle.herm_model.specs.Paths.{Fact}
use Rattle.herm_types.specs.declared.fact.Fact.{Fact as FactHere}
use Rattle.herm_types.specs.View.{fact_view}
use Rattle.herm_facts.specs.FactNumbers.{number_of}
use Rattle.herm_check.proofs.alike.stand_for.Given as goal

abbrev pub invariant-loop-n : goal.invariant-loop-n
invariant-loop-n l = record {
  many : length l.by.items ≡ l.n;
  numbered : (n m : ℕ) (g : FactHere) → n < l.n → slice_get l.firsts n ≡ Some m → slice_get l.facts m ≡ Some g → (k : ℕ) × (slice_get l.by.items n ≡ Some k) × (number_of l.numbers (fact_view g) ≡ Some k);
  some : (f : Fact) (n : ℕ) → number_of l.numbers f ≡ Some n → 0 < length l.facts;
}
