use Rattle.std.proofs.Common.{◌≡◌, ℕ, false, length, Some, slice_get}
use Rattle.herm_facts.specs.NumberSets.{has_number}
use Rattle.herm_check.specs.declared.label.Label.{Label}
use Rattle.herm_check.specs.Labelled.{is_reached}
use Rattle.herm_check.proofs.labels.blank.Given as goal

abbrev pub invariant-loop : goal.invariant-loop
invariant-loop l = record {
  many : length l.labels.items ≡ l.counter;
  reached : (i : ℕ) → is_reached l.labels.items i ≡ false;
  none : (i : ℕ) (k : Label) (n : ℕ) → slice_get l.labels.items i ≡ Some k → has_number k.held n ≡ false;
}
