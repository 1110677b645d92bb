use Rattle.std.proofs.Common.{◌≡◌, ℕ, false, length, take, slice_get}
use Rattle.herm_model.specs.Lists.{map_or}
use Rattle.herm_model.specs.Paths.{Fact}
use Rattle.herm_typestate.specs.Facts.{has_fact}
use Rattle.herm_check.specs.Labelled.{holds_at}
use Rattle.herm_check.proofs.label_states.states.Given as goal

abbrev pub invariant-loop-label : goal.invariant-loop-label
invariant-loop-label l = record {
  many : length l.at.items ≡ l.label-index;
  facts : (i : ℕ) (f : Fact) → map_or false (λ s. has_fact s f) (slice_get l.at.items i) ≡ holds_at l.numbers (take l.label-index l.labels) i f;
}
