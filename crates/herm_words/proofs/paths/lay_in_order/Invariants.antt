use Rattle.std.proofs.Common.{◌≡◌}
use Rattle.herm_words.specs.Stretches.{AreLaid}
use Rattle.herm_words.proofs.paths.lay_in_order.Given as goal

abbrev pub invariant-loop-place : goal.invariant-loop-place
invariant-loop-place l = record {
  visits : l.paths.visits.items ≡ l.initial.paths.visits.items;
  laid : AreLaid l.types l.sites l.paths;
}
