use Rattle.std.proofs.Common.{◌≡◌, ℕ, ◌<◌}
use Rattle.herm_words.specs.Stretches.{IsLaid, AreLaid}
use Rattle.herm_words.proofs.paths.lay_all.Given as goal

abbrev pub invariant-loop-place : goal.invariant-loop-place
invariant-loop-place l = record {
  visits : l.paths.visits.items ≡ l.initial.paths.visits.items;
  laid : AreLaid l.types l.sites l.paths;
  all : (k : ℕ) → k < l.place → IsLaid l.paths.stretches.items k;
}
