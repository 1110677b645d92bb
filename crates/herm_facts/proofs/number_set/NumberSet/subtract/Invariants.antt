use Rattle.std.proofs.Common.{◌≡◌, ◌&&◌, not, ℕ, take}
use Rattle.herm_model.specs.Lists.{any_pass}
use Rattle.herm_facts.specs.NumberSets.{has_number}
use Rattle.herm_facts.specs.SparseSets.{word_has}
use Rattle.herm_facts.proofs.number_set.NumberSet.subtract.Given as goal

abbrev pub invariant-loop-word : goal.invariant-loop-word
invariant-loop-word l = (n : ℕ) → has_number l.self n ≡ (has_number l.initial.self n && not (any_pass (word_has n) (take l.word-index l.word-items)))
