use Rattle.std.proofs.Common.{◌≡◌, ℕ, ◌<◌, ◌+◌, ◌*◌, true}
use Rattle.herm_facts.specs.FactSets.{has}
use Rattle.herm_facts.specs.NumberSets.{has_number}
use Rattle.herm_check.specs.Alike.{IsCovered}
use Rattle.herm_check.proofs.alike.is_word_covered.Given as goal

abbrev pub invariant-loop-j : goal.invariant-loop-j
invariant-loop-j l = (j : ℕ) → j < l.j → has l.word j ≡ true → IsCovered (has_number l.set) l.firsts l.groups (64 * l.at + j)
