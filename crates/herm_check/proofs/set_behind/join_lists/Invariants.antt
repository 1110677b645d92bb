use Rattle.std.proofs.Common.{◌≡◌, ◌||◌, ℕ, take}
use Rattle.herm_model.specs.Lists.{any_pass}
use Rattle.herm_facts.specs.NumberSets.{has_number}
use Rattle.herm_check.specs.Lists.{at_has}
use Rattle.herm_check.proofs.set_behind.join_lists.Given as goal

abbrev pub invariant-loop-list : goal.invariant-loop-list
invariant-loop-list l = (n : ℕ) → has_number l.held n ≡ (has_number l.initial.held n || any_pass (λ m. at_has l.made m n) (take l.list-index l.lists))
