-- How much can still be taken from labels.
use Rattle.std.specs.Prelude.{ℕ, ◌+◌, List, [], ◌∷◌, Bool, cond, length}
use Rattle.herm_model.specs.Lists.{total}
use Rattle.herm_model.specs.Paths.{Fact}
use Rattle.herm_facts.specs.declared.fact_numbers.FactNumbers.{FactNumbers}
use Rattle.herm_check.specs.declared.label.Label.{Label}
use Rattle.herm_check.specs.Numberings.{in_set}

-- how many of these facts pass the test
abbrev pub count : (Fact → Bool) → List Fact → ℕ
count test [] = 0
count test (f ∷ fs) = cond (test f) 1 0 + count test fs

-- The facts of a label among all, and one where the point is still to be left. A point that was not reached weighs most.
abbrev pub label_weight : FactNumbers → List Fact → Label → ℕ
label_weight ns all l = cond l.reached (count (in_set ns l.held) all + cond l.pending 1 0) (length all + 2)

abbrev pub weight : FactNumbers → List Fact → List Label → ℕ
weight ns all ls = total (label_weight ns all) ls
