-- Facts by which the parts of what they speak of are looked at.
use Rattle.std.specs.Prelude.{ℕ, suc, List, [], ◌∷◌, ◌++◌, Bool, true, ◌&&◌}
use Rattle.herm_model.specs.Lists.{any_pass, all_pass}
use Rattle.herm_model.specs.Paths.{Path, Fact, init, case, same_fact}
use Rattle.herm_model.specs.Values.{Parts, no_parts, gap, part, cell_at, inside}
use Rattle.herm_model.specs.FactsOfValues.{satisfies}

-- there is init of the path among the facts
abbrev pub is_said : List Fact → Path → Bool
is_said facts p = any_pass (same_fact (init p)) facts

-- each place that is not empty passes the test, where the first has this number
abbrev pub parts_pass : {N : Type 0} → (ℕ → Bool) → ℕ → Parts N → Bool
parts_pass test k no_parts = true
parts_pass test k (gap ps) = parts_pass test (suc k) ps
parts_pass test k (part c ps) = test k && parts_pass test (suc k) ps

-- there is init of each part of what an init speaks of
abbrev pub is_closed : {N : Type 0} → Parts N → List Fact → Fact → Bool
is_closed ps facts (init p) = parts_pass (λ i. is_said facts (p ++ i ∷ [])) 0 (inside (cell_at p ps))
is_closed ps facts (case p c) = true

-- the facts hold, and there is init of the first variable and of each part of what an init speaks of
abbrev pub are_all : {N : Type 0} → Parts N → List Fact → Bool
are_all ps facts = is_said facts (0 ∷ []) && all_pass (λ f. satisfies ps f && is_closed ps facts f) facts
