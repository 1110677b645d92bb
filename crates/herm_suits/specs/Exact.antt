-- Tests of messages: whether values stand exactly where listed facts tell of them. A lemma says that they decide it.
use Rattle.std.specs.Prelude.{ℕ, suc, List, [], ◌∷◌, ◌++◌, Bool, true, false, cond, ◌&&◌, Option, Some, slice_get}
use Rattle.herm_model.specs.Lists.{all_pass, any_pass}
use Rattle.herm_model.specs.Paths.{Path, Fact, init, case, path_of, is_at_or_below}
use Rattle.herm_model.specs.Types.{Shape, inport, TypeTable}
use Rattle.herm_model.specs.Values.{Cell, cell, Parts, no_parts, gap, part, opens, cell_at, has_value}
use Rattle.herm_model.specs.FactsOfValues.{is_component}
use Rattle.herm_model.specs.Typed.{whole, partly}
use Rattle.herm_suits.specs.Decided.{is_of}

-- the steps of a path from its variable on
abbrev pub steps : Path → List ℕ
steps [] = []
steps (v ∷ q) = q

abbrev pub steps_of : Fact → List ℕ
steps_of f = steps (path_of f)

-- a fact speaks of the value at the end of these steps, or of one further on
abbrev pub is_on_way : List Fact → List ℕ → Bool
is_on_way facts p = any_pass (λ f. is_at_or_below p (steps_of f)) facts

-- each value in a cell at the end of these steps is on the way to a fact
abbrev mutual
  pub is_within : {N : Type 0} → Cell N → List Fact → List ℕ → Bool
  is_within (cell n k ps) facts p = cond (opens k) (are_within ps facts p 0) true

  pub are_within : {N : Type 0} → Parts N → List Fact → List ℕ → (first : ℕ) → Bool
  are_within no_parts facts p i = true
  are_within (gap ps) facts p i = are_within ps facts p (suc i)
  are_within (part c ps) facts p i = (is_on_way facts (p ++ i ∷ []) && is_within c facts (p ++ i ∷ [])) && are_within ps facts p (suc i)

-- the value of which a fact speaks is there, and has the component
abbrev pub is_met : {N : Type 0} → Cell N → Fact → Bool
is_met c (init p) = has_value (part c no_parts) (0 ∷ steps p)
is_met c (case p d) = is_component (cell_at (0 ∷ steps p) (part c no_parts)) d

-- each fact is met, and each value is on the way to one
abbrev pub is_exact : {N : Type 0} → Cell N → List Fact → Bool
is_exact c facts = all_pass (is_met c) facts && is_within c facts []

-- a message of this type at the listed facts; where none is listed, a full one
abbrev pub is_message_of : {N : Type 0} → TypeTable → (message : ℕ) → List Fact → Cell N → Bool
is_message_of table t [] c = is_of whole table t c
is_message_of table t (f ∷ fs) c = is_of partly table t c && is_exact c (f ∷ fs)

-- a message of a port of this type
abbrev pub is_of_port : {N : Type 0} → TypeTable → Option Shape → Cell N → Bool
is_of_port table (Some (inport t declared)) c = is_message_of table t declared c
is_of_port table o c = false

abbrev pub is_message : {N : Type 0} → TypeTable → (port : ℕ) → Cell N → Bool
is_message table port c = is_of_port table (slice_get table port) c
