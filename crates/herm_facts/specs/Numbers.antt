-- The numbers that trees give facts, and a list of facts beside them.
use Rattle.std.specs.Prelude.{◌≡◌, ◌↔◌, ◌⊎◌, ℕ, List, [], ◌∷◌, ◌++◌, map, cond, nat_eq, Option, Some, None, slice_get, Bool, true, not, ◌&&◌}
use Rattle.herm_model.specs.Lists.{IsIn, any_pass, map_or}
use Rattle.herm_model.specs.Statements.{Differ}
use Rattle.herm_model.specs.Paths.{Path, Fact, init, case, path_of, same_path}
use Rattle.herm_facts.specs.declared.numbered.Known.{Known}
use Rattle.herm_facts.specs.declared.numbered.Numbered.{Numbered, out-Numbered}

-- the numbers of a path's facts: of `init`, and of each component
pub record Numbers : Type 0 where
  pub here : Option ℕ
  pub known : List Known

abbrev pub no_numbers : Numbers
no_numbers = record { here = None; known = [] }

-- the component that a fact names; `init` names none
abbrev pub component_of : Fact → Option ℕ
component_of (init p) = None
component_of (case p c) = Some c

-- the number of a component
abbrev pub number_among : ℕ → List Known → Option ℕ
number_among c [] = None
number_among c (k ∷ ks) = cond (nat_eq c k.component) (Some k.number) (number_among c ks)

-- the number of the fact that names this component, or of `init`
abbrev pub number_by : Numbers → Option ℕ → Option ℕ
number_by ns None = ns.here
number_by ns (Some c) = number_among c ns.known

abbrev pub here_list : Option ℕ → List ℕ
here_list None = []
here_list (Some n) = n ∷ []

-- all of them
abbrev pub all_numbers : Numbers → List ℕ
all_numbers ns = here_list ns.here ++ map (λ k. k.number) ns.known

-- the tree's own numbers
abbrev pub own_numbers : Numbered → Numbers
own_numbers t = record { here = (out-Numbered t).here; known = (out-Numbered t).known.items }

-- those of the tree at the end of these steps
abbrev pub numbers_in : List ℕ → Numbered → Numbers
numbers_in [] t = own_numbers t
numbers_in (i ∷ p) t = map_or no_numbers (numbers_in p) (slice_get (out-Numbered t).parts.items i)

-- the same of several trees by their places, from which the first step chooses
abbrev pub numbers_at : List Numbered → Path → Numbers
numbers_at ts [] = no_numbers
numbers_at ts (i ∷ p) = map_or no_numbers (numbers_in p) (slice_get ts i)

-- one more number
abbrev pub with_number : Option ℕ → ℕ → Numbers → Numbers
with_number None n ns = record { here = Some n; known = ns.known }
with_number (Some c) n ns = record { here = ns.here; known = ns.known ++ record { component = c; number = n } ∷ [] }

-- what stands at the second path where the fact at the first path gets this number
abbrev pub given : Path → Option ℕ → ℕ → Path → Numbers → Numbers
given p m n q ns = cond (same_path p q) (with_number m n ns) ns

-- the number that trees give a fact
abbrev pub number_in : List Numbered → Fact → Option ℕ
number_in ts f = number_by (numbers_at ts (path_of f)) (component_of f)

-- no number stands twice in the list
abbrev pub stand_once : List ℕ → Bool
stand_once [] = true
stand_once (n ∷ ns) = not (any_pass (nat_eq n) ns) && stand_once ns

-- The trees give the facts of the list their places, and no fact else a number. No component stands twice at a path.
pub record AreTreesOf (ts : List Numbered) (fs : List Fact) : Type 0 where
  pub listed : (f : Fact) (n : ℕ) → (slice_get fs n ≡ Some f) ↔ (number_in ts f ≡ Some n)
  pub differ : (q : Path) → stand_once (map (λ k. k.component) (numbers_at ts q).known) ≡ true

-- No number stands twice at a path, or at two.
pub record AreOnce (numbers : Path → Numbers) : Type 0 where
  pub apart : (q r : Path) (n : ℕ) → IsIn n (all_numbers (numbers q)) → IsIn n (all_numbers (numbers r)) → q ≡ r
  pub once : (q : Path) → Differ (all_numbers (numbers q))

-- the new list has these numbers behind the old one, each once where S holds
pub record Appends (S : Type 0) (P : ℕ → Type 0) (old new : List ℕ) : Type 0 where
  pub added : List ℕ
  pub behind : new ≡ old ++ added
  pub each : (n : ℕ) → IsIn n added ↔ P n
  pub once : S → Differ added

-- the new list has the numbers that the old one has, and these
abbrev pub Adds : (ℕ → Type 0) → List ℕ → List ℕ → Type 0
Adds P old new = (n : ℕ) → IsIn n new ↔ (IsIn n old ⊎ P n)
