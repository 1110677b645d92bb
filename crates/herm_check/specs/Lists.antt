-- The lists of points as sets of the numbers that facts have.
use Rattle.std.specs.Prelude.{◌≡◌, ◌↔◌, ℕ, List, length, Bool, true, false, Some, slice_get}
use Rattle.herm_model.specs.Lists.{IsIn, any_pass, map_or}
use Rattle.herm_model.specs.Paths.{Path, Fact, path_of, is_at_or_below}
use Rattle.herm_flow.specs.declared.onward.OnwardEdge.{OnwardEdge}
use Rattle.herm_flow.specs.declared.onward.OnwardPoint.{OnwardPoint}
use Rattle.herm_flow.specs.declared.onward.OnwardFlow.{OnwardFlow}
use Rattle.herm_flow.specs.OnwardView.{facts_in, paths_in}
use Rattle.herm_facts.specs.declared.fact_numbers.FactNumbers.{FactNumbers}
use Rattle.herm_facts.specs.declared.sparse_set.SparseSet.{SparseSet}
use Rattle.herm_facts.specs.FactNumbers.{number_of}
use Rattle.herm_facts.specs.SparseSets.{has_sparse}
use Rattle.herm_check.specs.declared.lists.ListsOf.{ListsOf}

-- the set at a place has the number; where there is no set, it has none
abbrev pub at_has : List SparseSet → ℕ → ℕ → Bool
at_has sets i n = map_or false (λ (s : SparseSet). has_sparse s n) (slice_get sets i)

-- the set has the numbers of these facts, and no others
abbrev pub HasFacts : FactNumbers → List Fact → (ℕ → Bool) → Type 0
HasFacts ns facts set = (n : ℕ) → (set n ≡ true) ↔ ((f : Fact) × (number_of ns f ≡ Some n) × IsIn f facts)

-- the set has the numbers of the facts at these paths and below, and no others
abbrev pub HasBelow : FactNumbers → List Path → (ℕ → Bool) → Type 0
HasBelow ns paths set = (n : ℕ) → (set n ≡ true) ↔ ((f : Fact) × (number_of ns f ≡ Some n) × (any_pass (λ p. is_at_or_below p (path_of f)) paths ≡ true))

-- The sets are the lists of the point, by their places.
pub record AreListsOf (ns : FactNumbers) (p : OnwardPoint) (l : ListsOf) : Type 0 where
  pub made : (i : ℕ) → HasFacts ns (facts_in p.made.items i) (at_has l.made.items i)
  pub gone : (i : ℕ) → HasBelow ns (paths_in p.gone.items i) (at_has l.gone.items i)

-- so it is of each point
pub record AreListsIn (ns : FactNumbers) (flow : OnwardFlow) (lists : List ListsOf) : Type 0 where
  pub many : length lists ≡ length flow.points.items
  pub each : (i : ℕ) (p : OnwardPoint) (l : ListsOf) → slice_get flow.points.items i ≡ Some p → slice_get lists i ≡ Some l → AreListsOf ns p l

-- a list whose facts the edge makes has the number
abbrev pub is_made_number : ListsOf → OnwardEdge → ℕ → Bool
is_made_number l e n = any_pass (λ m. at_has l.made.items m n) e.makes.items

-- the list whose paths the edge takes away has it
abbrev pub is_killed_number : ListsOf → OnwardEdge → ℕ → Bool
is_killed_number l e n = at_has l.gone.items e.kills n
