-- What edges do with the facts of a search.
use Rattle.std.specs.Prelude.{◌≡◌, ℕ, ◌+◌, ◌*◌, ◌<◌, List, length, Bool, Some, slice_get, take, drop}
use Rattle.std.specs.declared.vec.Vec.{Vec}
use Rattle.std.specs.declared.alloc.Global.{Global}
use Rattle.herm_model.specs.Lists.{any_pass}
use Rattle.herm_model.specs.Paths.{Fact, same_fact, path_of, is_at_or_below}
use Rattle.herm_model.specs.ControlPaths.{Edge, Point, Flow}
use Rattle.herm_flow.specs.declared.onward.OnwardEdge.{OnwardEdge}
use Rattle.herm_flow.specs.declared.onward.OnwardPoint.{OnwardPoint}
use Rattle.herm_flow.specs.declared.onward.OnwardFlow.{OnwardFlow}
use Rattle.herm_facts.specs.declared.fact_set.FactSet.{FactSet}
use Rattle.herm_facts.specs.declared.sparse_set.SparseSet.{SparseSet}
use Rattle.herm_facts.specs.FactSets.{has}
use Rattle.herm_facts.specs.NumberSets.{has_at}
use Rattle.herm_check.specs.declared.effects.Effect.{Effect}
use Rattle.herm_check.specs.declared.lists.ListsOf.{ListsOf}
use Rattle.herm_check.specs.Lists.{at_has, is_made_number, is_killed_number}

-- the edge makes the fact
abbrev pub is_made : Edge → Fact → Bool
is_made e f = any_pass (same_fact f) e.makes

-- the edge takes the fact away
abbrev pub is_taken : Edge → Fact → Bool
is_taken e f = any_pass (λ p. is_at_or_below p (path_of f)) e.kills

-- of all facts by their numbers, those that share a search: fact j of search s is number 64 * s + j
abbrev pub share : List Fact → ℕ → List Fact
share facts s = take 64 (drop (64 * s) facts)

-- these are the words of the sets that have the numbers of a search
abbrev pub AreWords : List SparseSet → ℕ → List FactSet → Type 0
AreWords sets s words = (i j : ℕ) → j < 64 → has_at words i j ≡ at_has sets i (64 * s + j)

-- the effect has what the edge's lists have in these words
abbrev pub IsEffectOf : List FactSet → List FactSet → OnwardEdge → Effect → Type 0
IsEffectOf made gone e effect = (j : ℕ) → (has effect.made j ≡ any_pass (λ m. has_at made m j) e.makes.items) × (has effect.killed j ≡ has_at gone e.kills j)

-- the effect has the numbers of a search that the edge's lists have
abbrev pub IsEffectBy : ListsOf → ℕ → OnwardEdge → Effect → Type 0
IsEffectBy lists s e effect = (j : ℕ) → j < 64 → (has effect.made j ≡ is_made_number lists e (64 * s + j)) × (has effect.killed j ≡ is_killed_number lists e (64 * s + j))

-- so it is of each edge of a point
pub record AreEffectsBy (lists : ListsOf) (s : ℕ) (edges : List OnwardEdge) (effects : List Effect) : Type 0 where
  pub many : length effects ≡ length edges
  pub each : (n : ℕ) (e : OnwardEdge) (effect : Effect) → slice_get edges n ≡ Some e → slice_get effects n ≡ Some effect → IsEffectBy lists s e effect

-- so it is of each point
pub record AreEffectsByIn (flow : OnwardFlow) (lists : List ListsOf) (s : ℕ) (effects : List (Vec Effect Global)) : Type 0 where
  pub many : length effects ≡ length flow.points.items
  pub each : (i : ℕ) (p : OnwardPoint) (l : ListsOf) (row : Vec Effect Global) → slice_get flow.points.items i ≡ Some p → slice_get lists i ≡ Some l → slice_get effects i ≡ Some row → AreEffectsBy l s p.edges.items row.items

-- of these facts, those that an edge makes and those that it takes away are these
abbrev pub IsEffect : List Fact → Edge → Effect → Type 0
IsEffect facts e effect = (j : ℕ) (f : Fact) → slice_get facts j ≡ Some f → (has effect.made j ≡ is_made e f) × (has effect.killed j ≡ is_taken e f)

-- so it is of each edge of a point
pub record AreEffects (facts : List Fact) (edges : List Edge) (effects : List Effect) : Type 0 where
  pub many : length effects ≡ length edges
  pub each : (n : ℕ) (e : Edge) (effect : Effect) → slice_get edges n ≡ Some e → slice_get effects n ≡ Some effect → IsEffect facts e effect

-- so it is of each point
pub record AreEffectsIn (flow : Flow) (facts : List Fact) (effects : List (Vec Effect Global)) : Type 0 where
  pub many : length effects ≡ length flow.points
  pub each : (i : ℕ) (p : Point) (row : Vec Effect Global) → slice_get flow.points i ≡ Some p → slice_get effects i ≡ Some row → AreEffects facts p.edges row.items
