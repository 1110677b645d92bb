-- Which edges of a point still lead to something new, while a search goes on.
use Rattle.std.specs.Prelude.{◌≡◌, ◌⊎◌, ℕ, ◌*◌, ◌<◌, List, [], length, Bool, true, false, Some, slice_get}
use Rattle.herm_model.specs.Lists.{IsIn}
use Rattle.herm_model.specs.Paths.{Fact}
use Rattle.herm_model.specs.Targets.{node}
use Rattle.herm_model.specs.ControlPaths.{Edge, Point, Flow, held_after_edge}
use Rattle.herm_facts.specs.FactSets.{has}
use Rattle.herm_facts.specs.declared.fact_set.FactSet.{FactSet}
use Rattle.herm_check.specs.declared.effects.Effect.{Effect}
use Rattle.herm_check.specs.declared.search.Visit.{Visit}
use Rattle.herm_check.specs.declared.search.Rest.{Rest}
use Rattle.herm_check.specs.Searched.{slot_of, IsFound, is_held_beyond}

-- so it is of the visit at a place
abbrev pub HasAt : List Visit → ℕ → (Visit → Type 0) → Type 0
HasAt vs k Is = (v : Visit) → slice_get vs k ≡ Some v → Is v

-- a point was seen with the fact with a number, held or not
abbrev pub IsSeen : List FactSet → ℕ → ℕ → Bool → Type 0
IsSeen seen j t held = (s : FactSet) × (slice_get seen (slot_of t held) ≡ Some s) × (has s j ≡ true)

-- a point was seen with each fact of a visit, held or not as it is behind an edge
abbrev pub IsSeenBeyond : List FactSet → Effect → Visit → ℕ → Type 0
IsSeenBeyond seen effect u t = (j : ℕ) → has u.facts j ≡ true → IsSeen seen j t (is_held_beyond effect u j)

-- the point to which an edge leads was visited with the fact with a number, held or not as it is behind the edge
abbrev pub IsMet : List Visit → Fact → ℕ → Bool → Edge → Type 0
IsMet vs f j held e = (t : ℕ) → e.target ≡ node t → (most : ℕ) × IsFound j vs t (held_after_edge e f held) most

-- Of a point with facts held or not: its edges but those with these numbers lead to nothing new for these facts.
pub record IsRestAt (flow : Flow) (facts : List Fact) (vs : List Visit) (t : ℕ) (held : Bool) (set : FactSet) (numbers : List ℕ) : Type 0 where
  pub within : (p : Point) (n : ℕ) → slice_get flow.points t ≡ Some p → IsIn n numbers → n < length p.edges
  pub met : (p : Point) (n : ℕ) (e : Edge) → slice_get flow.points t ≡ Some p → slice_get p.edges n ≡ Some e → IsIn n numbers ⊎ ((j : ℕ) (f : Fact) → slice_get facts j ≡ Some f → has set j ≡ true → IsMet vs f j held e)

-- so it is of each point, with facts held or not
pub record AreRests (flow : Flow) (facts : List Fact) (vs : List Visit) (rests : List Rest) : Type 0 where
  pub many : length rests ≡ 2 * length flow.points
  pub each : (t : ℕ) (held : Bool) (r : Rest) → slice_get rests (slot_of t held) ≡ Some r → IsRestAt flow facts vs t held r.facts r.edges.items

-- so many of which nothing is known
pub record ArePristine (count : ℕ) (rests : List Rest) : Type 0 where
  pub many : length rests ≡ count
  pub facts : (i j : ℕ) (r : Rest) → slice_get rests i ≡ Some r → has r.facts j ≡ false
  pub edges : (i : ℕ) (r : Rest) → slice_get rests i ≡ Some r → r.edges.items ≡ []
