-- What a search for control paths has found, of several facts at once.
use Rattle.std.specs.Prelude.{◌≡◌, ℕ, ◌+◌, ◌*◌, ◌/◌, ◌%◌, ◌≤◌, ◌<◌, List, [], ◌∷◌, ◌++◌, length, Bool, true, false, cond, not, ◌&&◌, ◌||◌, Option, Some, None, slice_get, slice_set}
use Rattle.std.specs.declared.vec.Vec.{Vec}
use Rattle.std.specs.declared.alloc.Global.{Global}
use Rattle.herm_model.specs.Lists.{IsIn, total}
use Rattle.herm_model.specs.Paths.{Fact}
use Rattle.herm_model.specs.Targets.{node}
use Rattle.herm_model.specs.ControlPaths.{Edge, Point, Flow, Hop, held_after_edge, held_at_start, LacksBy}
use Rattle.herm_check.specs.View.{hop_view}
use Rattle.herm_facts.specs.FactSets.{has}
use Rattle.herm_check.specs.FactSets.{unseen}
use Rattle.herm_facts.specs.declared.fact_set.FactSet.{FactSet}
use Rattle.herm_facts.specs.declared.fact_numbers.FactNumbers.{FactNumbers}
use Rattle.herm_facts.specs.FactNumbers.{number_of}
use Rattle.herm_check.specs.declared.effects.Effect.{Effect}
use Rattle.herm_check.specs.declared.search.Link.{Link}
use Rattle.herm_check.specs.declared.search.Visit.{Visit}
use Rattle.herm_check.specs.declared.search.Search.{Search}

abbrev pub Places : Type 0
Places = List (Vec ℕ Global)

-- the place of a point, with facts held or not
abbrev pub slot_of : ℕ → Bool → ℕ
slot_of point held = 2 * point + cond held 1 0

-- the visit is of the fact with a number too
abbrev pub IsOf : ℕ → Visit → Type 0
IsOf j v = has v.facts j ≡ true

-- a point was visited with the fact held or not, behind at most so many hops
pub record IsFound (j : ℕ) (vs : List Visit) (point : ℕ) (held : Bool) (most : ℕ) : Type 0 where
  pub at : ℕ
  pub visit : Visit
  pub is : slice_get vs at ≡ Some visit
  pub of : IsOf j visit
  pub same_point : visit.point ≡ point
  pub same_held : visit.held ≡ held
  pub near : visit.depth ≤ most

-- the visit at a place goes by its link from one of the same fact before it, along an edge
pub record IsLinked (flow : Flow) (f : Fact) (j : ℕ) (vs : List Visit) (k : ℕ) (v : Visit) (l : Link) : Type 0 where
  pub before : l.from < k
  pub visit : Visit
  pub is : slice_get vs l.from ≡ Some visit
  pub of : IsOf j visit
  pub point : Point
  pub point_is : slice_get flow.points visit.point ≡ Some point
  pub edge : Edge
  pub member : IsIn edge point.edges
  pub hop : hop_view l.hop ≡ record { number = point.number; outcome = edge.outcome }
  pub target : edge.target ≡ node v.point
  pub held : v.held ≡ held_after_edge edge f visit.held
  pub depth : v.depth ≡ visit.depth + 1

-- a visit begins at the first point, or goes by its link
abbrev pub IsLast : Flow → Fact → ℕ → List Visit → ℕ → Visit → Option Link → Type 0
IsLast flow f j vs k v None = (v.point ≡ 0) × (v.held ≡ held_at_start f) × (v.depth ≡ 0)
IsLast flow f j vs k v (Some l) = IsLinked flow f j vs k v l

-- how many of the visits are of the fact with a number
abbrev pub visits_of : ℕ → List Visit → ℕ
visits_of j vs = total (λ (v : Visit). cond (has v.facts j) 1 0) vs

-- how many of the sets do not have a number
abbrev pub sets_without : ℕ → List FactSet → ℕ
sets_without j seen = total (λ (s : FactSet). cond (has s j) 0 1) seen

-- What was found of one fact, by its number. The first point was visited; each visit is linked to one before it; the point of each is seen with the fact held or not, and no point is so twice.
pub record IsSearch (flow : Flow) (f : Fact) (j : ℕ) (vs : List Visit) (seen : List FactSet) : Type 0 where
  pub begins : IsFound j vs 0 (held_at_start f) 0
  pub linked : (k : ℕ) (v : Visit) → slice_get vs k ≡ Some v → IsOf j v → IsLast flow f j vs k v v.last
  pub visited : (t : ℕ) (held : Bool) (s : FactSet) → slice_get seen (slot_of t held) ≡ Some s → has s j ≡ true → (k : ℕ) × (v : Visit) × (slice_get vs k ≡ Some v) × IsOf j v × (v.point ≡ t) × (v.held ≡ held)
  pub seen_at : (k : ℕ) (v : Visit) → slice_get vs k ≡ Some v → IsOf j v → (s : FactSet) × (slice_get seen (slot_of v.point v.held) ≡ Some s) × (has s j ≡ true)
  pub once : (k l : ℕ) (u v : Visit) → slice_get vs k ≡ Some u → slice_get vs l ≡ Some v → IsOf j u → IsOf j v → u.point ≡ v.point → u.held ≡ v.held → k ≡ l
  pub count : visits_of j vs + sets_without j seen ≡ 2 * length flow.points

-- What was found of all facts. The depths rise along the visits, each visit leads back, and the places of each point's visits are listed.
pub record HasVisits (flow : Flow) (vs : List Visit) (seen : List FactSet) (places : Places) : Type 0 where
  pub there : (k : ℕ) (v : Visit) → slice_get vs k ≡ Some v → v.point < length flow.points
  pub rising : (j k : ℕ) (u v : Visit) → slice_get vs j ≡ Some u → slice_get vs k ≡ Some v → j ≤ k → u.depth ≤ v.depth
  pub back : (k : ℕ) (v : Visit) (l : Link) → slice_get vs k ≡ Some v → v.last ≡ Some l → l.from < k
  pub listed : (t : ℕ) (held : Bool) (row : Vec ℕ Global) (k : ℕ) → slice_get places (slot_of t held) ≡ Some row → IsIn k row.items → (v : Visit) × (slice_get vs k ≡ Some v) × (v.point ≡ t) × (v.held ≡ held)
  pub placed : (k : ℕ) (v : Visit) → slice_get vs k ≡ Some v → (row : Vec ℕ Global) × (slice_get places (slot_of v.point v.held) ≡ Some row) × IsIn k row.items
  pub many : length seen ≡ 2 * length flow.points
  pub rows : length places ≡ 2 * length flow.points
  pub count : length vs + unseen seen ≤ 64 * (2 * length flow.points)
  pub deep : (k : ℕ) (v : Visit) → slice_get vs k ≡ Some v → v.depth ≤ k

abbrev pub AreVisits : Flow → Search → Type 0
AreVisits flow s = HasVisits flow s.visits.items s.seen.items s.places.items

-- no visit is more than one hop behind the one at a place
abbrev pub IsNear : List Visit → ℕ → Type 0
IsNear vs k = (i : ℕ) (u v : Visit) → slice_get vs k ≡ Some u → slice_get vs i ≡ Some v → v.depth ≤ u.depth + 1

-- the edges were followed from a visit
abbrev pub AreFollowed : Fact → ℕ → List Visit → Visit → List Edge → Type 0
AreFollowed f j vs u edges = (e : Edge) (t : ℕ) → IsIn e edges → e.target ≡ node t → IsFound j vs t (held_after_edge e f u.held) (u.depth + 1)

-- each edge was followed from the visits of a fact before a place
abbrev pub AreLeft : Flow → Fact → ℕ → List Visit → ℕ → Type 0
AreLeft flow f j vs n = (i : ℕ) (u : Visit) (p : Point) → i < n → slice_get vs i ≡ Some u → IsOf j u → slice_get flow.points u.point ≡ Some p → AreFollowed f j vs u p.edges

-- the visits stay where they are
abbrev pub IsKept : List Visit → List Visit → Type 0
IsKept old new = (k : ℕ) (v : Visit) → slice_get old k ≡ Some v → slice_get new k ≡ Some v

-- nothing was visited of so many points, with facts held or not
pub record IsUnvisited (count : ℕ) (s : Search) : Type 0 where
  pub visits : s.visits.items ≡ []
  pub many : length s.seen.items ≡ count
  pub seen : (i j : ℕ) (set : FactSet) → slice_get s.seen.items i ≡ Some set → has set j ≡ false
  pub rows : length s.places.items ≡ count
  pub places : (i : ℕ) (row : Vec ℕ Global) → slice_get s.places.items i ≡ Some row → row.items ≡ []

-- the visit, of these facts
abbrev pub with_facts : Visit → FactSet → Visit
with_facts v facts = record { point = v.point; held = v.held; facts = facts; depth = v.depth; last = v.last }

-- a visit was added of those of its facts with which its point was not seen alike, or it was seen with all of them
pub data IsVisited (v : Visit) (vs : List Visit) (seen : List FactSet) (places : Places) : List Visit → List FactSet → Places → Type 0 where
  again : (s : FactSet) → slice_get seen (slot_of v.point v.held) ≡ Some s → ((j : ℕ) → has v.facts j ≡ true → has s j ≡ true) → IsVisited v vs seen places vs seen places
  added : (s facts now : FactSet) (row more : Vec ℕ Global) → slice_get seen (slot_of v.point v.held) ≡ Some s → slice_get places (slot_of v.point v.held) ≡ Some row
      → ((j : ℕ) → has facts j ≡ (has v.facts j && not (has s j))) → ((j : ℕ) → has now j ≡ (has s j || has facts j)) → ((j : ℕ) × (j < 64) × (has facts j ≡ true)) → more.items ≡ row.items ++ length vs ∷ []
      → IsVisited v vs seen places (vs ++ with_facts v facts ∷ []) (slice_set seen (slot_of v.point v.held) now) (slice_set places (slot_of v.point v.held) more)

-- whether the fact of a visit with a number is held behind an edge
abbrev pub is_held_beyond : Effect → Visit → ℕ → Bool
is_held_beyond effect u j = has u.facts j && (has effect.made j || (u.held && not (has effect.killed j)))

-- a visit of a point by a link
abbrev pub visit_by : ℕ → Bool → FactSet → ℕ → Link → Visit
visit_by t held facts depth l = record { point = t; held = held; facts = facts; depth = depth; last = Some l }

-- an edge of a statement was followed from a visit, which has this place: to an end, or to a point that was visited, with the facts that are held behind the edge and those that are not
pub data IsFollowedFrom (number : ℕ) (e : Edge) (effect : Effect) (from : ℕ) (u : Visit) (vs : List Visit) (seen : List FactSet) (places : Places) : List Visit → List FactSet → Places → Type 0 where
  ends : ((t : ℕ) → e.target ≡ node t → ⊥) → IsFollowedFrom number e effect from u vs seen places vs seen places
  leads : (t : ℕ) (l : Link) (held lost : FactSet) (ms ws : List Visit) (mid now : List FactSet) (more rows : Places) → e.target ≡ node t → l.from ≡ from → hop_view l.hop ≡ record { number = number; outcome = e.outcome }
      → ((j : ℕ) → has held j ≡ is_held_beyond effect u j) → ((j : ℕ) → has lost j ≡ (has u.facts j && not (has held j)))
      → IsVisited (visit_by t true held (u.depth + 1) l) vs seen places ms mid more → IsVisited (visit_by t false lost (u.depth + 1) l) ms mid more ws now rows → IsFollowedFrom number e effect from u vs seen places ws now rows

-- each of these facts was searched for, and each edge was followed from the visits before a place
pub record IsSearching (flow : Flow) (facts : List Fact) (s : Search) (n : ℕ) : Type 0 where
  pub visits : AreVisits flow s
  pub within : n ≤ length s.visits.items
  pub near : IsNear s.visits.items n
  pub each : (j : ℕ) (f : Fact) → slice_get facts j ≡ Some f → IsSearch flow f j s.visits.items s.seen.items
  pub left : (j : ℕ) (f : Fact) → slice_get facts j ≡ Some f → AreLeft flow f j s.visits.items n

-- the visit at a place is of the point with the fact not held, and no such path is shorter
pub record IsNearest (flow : Flow) (f : Fact) (j i : ℕ) (vs : List Visit) (k : ℕ) : Type 0 where
  pub visit : Visit
  pub is : slice_get vs k ≡ Some visit
  pub of : IsOf j visit
  pub point : visit.point ≡ i
  pub lost : visit.held ≡ false
  pub least : (hops : List Hop) → LacksBy flow f i hops → visit.depth ≤ length hops

-- the search for the fact with a number has come to its end: each edge was followed from each visit
pub record IsSearched (flow : Flow) (f : Fact) (j : ℕ) (s : Search) : Type 0 where
  pub visits : AreVisits flow s
  pub search : IsSearch flow f j s.visits.items s.seen.items
  pub left : AreLeft flow f j s.visits.items (length s.visits.items)

-- So it is of the facts that have numbers, of which 64 by 64 share a search.
abbrev pub AreSearched : Flow → FactNumbers → List Search → Type 0
AreSearched flow numbers ss = (f : Fact) (n : ℕ) → number_of numbers f ≡ Some n → (s : Search) × (slice_get ss (n / 64) ≡ Some s) × IsSearched flow f (n % 64) s
