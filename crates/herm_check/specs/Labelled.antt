-- What labels say of a flow while they are looked for.
use Rattle.std.specs.Prelude.{◌≡◌, ◌≢◌, ℕ, ◌<◌, List, [], ◌∷◌, map, flat_map, length, Bool, true, false, Some, slice_get}
use Rattle.std.specs.declared.vec.Vec.{Vec}
use Rattle.std.specs.declared.alloc.Global.{Global}
use Rattle.herm_model.specs.Lists.{IsIn, map_or}
use Rattle.herm_model.specs.Paths.{Fact, init}
use Rattle.herm_model.specs.Targets.{Target, node}
use Rattle.herm_model.specs.ControlPaths.{Edge, Point, Flow, held_after_edge, held_at_start, IsReached, Lacks}
use Rattle.herm_model.specs.laws.FlowLaws.{IsThere}
use Rattle.herm_types.specs.declared.fact.Fact.{Fact as FactHere}
use Rattle.herm_types.specs.View.{fact_view}
use Rattle.herm_flow.specs.declared.onward.OnwardPoint.{OnwardPoint}
use Rattle.herm_flow.specs.declared.onward.OnwardFlow.{OnwardFlow}
use Rattle.herm_facts.specs.declared.fact_numbers.FactNumbers.{FactNumbers}
use Rattle.herm_facts.specs.FactNumbers.{AreApart}
use Rattle.herm_check.specs.declared.label.Label.{Label}
use Rattle.herm_check.specs.declared.numbering.Numbering.{Numbering}
use Rattle.herm_check.specs.Numberings.{in_set, AreOfFacts, HaveNumbers}
use Rattle.herm_check.specs.Lists.{AreListsIn}

abbrev pub is_reached : List Label → ℕ → Bool
is_reached ls i = map_or false (λ l. l.reached) (slice_get ls i)

abbrev pub is_pending : List Label → ℕ → Bool
is_pending ls i = map_or false (λ l. l.pending) (slice_get ls i)

-- the fact is in the label of the point, by its number
abbrev pub holds_at : FactNumbers → List Label → ℕ → Fact → Bool
holds_at ns ls i f = map_or false (λ l. in_set ns l.held f) (slice_get ls i)

abbrev pub facts_of : Vec FactHere Global → List Fact
facts_of facts = map fact_view facts.items

-- the fact of the start, and those of any list that edges make
abbrev pub all_facts : OnwardFlow → List Fact
all_facts flow = init (0 ∷ []) ∷ flat_map (λ (p : OnwardPoint). flat_map facts_of p.made.items) flow.points.items

-- The facts of the flow have numbers, no others have, and no two facts have the same; and the lists of the flow's points are sets of these numbers.
pub record IsNumberingOf (flow : OnwardFlow) (n : Numbering) : Type 0 where
  pub numbers : HaveNumbers (all_facts flow) n.facts
  pub apart : AreApart n.facts
  pub lists : AreListsIn n.facts flow n.lists.items

-- A point to which control goes is reached, and its label has such facts alone.
abbrev pub Goes : FactNumbers → List Label → Target → (Fact → Bool) → Type 0
Goes ns ls t test = (i : ℕ) → t ≡ node i → i < length ls → (is_reached ls i ≡ true) × ((f : Fact) → holds_at ns ls i f ≡ true → test f ≡ true)

-- what is held before the edge is carried along it
abbrev pub Carries : FactNumbers → List Label → Edge → (Fact → Bool) → Type 0
Carries ns ls e before = Goes ns ls e.target (λ f. held_after_edge e f (before f))

-- what the label of a point that is not to be left again says is carried along its edges
abbrev pub IsSettled : FactNumbers → Flow → List Label → ℕ → Type 0
IsSettled ns flow ls i = (p : Point) → slice_get flow.points i ≡ Some p → is_reached ls i ≡ true → is_pending ls i ≡ false → (e : Edge) → IsIn e p.edges → Carries ns ls e (holds_at ns ls i)

-- Labels tell the truth where they say that a point is reached, or that a fact is not held on some path. A point that is not
-- reached has no facts. Each number in a label is that of a fact.
pub record AreTrue (ns : FactNumbers) (flow : Flow) (ls : List Label) : Type 0 where
  pub many : length ls ≡ length flow.points
  pub reached : (i : ℕ) → is_reached ls i ≡ true → IsReached flow (node i)
  pub bare : (i : ℕ) (f : Fact) → is_reached ls i ≡ false → holds_at ns ls i f ≡ false
  pub lacking : (i : ℕ) (f : Fact) → is_reached ls i ≡ true → holds_at ns ls i f ≡ false → Lacks flow f i
  pub known : (i : ℕ) (l : Label) → slice_get ls i ≡ Some l → AreOfFacts ns l.held
  pub begins : Goes ns ls flow.entry held_at_start

pub record AreLabels (ns : FactNumbers) (flow : Flow) (ls : List Label) : Type 0 where
  pub are_true : AreTrue ns flow ls
  pub settled : (i : ℕ) → IsSettled ns flow ls i

-- A point is being left, and these of its edges were followed. Where an edge led back to it and took facts from its label, it is
-- to be left again.
pub record IsLeft (ns : FactNumbers) (flow : Flow) (i : ℕ) (done : List Edge) (ls : List Label) : Type 0 where
  pub are_true : AreTrue ns flow ls
  pub reached : is_reached ls i ≡ true
  pub settled : (j : ℕ) → i ≢ j → IsSettled ns flow ls j
  pub carried : (e : Edge) → IsIn e done → is_pending ls i ≡ false → Carries ns ls e (holds_at ns ls i)

-- each edge leads to a point that is there, or to an end
abbrev pub LeadThere : Flow → Type 0
LeadThere flow = (p : Point) (e : Edge) → IsIn p flow.points → IsIn e p.edges → IsThere (length flow.points) e.target

-- labels of which no point is still to be left
pub record AreDone (ns : FactNumbers) (flow : Flow) (ls : List Label) : Type 0 where
  pub labels : AreLabels ns flow ls
  pub done : (i : ℕ) → is_reached ls i ≡ true → is_pending ls i ≡ false
