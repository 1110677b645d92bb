-- Facts that the edges of a flow treat alike: one of them stands for the others in the searches.
use Rattle.std.specs.Prelude.{◌≡◌, ℕ, ◌<◌, ◌/◌, ◌%◌, List, length, Bool, true, Some, slice_get}
use Rattle.std.specs.declared.vec.Vec.{Vec}
use Rattle.std.specs.declared.alloc.Global.{Global}
use Rattle.herm_model.specs.Lists.{IsIn}
use Rattle.herm_model.specs.Paths.{Fact}
use Rattle.herm_model.specs.ControlPaths.{Edge, Point, Flow, held_after_edge, held_at_start}
use Rattle.herm_types.specs.declared.fact.Fact.{Fact as FactHere}
use Rattle.herm_types.specs.View.{fact_view}
use Rattle.herm_facts.specs.declared.fact_numbers.FactNumbers.{FactNumbers}
use Rattle.herm_facts.specs.FactNumbers.{number_of}
use Rattle.herm_check.specs.declared.lists.ListsOf.{ListsOf}
use Rattle.herm_check.specs.declared.search.Search.{Search}
use Rattle.herm_check.specs.Lists.{at_has}
use Rattle.herm_check.specs.Searched.{IsSearched}

abbrev pub Groups : Type 0
Groups = List (Vec ℕ Global)

-- both facts are held when a process begins, or none of them, and so it is behind each edge where it was so before it
pub record AreAlike (flow : Flow) (f g : Fact) : Type 0 where
  pub first : held_at_start f ≡ held_at_start g
  pub behind : (i : ℕ) (p : Point) (e : Edge) (held : Bool) → slice_get flow.points i ≡ Some p → IsIn e p.edges → held_after_edge e f held ≡ held_after_edge e g held

-- The fact that stands for the one with a number, by the number that it has among those that stand for others.
pub record IsStoodFor (flow : Flow) (f : Fact) (by : List ℕ) (n : ℕ) (numbers : FactNumbers) : Type 0 where
  pub number : ℕ
  pub is : slice_get by n ≡ Some number
  pub fact : Fact
  pub numbered : number_of numbers fact ≡ Some number
  pub alike : AreAlike flow f fact

-- so it is of each fact that has a number
abbrev pub AreStoodFor : Flow → FactNumbers → List ℕ → FactNumbers → Type 0
AreStoodFor flow lost by numbers = (f : Fact) (n : ℕ) → number_of lost f ≡ Some n → IsStoodFor flow f by n numbers

-- Each of the facts that have numbers was searched for, by the number of the one that stands for it: 64 of these share a search.
abbrev pub AreSearchedBy : Flow → FactNumbers → List ℕ → List Search → Type 0
AreSearchedBy flow lost by ss = (f : Fact) (n : ℕ) → number_of lost f ≡ Some n → (k : ℕ) × (slice_get by n ≡ Some k) × (s : Search) × (slice_get ss (k / 64) ≡ Some s) × IsSearched flow f (k % 64) s

-- the first one of a fact's group stands among the facts too, and both are held when a process begins, or none of them
pub record StartsAlike (facts : List FactHere) (firsts : List ℕ) (n : ℕ) : Type 0 where
  pub within : (m : ℕ) → slice_get firsts n ≡ Some m → m < length facts
  pub alike : (m : ℕ) (f g : FactHere) → slice_get firsts n ≡ Some m → slice_get facts n ≡ Some f → slice_get facts m ≡ Some g → held_at_start (fact_view f) ≡ held_at_start (fact_view g)

-- so it is of each fact
abbrev pub StartAlike : List FactHere → List ℕ → Type 0
StartAlike facts firsts = (n : ℕ) → StartsAlike facts firsts n

-- what has the number has that of the first one of its group, and where it is the first one those of the whole group
pub record IsCovered (has : ℕ → Bool) (firsts : List ℕ) (groups : Groups) (n : ℕ) : Type 0 where
  pub first : (m : ℕ) → slice_get firsts n ≡ Some m → has m ≡ true
  pub group : (g : Vec ℕ Global) (m : ℕ) → slice_get groups n ≡ Some g → IsIn m g.items → has m ≡ true

-- so it is of each number below a count that there is
abbrev pub AreCovered : (ℕ → Bool) → List ℕ → Groups → ℕ → Type 0
AreCovered has firsts groups count = (n : ℕ) → n < count → has n ≡ true → IsCovered has firsts groups n

-- so it is of each list of a point
abbrev pub AreListsCovered : ListsOf → List ℕ → Groups → ℕ → Type 0
AreListsCovered l firsts groups count = (i : ℕ) → AreCovered (at_has l.made.items i) firsts groups count × AreCovered (at_has l.gone.items i) firsts groups count

-- each number is in the group of its first one
abbrev pub AreGroups : List ℕ → Groups → Type 0
AreGroups firsts groups = (n m : ℕ) (g : Vec ℕ Global) → slice_get firsts n ≡ Some m → slice_get groups m ≡ Some g → IsIn n g.items

-- each list has a number exactly where it has that of the first one of its group
abbrev pub AreListsAlike : List ListsOf → List ℕ → Type 0
AreListsAlike lists firsts = (i : ℕ) (l : ListsOf) → slice_get lists i ≡ Some l → (k n m : ℕ) → slice_get firsts n ≡ Some m → (at_has l.made.items k n ≡ at_has l.made.items k m) × (at_has l.gone.items k n ≡ at_has l.gone.items k m)

-- each fact has the number that the first one of its group has
abbrev pub AreNumbered : List FactHere → List ℕ → FactNumbers → List ℕ → Type 0
AreNumbered facts firsts numbers by = (n m : ℕ) (g : FactHere) → slice_get firsts n ≡ Some m → slice_get facts m ≡ Some g → (k : ℕ) × (slice_get by n ≡ Some k) × (number_of numbers (fact_view g) ≡ Some k)
