-- Exceptions of a call that others cover, by the numbers that they touch.
use Rattle.std.specs.Prelude.{◌≡◌, ℕ, List, [], ◌∷◌, ◌++◌, map, Bool, true, false, cond, ◌⊎◌, Option, Some, None, is_some, Vec}
use Rattle.std.specs.Global.{Global}
use Rattle.herm_model.specs.Lists.{IsIn, any_pass, list_of}
use Rattle.herm_model.specs.Paths.{Path, Fact}
use Rattle.herm_model.specs.Types.{TypeTable, Raised}
use Rattle.herm_model.specs.Expressions.{Atom}
use Rattle.herm_model.specs.Calls.{kept_for, call_raises}
use Rattle.herm_model.specs.Outcomes.{Outcome, ok, raised, disconnected}
use Rattle.herm_model.specs.Handlers.{Catch, caught}
use Rattle.herm_model.specs.laws.FlowLaws.{Rise}
use Rattle.herm_flow.specs.declared.calls.Head.{Head}
use Rattle.herm_flow.specs.NumberTables.{at_number, kept_at, kept_if_raised, point_of}
use Rattle.herm_flow.specs.Kept.{goes_on}
use Rattle.herm_flow.specs.Touched.{IsOneAtMost, makes_by, AreMadeBy, AreWanted, touched_by}

-- Where none of these numbers is among some, one of the exceptions leads to the point and touches none of those either: whichever they are, or, where it is said so, at most one.
abbrev pub AreCovering : (lead : ℕ → Option ℕ) (touched : ℕ → List ℕ) → Bool → List ℕ → Option ℕ → List ℕ → Type 0
AreCovering lead touched single ns point ts = (among : ℕ → Bool) → (single ≡ true → IsOneAtMost among) → any_pass among ts ≡ false → (d : ℕ) × IsIn d ns × (lead d ≡ point) × (any_pass among (touched d) ≡ false)

-- so it is of each point and the numbers beside it
abbrev pub AreHeads : (lead : ℕ → Option ℕ) (touched : ℕ → List ℕ) → Bool → List ℕ → List Head → Type 0
AreHeads lead touched single ns heads = (h : Head) → IsIn h heads → AreCovering lead touched single ns (Some h.point) h.touched.items

-- what an exception keeps, by the table
abbrev pub kept_by : List (Option ℕ) → List Raised → ℕ → List ℕ
kept_by declared raises e = list_of (λ k. k) (kept_at raises (at_number declared e))

-- what it touches then
abbrev pub touched_of : (ℕ → List ℕ) → List (Option ℕ) → List Raised → ℕ → List ℕ
touched_of numbers declared raises e = touched_by numbers (kept_by declared raises e)

-- the point to which an exception leads
abbrev pub lead_of : List Catch → ℕ → Option ℕ
lead_of catches e = point_of (caught catches e)

-- the exceptions that a call with these can raise
abbrev pub raised_numbers : List Raised → List ℕ
raised_numbers raises = disconnected ∷ map (λ r. r.exception) raises

-- Numbers for a point and an exception that leads there: all that the exception touches are among them, or, where it is said so, those of them that stand beside the point already.
abbrev pub AreFor : Bool → List Head → (point : ℕ) → (touched ts : List ℕ) → Type 0
AreFor single heads point touched ts =
    ((n : ℕ) → IsIn n touched → IsIn n ts)
    ⊎ ((single ≡ true) × ((h : Head) × IsIn h heads × (h.point ≡ point) × ((n : ℕ) → IsIn n h.touched.items → IsIn n touched → IsIn n ts)))

-- all numbers that stand beside the point are among these
abbrev pub IsWithin : List Head → (point : ℕ) → (touched : List ℕ) → Type 0
IsWithin heads point touched = (h : Head) × IsIn h heads × (h.point ≡ point) × ((n : ℕ) → IsIn n h.touched.items → IsIn n touched)

-- What is noted of a point for an exception that leads there, or nothing, where it is covered.
abbrev pub IsNoted : Bool → List Head → (point : ℕ) → (touched : List ℕ) → Option (Vec ℕ Global) → Type 0
IsNoted single heads point touched None = IsWithin heads point touched
IsNoted single heads point touched (Some v) = AreFor single heads point touched v.items

-- An exception that the table has is added or covered, and one that it has not is not added.
pub record IsAdded (lead : ℕ → Option ℕ) (touched : ℕ → List ℕ) (single has : Bool) (e : ℕ) (old new : List ℕ) (heads more : List Head) : Type 0 where
  pub numbers : (new ≡ old) ⊎ ((has ≡ true) × (new ≡ old ++ e ∷ []))
  pub heads_are : AreHeads lead touched single old heads → AreHeads lead touched single new more
  pub covered : AreHeads lead touched single old heads → has ≡ true → AreCovering lead touched single new (lead e) (touched e)

-- Tables of a call with these arguments: where exceptions lead, where those are declared, and numbers beside the parameters that they keep.
pub record AreTables (arguments : List Atom) (catches : List Catch) (raises : List Raised) (points declared : List (Option ℕ)) (single : Bool) (numbers : ℕ → List ℕ) : Type 0 where
  pub leads : (e : ℕ) → at_number points e ≡ lead_of catches e
  pub declared_are : (e : ℕ) → kept_at raises (at_number declared e) ≡ cond (is_some (at_number points e)) (kept_if_raised raises e) None
  pub wanted : ℕ → Bool
  pub wanted_are : AreWanted raises points wanted
  pub made : (types : TypeTable) (variables : List ℕ) → AreMadeBy types variables arguments wanted single numbers

-- what a call with these arguments makes at an exception has a fact
abbrev pub makes_at_exception : TypeTable → List ℕ → List Atom → List Raised → Fact → ℕ → Bool
makes_at_exception types variables arguments raises f e = any_pass (makes_by types variables arguments f) (kept_for raises e)

-- Some of the exceptions that a call with these arguments can raise. For each one that leads on, one of them leads to the same point; and for each fact that it does not make, one that does not make it either.
pub record AreCallNumbers (types : TypeTable) (variables : List ℕ) (arguments : List Atom) (catches : List Catch) (raises : List Raised) (ns : List ℕ) : Type 0 where
  pub rise : Rise ns
  pub there : (m : ℕ) → IsIn m ns → IsIn m (raised_numbers raises)
  pub leads : (m : ℕ) → IsIn m (raised_numbers raises) → goes_on catches m ≡ true → (d : ℕ) × IsIn d ns × (lead_of catches d ≡ lead_of catches m)
  pub lost : (m : ℕ) → IsIn m (raised_numbers raises) → goes_on catches m ≡ true → (f : Fact) → makes_at_exception types variables arguments raises f m ≡ false → (d : ℕ) × IsIn d ns × (lead_of catches d ≡ lead_of catches m) × (makes_at_exception types variables arguments raises f d ≡ false)

-- The outcomes of a call: the normal one, and such exceptions.
pub record IsOnwardCall (types : TypeTable) (variables : List ℕ) (o : Path) (arguments : List Atom) (catches : List Catch) (outcomes : List Outcome) : Type 0 where
  pub numbers : List ℕ
  pub outcomes_are : outcomes ≡ ok ∷ map raised numbers
  pub covering : AreCallNumbers types variables arguments catches (call_raises types variables o) numbers
