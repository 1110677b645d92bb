-- Numbers of the paths that begin arguments of a call, and which of them exceptions touch.
use Rattle.std.specs.Prelude.{◌≡◌, ◌≤◌, ◌<◌, ◌+◌, ◌*◌, ℕ, List, [], ◌∷◌, flat_map, Bool, true, false, ◌||◌, nat_eq, Option, Some, None, slice_get, Vec}
use Rattle.std.specs.Global.{Global}
use Rattle.std.specs.Ordering.{nat_cmp}
use Rattle.std.specs.BTreeMap.{BTreeMap, get}
use Rattle.herm_model.specs.Lists.{IsIn, any_pass, list_of, map_or}
use Rattle.herm_model.specs.Paths.{Path, Fact, same_fact}
use Rattle.herm_model.specs.Types.{TypeTable, Raised}
use Rattle.herm_model.specs.Expressions.{Atom, literal, path}
use Rattle.herm_model.specs.Facts.{with_prefixes}
use Rattle.herm_model.specs.FactsOfStatements.{full}
use Rattle.herm_model.specs.Calls.{argument_path}
use Rattle.herm_flow.specs.NumberTables.{at_number}

-- the argument of a parameter makes a fact where it comes back
abbrev pub makes_by : TypeTable → List ℕ → List Atom → Fact → ℕ → Bool
makes_by types variables arguments f k = any_pass (λ p. any_pass (λ g. any_pass (same_fact f) (with_prefixes types variables g)) (full types variables p)) (argument_path (slice_get arguments k))

-- at most one number passes
abbrev pub IsOneAtMost : (ℕ → Bool) → Type 0
IsOneAtMost among = (i j : ℕ) → among i ≡ true → among j ≡ true → i ≡ j

-- ---- numbers of paths

abbrev pub Numbers : Type 0
Numbers = BTreeMap ℕ ℕ

-- the number of a path, by that of the path before its last step and by that step
abbrev pub number_by : Numbers → ℕ → ℕ → Option ℕ
number_by m before step = get nat_cmp m (before * 4294967296 + step)

-- Each number is that of one path; they go from 1 to the last.
pub record AreOwn (m : Numbers) (last : ℕ) : Type 0 where
  pub one : (k l n : ℕ) → get nat_cmp m k ≡ Some n → get nat_cmp m l ≡ Some n → k ≡ l
  pub within : (k n : ℕ) → get nat_cmp m k ≡ Some n → (1 ≤ n) × (n ≤ last)

-- what has a number keeps it
abbrev pub Stay : Numbers → Numbers → Type 0
Stay old new = (k n : ℕ) → get nat_cmp old k ≡ Some n → get nat_cmp new k ≡ Some n

-- the numbers of the paths that begin a path, the shortest first, behind the path of a number
abbrev pub IsTrail : Path → (ℕ → ℕ → Option ℕ) → ℕ → List ℕ → Type 0
IsTrail [] at before ns = ns ≡ []
IsTrail (s ∷ p) at before [] = ⊥
IsTrail (s ∷ p) at before (n ∷ ns) = (s < 4294967296) × (at before s ≡ Some n) × IsTrail p at n ns

-- the same of an argument, where it is a path
abbrev pub IsTrailOf : Option Atom → (ℕ → ℕ → Option ℕ) → List ℕ → Type 0
IsTrailOf (Some (path p)) at ns = IsTrail p at 0 ns
IsTrailOf (Some (literal l)) at ns = ns ≡ []
IsTrailOf None at ns = ns ≡ []

-- the numbers beside a parameter
abbrev pub numbers_at : List (Vec ℕ Global) → ℕ → List ℕ
numbers_at lists k = list_of (λ (v : Vec ℕ Global). v.items) (slice_get lists k)

-- Beside each parameter that is wanted are the numbers of the paths that begin its argument.
pub record AreTrails (arguments : List Atom) (wanted : ℕ → Bool) (lists : List (Vec ℕ Global)) : Type 0 where
  pub numbers : Numbers
  pub last : ℕ
  pub own : AreOwn numbers last
  pub each : (k : ℕ) → wanted k ≡ true → IsTrailOf (slice_get arguments k) (number_by numbers) (numbers_at lists k)

abbrev pub last_of : List ℕ → Option ℕ
last_of [] = None
last_of (n ∷ []) = Some n
last_of (n ∷ m ∷ ns) = last_of (m ∷ ns)

abbrev pub is_before_last : List ℕ → ℕ → Bool
is_before_last [] n = false
is_before_last (m ∷ []) n = false
is_before_last (m ∷ k ∷ ns) n = nat_eq n m || is_before_last (k ∷ ns) n

-- the last of none of these stands before the last of another: no path begins a longer one
abbrev pub AreApart : List (Vec ℕ Global) → Type 0
AreApart lists = (i j n : ℕ) → last_of (numbers_at lists i) ≡ Some n → is_before_last (numbers_at lists j) n ≡ false

-- ---- what they are for

-- Each fact is made by the wanted parameters beside which some numbers stand; where it is said so, one number at most.
abbrev pub AreMadeBy : TypeTable → List ℕ → List Atom → (wanted : ℕ → Bool) → Bool → (ℕ → List ℕ) → Type 0
AreMadeBy types variables arguments wanted single numbers =
    (f : Fact) → (among : ℕ → Bool) × (single ≡ true → IsOneAtMost among) × ((k : ℕ) → wanted k ≡ true → makes_by types variables arguments f k ≡ any_pass among (numbers k))

-- the parameters that an exception keeps which leads to a point are wanted
abbrev pub AreWanted : List Raised → (points : List (Option ℕ)) → (ℕ → Bool) → Type 0
AreWanted raises points wanted = (r : Raised) (k p : ℕ) → IsIn r raises → at_number points r.exception ≡ Some p → IsIn k r.kept → wanted k ≡ true

-- what is touched where these parameters are kept
abbrev pub touched_by : (ℕ → List ℕ) → List ℕ → List ℕ
touched_by numbers ks = flat_map numbers ks

-- ---- numbers found by their places

-- the number stands at the place that a table has for it
abbrev pub has_place : List (Option ℕ) → List ℕ → ℕ → Bool
has_place places ns n = map_or false (λ i. map_or false (nat_eq n) (slice_get ns i)) (at_number places n)

-- so it is of each of these
abbrev pub HavePlaces : List (Option ℕ) → List ℕ → Type 0
HavePlaces places ns = (n : ℕ) → IsIn n ns → has_place places ns n ≡ true
