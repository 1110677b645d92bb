-- Which types are reached along the names in shapes, in two ways.
use Rattle.std.specs.Prelude.{ℕ, List, [], ◌∷◌, Bool, false, ◌&&◌, ◌||◌, Some, slice_get, ◌≡◌, IsTrue, cond, not, nat_lt, nat_eq, length, ◌+◌, ◌<◌, ◌≤◌}
use Rattle.herm_model.specs.Lists.{IsIn, all_pass, any_pass, map_or}
use Rattle.herm_types.specs.Table.{says}
use Rattle.herm_graph.specs.declared.graph.Rule.{Rule}
use Rattle.herm_graph.specs.declared.graph.Rule.TheVariants.{AnyOf, AllOf}

-- the second is among the next ones of the first
abbrev pub IsNext : List (List ℕ) → ℕ → ℕ → Type 0
IsNext next t u = (ns : List ℕ) × (slice_get next t ≡ Some ns) × IsIn u ns

-- the number of a type, or 0 for one that is not there
abbrev pub number_at : List ℕ → ℕ → ℕ
number_at numbers t = map_or 0 (λ n. n) (slice_get numbers t)

-- the next ones in the first lists are among those in the second, and have the same number
abbrev pub AreInside : List ℕ → List (List ℕ) → List (List ℕ) → Type 0
AreInside numbers next inside = (t u : ℕ) → IsNext inside t u → IsNext next t u × (number_at numbers u ≡ number_at numbers t)

-- the type comes behind a place, or at it, where it is there
abbrev pub comes_behind : List ℕ → ℕ → ℕ → Bool → ℕ → Bool
comes_behind places count place or_at t = not (nat_lt t count) || (nat_lt place (number_at places t) || (or_at && nat_eq place (number_at places t)))

-- the next ones of a type that are there have no lower place, and higher ones where the type is not told
abbrev pub AreInOrder : List (List ℕ) → List ℕ → List Bool → Type 0
AreInOrder next places told = (t u : ℕ) → IsNext next t u → u < length next → (number_at places t ≤ number_at places u) × (says told t ≡ false → number_at places t < number_at places u)

-- what these lists say is said by those in the other direction
abbrev pub AreReversed : List (List ℕ) → List (List ℕ) → Type 0
AreReversed next before = (t u : ℕ) → IsNext before t u → IsNext next u t

module _ (rule : Rule) (goal : List Bool) (next : List (List ℕ)) where
  -- By the rule of some: one of the next is a goal, or is reached. By the rule of all: it is a goal, and all of the next
  -- are reached. The smallest such set.
  pub data IsReached : ℕ → Type 0 where
    at_goal : (t v : ℕ) (ns : List ℕ) → rule ≡ AnyOf → slice_get next t ≡ Some ns → IsIn v ns → IsTrue (says goal v) → IsReached t
    through : (t v : ℕ) (ns : List ℕ) → rule ≡ AnyOf → slice_get next t ≡ Some ns → IsIn v ns → IsReached v → IsReached t
    by_all : (t : ℕ) (ns : List ℕ) → rule ≡ AllOf → slice_get next t ≡ Some ns → IsTrue (says goal t) → ((v : ℕ) → IsIn v ns → IsReached v) → IsReached t

-- what the rule says of a type with these next ones, where these are found
abbrev pub follows : Rule → List Bool → List Bool → ℕ → List ℕ → Bool
follows AnyOf goal found t ns = any_pass (λ v. says goal v || says found v) ns
follows AllOf goal found t ns = says goal t && all_pass (says found) ns

module _ (rule : Rule) (goal : List Bool) (next : List (List ℕ)) where
  -- what is found is reached
  abbrev pub AreReached : List Bool → Type 0
  AreReached found = (t : ℕ) → IsTrue (says found t) → IsReached rule goal next t

  -- nothing more follows at a type
  abbrev pub IsDoneAt : List Bool → ℕ → Type 0
  IsDoneAt found t = (ns : List ℕ) → slice_get next t ≡ Some ns → says found t ≡ false → follows rule goal found t ns ≡ false

-- how many are not found
abbrev pub missing : List Bool → ℕ
missing [] = 0
missing (b ∷ bs) = cond b 0 1 + missing bs
