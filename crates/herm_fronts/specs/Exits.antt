-- Where edges begin, found in one pass over them.
use Rattle.std.specs.Prelude.{◌≡◌, ◌≤◌, ℕ, Bool, cond, Option, Some, None}
use Rattle.herm_model.specs.Outcomes.{Outcome, ok, is_true, is_false, turn, done, component, arm, raised}
use Rattle.herm_fronts.specs.Blocks.{exits_view}
use Rattle.herm_fronts.specs.declared.departures.Exits.{Exits}
use Rattle.herm_fronts.specs.declared.exits.Walk.{Walk}

-- the number of an outcome among those of its kind
abbrev pub number_of : Outcome → ℕ
number_of ok = 0
number_of is_true = 0
number_of is_false = 0
number_of turn = 0
number_of done = 0
number_of (component c) = c
number_of (arm n) = n
number_of (raised e) = e

-- outcomes from this number on lead where they lead among all edges
abbrev pub LeadFrom : (all left : Exits) → (number : ℕ) → Type 0
LeadFrom all left number = (o : Outcome) → number ≤ number_of o → exits_view left o ≡ exits_view all o

-- outcomes from this number on lead to indices that do not fit into 32 bits
abbrev pub LeadTooFar : (all : Exits) → (number : ℕ) → Type 0
LeadTooFar all number = (o : Outcome) → number ≤ number_of o → 4294967296 ≤ exits_view all o

abbrev pub IsAlong : Exits → Walk → Type 0
IsAlong all walk = LeadFrom all walk.left walk.number

-- where the first edge of an outcome begins, where one more edge begins at an index
abbrev pub noted : (at : ℕ) → (same : Bool) → Option ℕ → Option ℕ
noted at same (Some n) = Some n
noted at same None = cond same (Some at) None
