-- Paths, and the two kinds of fact that a typestate is made of.
use Rattle.std.specs.Prelude.{ℕ, List, [], ◌∷◌, Bool, true, false, nat_eq, not, ◌&&◌, ◌||◌}
use Rattle.herm_model.specs.Lists.{same_numbers}

-- A variable's number (0 is the port parameter), and then the place of a part in each step: of a record's field,
-- a callmessage's parameter or a variant's component, from 0 on. Language reference, "Paths".
abbrev pub Path : Type 0
Path = List ℕ

-- Language reference, "Facts".
pub data Fact : Type 0 where
  -- there is a value at the path
  init : Path → Fact
  -- the variant at the path holds this component, with a full value
  case : Path → ℕ → Fact

-- the path that a fact speaks of
abbrev pub path_of : Fact → Path
path_of (init p) = p
path_of (case p c) = p

-- the two paths are the same
abbrev pub same_path : Path → Path → Bool
same_path = same_numbers

-- the second path is the first, or goes on from it
abbrev pub is_at_or_below : Path → Path → Bool
is_at_or_below [] q = true
is_at_or_below (i ∷ p) [] = false
is_at_or_below (i ∷ p) (j ∷ q) = nat_eq i j && is_at_or_below p q

-- the two facts are the same
abbrev pub same_fact : Fact → Fact → Bool
same_fact (init p) (init q) = same_path p q
same_fact (init p) (case q d) = false
same_fact (case p c) (init q) = false
same_fact (case p c) (case q d) = same_path p q && nat_eq c d

-- the path without its last step; nothing is left of a variable
abbrev pub parent : Path → Path
parent [] = []
parent (i ∷ []) = []
parent (i ∷ j ∷ p) = i ∷ parent (j ∷ p)

-- the two paths part at some step, so that neither is a beginning of the other
abbrev pub are_apart : Path → Path → Bool
are_apart [] q = false
are_apart (i ∷ p) [] = false
are_apart (i ∷ p) (j ∷ q) = not (nat_eq i j) || are_apart p q
