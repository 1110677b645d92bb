-- A bound on the brackets that are open at once.
use Rattle.std.specs.Prelude.{◌≡◌, ℕ, zero, suc, ◌+◌, ◌≤◌, List, [], ◌∷◌, ◌++◌, length, Option, Some, None}

pub data Side : Type 0 where
  Opening Closing Neither : Side

abbrev pub opened : Side → ℕ
opened Opening = 1
opened Closing = 0
opened Neither = 0

abbrev pub closed : Side → ℕ
closed Opening = 0
closed Closing = 1
closed Neither = 0

-- How many symbols open a bracket, and how many close one.
abbrev pub openings : {S : Type 0} → (S → Side) → List S → ℕ
openings side [] = 0
openings side (x ∷ symbols) = opened (side x) + openings side symbols

abbrev pub closings : {S : Type 0} → (S → Side) → List S → ℕ
closings side [] = 0
closings side (x ∷ symbols) = closed (side x) + closings side symbols

-- Where no more than `room` brackets may be open, the number of symbols left at the first one too many,
-- that one with them. What closes makes room, also where nothing is open.
abbrev pub too_deep_step : Side → (ℕ → Option ℕ) → ℕ → ℕ → Option ℕ
too_deep_step Opening further left zero = Some left
too_deep_step Opening further left (suc room) = further room
too_deep_step Closing further left room = further (suc room)
too_deep_step Neither further left room = further room

abbrev pub too_deep : {S : Type 0} → (S → Side) → List S → ℕ → Option ℕ
too_deep side [] room = None
too_deep side (x ∷ symbols) room = too_deep_step (side x) (too_deep side symbols) (suc (length symbols)) room

-- In each prefix the openings less the closings are at most the bound.
abbrev pub IsWithin : {S : Type 0} → (S → Side) → ℕ → List S → Type 0
IsWithin {S} side bound symbols = (front rest : List S) → symbols ≡ front ++ rest → openings side front ≤ bound + closings side front

-- With the symbol x the openings less the closings reach the bound and one; in no shorter prefix do they.
pub record IsTooDeep {S : Type 0} (side : S → Side) (bound : ℕ) (symbols : List S) (count : ℕ) : Type 0 where
  pub front : List S
  pub x : S
  pub behind : List S
  pub whole : symbols ≡ front ++ x ∷ behind
  pub counted : count ≡ suc (length behind)
  pub reached : openings side (front ++ x ∷ []) ≡ suc (bound + closings side (front ++ x ∷ []))
  pub before : IsWithin side bound front

-- The fault comes exactly where some prefix is too deep, and then at the first.
abbrev pub FindsTooDeep : Type 0 → Type 0
FindsTooDeep S = (side : S → Side) (bound : ℕ) (symbols : List S) (count : ℕ) → too_deep side symbols bound ≡ Some count → IsTooDeep side bound symbols count

abbrev pub FindsWithin : Type 0 → Type 0
FindsWithin S = (side : S → Side) (bound : ℕ) (symbols : List S) → too_deep side symbols bound ≡ None → IsWithin side bound symbols
