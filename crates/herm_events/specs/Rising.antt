-- Diaries and histories: the entries of one process, and those at one place, with rising stamps.
-- Language reference, "Stamps".
use Rattle.std.specs.Prelude.{ℕ, List, [], ◌∷◌, ◌<◌, ◌≡◌, All, ⊤}
use Rattle.herm_journal.specs.Entries.{Place, Entry}

-- each stamp is above the one before
abbrev pub RiseFrom : ℕ → List Entry → Type 0
RiseFrom s [] = ⊤
RiseFrom s (e ∷ es) = (s < e.stamp) × RiseFrom e.stamp es

abbrev pub StampsRise : List Entry → Type 0
StampsRise [] = ⊤
StampsRise (e ∷ es) = RiseFrom e.stamp es

-- the stamp is above that of the last entry, if there is one
abbrev pub IsAboveLast : ℕ → List Entry → Type 0
IsAboveLast s [] = ⊤
IsAboveLast s (e ∷ []) = e.stamp < s
IsAboveLast s (e ∷ f ∷ es) = IsAboveLast s (f ∷ es)

-- A process with its entries, and for how many more there is room.
pub record DiaryState : Type 0 where
  pub process : ℕ
  pub entries : List Entry
  pub room : ℕ

-- a place with its entries, and for how many more there is room
pub record HistoryState : Type 0 where
  pub place : Place
  pub entries : List Entry
  pub room : ℕ

-- the entries are of this process, and their stamps rise
pub record AreOfProcess (process : ℕ) (entries : List Entry) : Type 0 where
  pub same : All (λ (e : Entry). e.process ≡ process) entries
  pub rising : StampsRise entries

-- the entries are of this place, and their stamps rise
pub record AreOfPlace (place : Place) (entries : List Entry) : Type 0 where
  pub same : All (λ (e : Entry). e.place ≡ place) entries
  pub rising : StampsRise entries
