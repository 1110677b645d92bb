-- Journals: order, stamps, the part of a process and the part of a place, and histories replayed.
use Rattle.std.specs.Prelude.{ℕ, List, [], ◌∷◌, Bool, cond, ◌||◌, ◌&&◌, nat_eq, nat_lt, filter, ◌≡◌, ◌<◌, ⊤, ◌⊎◌}
use Rattle.herm_journal.specs.Entries.{Place, same_place, Entry}

-- entries are ordered by stamp, and those of one stamp by process
abbrev pub IsBefore : Entry → Entry → Type 0
IsBefore e f = (e.stamp < f.stamp) ⊎ ((e.stamp ≡ f.stamp) × (e.process < f.process))

-- Each entry comes before the next one. Language reference, "Journals".
abbrev pub IsRisingFrom : Entry → List Entry → Type 0
IsRisingFrom e [] = ⊤
IsRisingFrom e (f ∷ fs) = IsBefore e f × IsRisingFrom f fs

abbrev pub IsRising : List Entry → Type 0
IsRising [] = ⊤
IsRising (e ∷ es) = IsRisingFrom e es

-- an entry's place in an ordered list, and entries in order
abbrev pub is_before : Entry → Entry → Bool
is_before e f = nat_lt e.stamp f.stamp || (nat_eq e.stamp f.stamp && nat_lt e.process f.process)

abbrev pub with_next : Entry → List Entry → List Entry
with_next e [] = e ∷ []
with_next e (f ∷ fs) = cond (is_before e f) (e ∷ f ∷ fs) (f ∷ with_next e fs)

abbrev pub ordered : List Entry → List Entry
ordered [] = []
ordered (e ∷ es) = with_next e (ordered es)

-- the entries of a process, and those at a place
abbrev pub part_of_process : ℕ → List Entry → List Entry
part_of_process p journal = filter (λ (e : Entry). nat_eq e.process p) journal

abbrev pub part_of_place : Place → List Entry → List Entry
part_of_place s journal = filter (λ (e : Entry). same_place e.place s) journal

-- The journal is ordered, and its parts are these diaries by process and these histories by place.
-- Language reference, "Journals".
pub record IsJournalOf (journal : List Entry) (diaries : ℕ → List Entry) (histories : Place → List Entry) : Type 0 where
  pub ordered : IsRising journal
  pub by_process : (p : ℕ) → part_of_process p journal ≡ diaries p
  pub by_place : (s : Place) → part_of_place s journal ≡ histories s
