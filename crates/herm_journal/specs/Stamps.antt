-- Stamps and clocks. Language reference, "Stamps".
use Rattle.std.specs.Prelude.{ℕ, suc, max, List, [], ◌∷◌, ◌++◌, Bool, false, cond, ◌||◌, nat_eq, Some, None, ◌≡◌, ⊤}
use Rattle.herm_journal.specs.Actions.{make_port, make_process, put, take, close, answer, hear}
use Rattle.herm_journal.specs.Entries.{Place, same_place, Record, Entry}

-- the stamp of the last entry that passes the test, or s where none does
abbrev pub last_stamp : (Entry → Bool) → ℕ → List Entry → ℕ
last_stamp test s [] = s
last_stamp test s (e ∷ es) = last_stamp test (cond (test e) e.stamp s) es

-- whether the action made the process
abbrev pub is_maker_of : ℕ → Record → Bool
is_maker_of p (make_process code (Some made)) = nat_eq made.0 p
is_maker_of p (make_process code None) = false
is_maker_of p (make_port made) = false
is_maker_of p (put number t) = false
is_maker_of p (take number t) = false
is_maker_of p (close count left) = false
is_maker_of p (answer call r) = false
is_maker_of p (hear call r) = false

-- The clock of a process behind these entries: the stamp of its last one, or of the one that made it, or 0.
-- Language reference, "Stamps".
abbrev pub clock_of_process : ℕ → List Entry → ℕ
clock_of_process p before = last_stamp (λ e. nat_eq e.process p || is_maker_of p e.action) 0 before

-- the clock of a place behind these entries: the stamp of the last one there, or 0
abbrev pub clock_of_place : Place → List Entry → ℕ
clock_of_place s before = last_stamp (λ e. same_place e.place s) 0 before

-- The stamp of a process's next action at a place: one more than the larger of the two clocks.
-- Language reference, "Stamps".
abbrev pub next_stamp : List Entry → ℕ → Place → ℕ
next_stamp before p s = suc (max (clock_of_process p before) (clock_of_place s before))

-- the entry of an action that comes behind these entries
abbrev pub entry_behind : List Entry → ℕ → Place → Record → Entry
entry_behind before p s a = record { stamp = next_stamp before p s; process = p; place = s; action = a }

-- each entry has the stamp that the entries before it give
abbrev pub IsStampedFrom : List Entry → List Entry → Type 0
IsStampedFrom before [] = ⊤
IsStampedFrom before (e ∷ es) = (e.stamp ≡ next_stamp before e.process e.place) × IsStampedFrom (before ++ e ∷ []) es

abbrev pub IsStamped : List Entry → Type 0
IsStamped journal = IsStampedFrom [] journal
