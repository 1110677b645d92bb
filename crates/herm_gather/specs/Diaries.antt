-- The diaries of processes 1, 2 and so on, and turns at them.
use Rattle.std.specs.Prelude.{◌≡◌, ℕ, suc, ◌%◌, List, [], ◌∷◌, map, flat_map, filter, nat_eq, ⊤}
use Rattle.std.specs.declared.alloc.Global.{Global}
use Rattle.std.specs.declared.vec.Vec.{Vec}
use Rattle.herm_journal.specs.Entries as source
use Rattle.herm_events.specs.View.{entries_view}
use Rattle.herm_events.specs.declared.entry.Entry.{Entry}
use Rattle.herm_report.specs.Turns.{list_at}
use Rattle.herm_gather.specs.Orders.{place_in_order}

-- the entries of all diaries, one diary behind the other
abbrev pub diaries_view : List (Vec Entry Global) → List source.Entry
diaries_view diaries = flat_map (λ (d : Vec Entry Global). entries_view d.items) diaries

-- lists, one behind the other
abbrev pub all_of : List (List Entry) → List Entry
all_of lists = flat_map (λ (es : List Entry). es) lists

-- each entry is of this process
abbrev pub AreOfNumber : ℕ → List Entry → Type 0
AreOfNumber n [] = ⊤
AreOfNumber n (e ∷ es) = (e.proc.number ≡ n) × AreOfNumber n es

-- each list is of the process of its place, counted from a number on
abbrev pub AreOwn : ℕ → List (List Entry) → Type 0
AreOwn n [] = ⊤
AreOwn n (es ∷ lists) = AreOfNumber n es × AreOwn (suc n) lists

-- of each process the places are those of its list, in order
abbrev pub AreTurns : List ℕ → List (List Entry) → Type 0
AreTurns places lists = (p : ℕ) → filter (λ (n : ℕ). nat_eq (n % 2048) p) places ≡ map place_in_order (list_at lists p)
