-- Lists of entries, of which in turn the next entry of one is taken.
-- Language reference, "Journals".
use Rattle.std.specs.Prelude.{ℕ, zero, suc, ◌%◌, List, [], ◌∷◌, ◌++◌, map, take, drop, get_or}
use Rattle.std.specs.declared.alloc.Global.{Global}
use Rattle.std.specs.declared.vec.Vec.{Vec}
use Rattle.herm_events.specs.declared.entry.Entry.{Entry}

-- vectors as lists
abbrev pub items_of : List (Vec Entry Global) → List (List Entry)
items_of lists = map (λ (d : Vec Entry Global). d.items) lists

-- the list of this number, from 1 on; 0 has none
abbrev pub list_at : List (List Entry) → ℕ → List Entry
list_at lists zero = []
list_at lists (suc n) = get_or lists n []

-- the lists, of which that of this number has its first entry no more
abbrev pub without_first : List (List Entry) → ℕ → List (List Entry)
without_first lists zero = lists
without_first [] (suc n) = []
without_first (es ∷ lists) (suc zero) = drop 1 es ∷ lists
without_first (es ∷ lists) (suc (suc n)) = es ∷ without_first lists (suc n)

-- at each turn, which is the number of a list modulo 2,048, the next entry of that list, if there is one
abbrev pub in_turn : (turns : List ℕ) → List (List Entry) → List Entry
in_turn [] lists = []
in_turn (t ∷ turns) lists = take 1 (list_at lists (t % 2048)) ++ in_turn turns (without_first lists (t % 2048))
