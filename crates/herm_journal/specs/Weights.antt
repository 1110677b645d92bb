-- The weight of cells, replies and names, by a weight for every name.
use Rattle.std.specs.Prelude.{ℕ, ◌+◌, List, nat_eq, ◌&&◌, cond}
use Rattle.herm_model.specs.Lists.{total, range}
use Rattle.herm_model.specs.Values.{Name, Cell, cell, Parts, no_parts, gap, part}
use Rattle.herm_journal.specs.Actions.{values, raised, gone, put, take, close, hear}
use Rattle.herm_journal.specs.Messages.{CellReply, CellAction}
use Rattle.std.specs.Prelude.{None}

-- A weight of 1 for one name and 0 for the others counts how often it is there; a weight of 1 for all counts cells.
abbrev pub only : Name → Name → ℕ
only n m = cond (nat_eq n.0 m.0 && nat_eq n.1 m.1) 1 0

module _ {N : Type 0} (w : N → ℕ) where
  -- What cells weigh: the total over their names, summed along the tree so that it computes where lists of names would
  -- have to be joined.
  abbrev mutual
    pub weigh : Cell N → ℕ
    weigh (cell n k ps) = w n + weigh_in ps

    pub weigh_in : Parts N → ℕ
    weigh_in no_parts = 0
    weigh_in (gap ps) = weigh_in ps
    weigh_in (part c ps) = weigh c + weigh_in ps

  abbrev pub weigh_all : List (Cell N) → ℕ
  weigh_all cs = total weigh cs

  abbrev pub weigh_reply : CellReply N → ℕ
  weigh_reply (values cs) = weigh_all cs
  weigh_reply (raised e cs) = weigh_all cs
  weigh_reply gone = 0

  -- the names with these serials: so many from one on
  abbrev pub weigh_serials : (ℕ → N) → (from count : ℕ) → ℕ
  weigh_serials name s count = total (λ s. w (name s)) (range s count)

  -- what comes in with an action: a message that comes back, one that was taken, those of a closed port, or a reply
  abbrev pub weight_received : CellAction N → ℕ
  weight_received (put None m) = weigh m
  weight_received (take k m) = weigh m
  weight_received (close count left) = weigh_all left
  weight_received (hear call r) = weigh_reply r
  weight_received action = 0
