-- At which blocks edges arrive: marks by the places of blocks.
use Rattle.std.specs.Prelude.{ℕ, zero, suc, List, [], ◌∷◌, Bool, true, false, get_or, length, replicate}
use Rattle.herm_translated.specs.Departures.{Arrival, to_block, to_second_step, to_end, to_end_by, Departure}
use Rattle.herm_translated.specs.CodeBlocks.{CodeBlock}
use Rattle.herm_codegen.specs.declared.arrivals.Arrivals.{Arrivals}

-- for each place whether an edge arrives at the first step of the block there, and whether one arrives at its second step
pub record Marks : Type 0 where
  pub first : List Bool
  pub again : List Bool

abbrev pub marks_view : Arrivals → Marks
marks_view a = record { first = a.first.items; again = a.again.items }

-- a mark at one place more
abbrev pub marked : ℕ → List Bool → List Bool
marked n [] = []
marked zero (b ∷ bs) = true ∷ bs
marked (suc n) (b ∷ bs) = b ∷ marked n bs

abbrev pub with_arrival : Arrival → Marks → Marks
with_arrival (to_block n) m = record m { first = marked n m.first }
with_arrival (to_second_step n) m = record m { again = marked n m.again }
with_arrival to_end m = m
with_arrival (to_end_by e) m = m

-- of the edge to where a process begins the first step alone
abbrev pub with_entry : Arrival → Marks → Marks
with_entry (to_block n) m = record m { first = marked n m.first }
with_entry (to_second_step n) m = m
with_entry to_end m = m
with_entry (to_end_by e) m = m

abbrev pub with_edges : List Departure → Marks → Marks
with_edges [] m = m
with_edges (d ∷ ds) m = with_edges ds (with_arrival d.arrival m)

abbrev pub with_blocks : List CodeBlock → Marks → Marks
with_blocks [] m = m
with_blocks (b ∷ bs) m = with_blocks bs (with_edges b.departures m)

abbrev pub no_marks : ℕ → Marks
no_marks n = record { first = replicate n false; again = replicate n false }

-- the marks of all edges of blocks, and of that to where the process begins
abbrev pub all_marks : Departure → List CodeBlock → Marks
all_marks entry blocks = with_blocks blocks (with_entry entry.arrival (no_marks (length blocks)))

abbrev pub is_marked_at : List Bool → ℕ → Bool
is_marked_at bs n = get_or bs n false
