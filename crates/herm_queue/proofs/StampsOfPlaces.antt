-- The clock of a cell is that of its place.
use Rattle.std.proofs.Common.{◌≡◌, ℕ, suc, max, List, [], ◌∷◌, Bool, true, false, filter, refl, sym, ap, ap₂, ◌∙◌}
use Rattle.herm_journal.specs.Entries.{Entry, same_place}
use Rattle.herm_journal.specs.Histories.{Replayed, at_start, after_entry, replay}
use Rattle.herm_journal.specs.Stamps.{last_stamp, clock_of_place}
use Rattle.herm_journal.specs.Journals.{part_of_place}
use Rattle.herm_queue.specs.CellStates.{CellState, IsReplayed, recorded}
use Rattle.herm_queue.specs.SeenCells.{ActionsAreStamped}

last-by : (test : Entry → Bool) (e : Entry) (es : List Entry) (r : Replayed) (b : Bool) → test e ≡ b →
    ((q : Replayed) → last_stamp test q.clock es ≡ (replay (filter test es) q).clock) →
    last_stamp test r.clock (e ∷ es) ≡ (replay (filter test (e ∷ es)) r).clock
last-by test e es r true is again = rw is (again (after_entry e r))
last-by test e es r false is again = rw is (again r)

-- the last stamp of entries is the clock behind those that pass the test
last-replayed : (test : Entry → Bool) (es : List Entry) (r : Replayed) → last_stamp test r.clock es ≡ (replay (filter test es) r).clock
last-replayed test [] r = refl
last-replayed test (e ∷ es) r = last-by test e es r (test e) refl (last-replayed test es)

clock-of_cell : (before : List Entry) (s : CellState) → IsReplayed s → part_of_place s.place before ≡ s.entries → clock_of_place s.place before ≡ s.clock
clock-of_cell before s is part =
    last-replayed (λ (e : Entry). same_place e.place s.place) before (at_start s.opening)
    ∙ ap (λ (es : List Entry). (replay es (at_start s.opening)).clock) part
    ∙ ap (λ (r : Replayed). r.clock) is.replayed

pub actions-are_stamped : ActionsAreStamped
actions-are_stamped before process clock a s is part known =
    ap₂ (λ (c d : ℕ). record { stamp = suc (max c d); process = process; place = s.place; action = recorded a }) (sym known) (sym (clock-of_cell before s is part))
