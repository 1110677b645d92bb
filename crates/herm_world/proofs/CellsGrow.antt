-- Histories and clocks of cells grow by the entry of an action.
use Rattle.std.proofs.Common.{◌≡◌, ℕ, suc, max, List, [], ◌∷◌, ◌++◌, Bool, true, false, cond, Some, None, refl, sym, ap, ap₂, ◌∙◌, true≢false}
use Rattle.std.proofs.lemmas.Bool.{eqb-true}
use Rattle.herm_model.proofs.Options.{none-not_some}
use Rattle.herm_journal.specs.Entries.{Place, port, reply_cell, book, same_place, Entry, recorded}
use Rattle.herm_journal.specs.Journals.{part_of_place}
use Rattle.herm_journal.specs.Stamps.{clock_of_place}
use Rattle.herm_waking.specs.laws.EntryLaws.{GrowsBy}
use Rattle.herm_waking.proofs.EntriesGrow.{journals-grow}
use Rattle.herm_queue.specs.CellStates as queue
use Rattle.herm_queue.specs.CellStates.{CellState, IsActed}
use Rattle.herm_queue.specs.SeenCells.{seen_action}
use Rattle.herm_world.proofs.Recording.{actions-are_recorded}
use Rattle.herm_world.specs.Places.{Places, cell_at}
use Rattle.herm_world.specs.Doing.{AreRecorded, IsRecordedAt}

-- a cell behind an action is that where it was done, or was there before, or is new and empty
pub data IsBehind (process clock : ℕ) (place : Place) (cell : CellState) (a : queue.CellAction) (old : Places) (other : Place) (c : CellState) : Type 0 where
  acted : (spare : ℕ) → same_place place other ≡ true → IsActed process clock a (record cell { spare = spare }) c → IsBehind process clock place cell a old other c
  stays : same_place place other ≡ false → cell_at other old ≡ Some c → IsBehind process clock place cell a old other c
  made : same_place place other ≡ false → cell_at other old ≡ None → c.place ≡ other → c.entries ≡ [] → c.clock ≡ 0 → IsBehind process clock place cell a old other c

same-is : (s t : Place) → same_place s t ≡ true → s ≡ t
same-is (port m) (port n) e = ap port (eqb-true m n e)
same-is (port m) (reply_cell n) e = absurd (true≢false (sym e))
same-is (port m) book e = absurd (true≢false (sym e))
same-is (reply_cell m) (port n) e = absurd (true≢false (sym e))
same-is (reply_cell m) (reply_cell n) e = ap reply_cell (eqb-true m n e)
same-is (reply_cell m) book e = absurd (true≢false (sym e))
same-is book (port n) e = absurd (true≢false (sym e))
same-is book (reply_cell n) e = absurd (true≢false (sym e))
same-is book book e = refl

module _ (process clock : ℕ) (place : Place) (cell : CellState) (a : queue.CellAction) (old new : Places) (there : cell_at place old ≡ Some cell)
    (behind : (other : Place) (c : CellState) → cell_at other new ≡ Some c → IsBehind process clock place cell a old other c)
    (absent : (other : Place) → cell_at other new ≡ None → cell_at other old ≡ None)
    (journal : List Entry) (are : AreRecorded journal old) where
  abbrev entry : Entry
  entry = record { stamp = suc (max clock cell.clock); process = process; place = place; action = recorded (seen_action a) }

  grows : GrowsBy journal entry
  grows = journals-grow journal entry

  same-entry : queue.entry_at process clock a cell ≡ entry
  same-entry = ap₂ (λ p r. record { stamp = suc (max clock cell.clock); process = process; place = p; action = r }) (are.cells place cell there).its (actions-are_recorded a)

  of-cell : (other : Place) (c : CellState) → IsBehind process clock place cell a old other c → IsRecordedAt (journal ++ entry ∷ []) other c
  of-cell other c (acted spare same done) =
      let is = are.cells place cell there in
      let at = same-is place other same in
      record {
        its = ap (λ (c : CellState). c.place) done.after ∙ is.its ∙ at;
        entries =
            ap (λ (c : CellState). c.entries) done.after
            ∙ ap₂ (λ es (e : Entry). es ++ e ∷ []) (is.entries ∙ ap (λ p. part_of_place p journal) at) same-entry
            ∙ sym (grows.histories other ∙ ap (λ b. cond b (part_of_place other journal ++ entry ∷ []) (part_of_place other journal)) same);
        clock = ap (λ (c : CellState). c.clock) done.after ∙ sym (grows.place_clocks other ∙ ap (λ b. cond b (suc (max clock cell.clock)) (clock_of_place other journal)) same);
      }
  of-cell other c (stays apart found) =
      let is = are.cells other c found in
      record {
        its = is.its;
        entries = is.entries ∙ sym (grows.histories other ∙ ap (λ b. cond b (part_of_place other journal ++ entry ∷ []) (part_of_place other journal)) apart);
        clock = is.clock ∙ sym (grows.place_clocks other ∙ ap (λ b. cond b (suc (max clock cell.clock)) (clock_of_place other journal)) apart);
      }
  of-cell other c (made apart none its entries clock') =
      let is = are.fresh other none in
      record {
        its = its;
        entries = entries ∙ sym (grows.histories other ∙ ap (λ b. cond b (part_of_place other journal ++ entry ∷ []) (part_of_place other journal)) apart ∙ is.0);
        clock = clock' ∙ sym (grows.place_clocks other ∙ ap (λ b. cond b (suc (max clock cell.clock)) (clock_of_place other journal)) apart ∙ is.1);
      }

  not-same : (other : Place) → cell_at other old ≡ None → (b : Bool) → same_place place other ≡ b → b ≡ false
  not-same other none true e = none-not_some (sym none ∙ ap (λ p. cell_at p old) (sym (same-is place other e)) ∙ there)
  not-same other none false e = refl

  pub cells-grow : AreRecorded (journal ++ entry ∷ []) new
  cells-grow = record {
    cells = λ other c found. of-cell other c (behind other c found);
    fresh = λ other none.
        let before = absent other none in
        let apart = not-same other before (same_place place other) refl in
        let is = are.fresh other before in (
          grows.histories other ∙ ap (λ b. cond b (part_of_place other journal ++ entry ∷ []) (part_of_place other journal)) apart ∙ is.0,
          grows.place_clocks other ∙ ap (λ b. cond b (suc (max clock cell.clock)) (clock_of_place other journal)) apart ∙ is.1,
        );
  }
