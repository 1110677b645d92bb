-- Where it is noted who waits, histories and clocks are as before.
use Rattle.std.proofs.Common.{◌≡◌, ℕ, List, Option, Some, None, option_map, refl, sym, ap, subst, ◌∙◌}
use Rattle.std.specs.Prelude.{slice_get}
use Rattle.herm_model.proofs.Options.{map-some, none-not_some}
use Rattle.herm_journal.specs.Entries.{Place, port, reply_cell, book, Entry}
use Rattle.herm_system.specs.Systems.{numbered_from_one}
use Rattle.herm_queue.specs.BookStates.{book_cell}
use Rattle.herm_queue.specs.CellStates.{CellState}
use Rattle.herm_queue.specs.PortStates.{PortState, port_cell}
use Rattle.herm_queue.specs.ReplyStates.{reply_cell_of}
use Rattle.herm_process.specs.Processes.{ProcessState}
use Rattle.herm_world.specs.Doing.{AreRecorded, IsRecordedAt}
use Rattle.herm_world.specs.Places.{Places, cell_at}
use Rattle.herm_world.specs.Waits.{IsSameBut, without_waiter}
use Rattle.herm_world.specs.Worlds.{AreTold}
use Rattle.herm_world.proofs.PlacesSeen.{get-map}

option-none : {X Y : Type 0} (f : X → Y) (o : Option X) → option_map f o ≡ None → o ≡ None
option-none f None e = refl
option-none f (Some x) e = none-not_some (sym e)

module _ (journal : List Entry) (s t : Places) (same : IsSameBut s t) (are : AreRecorded journal s) where
  bare-there : (n : ℕ) → option_map without_waiter (slice_get s.ports n) ≡ option_map without_waiter (slice_get t.ports n)
  bare-there n = sym (get-map without_waiter s.ports n) ∙ ap (λ ps. slice_get ps n) (sym same.ports) ∙ get-map without_waiter t.ports n

  of-port : (n : ℕ) (c : CellState) → option_map port_cell (slice_get t.ports n) ≡ Some c → IsRecordedAt journal (port n) c
  of-port n c e =
      let found = map-some port_cell (slice_get t.ports n) c e in
      let was = map-some without_waiter (slice_get s.ports n) (without_waiter found.0) (bare-there n ∙ ap (option_map without_waiter) found.1) in
      let is = are.cells (port n) (port_cell was.0) (ap (option_map port_cell) was.1) in
      subst (IsRecordedAt journal (port n)) found.2
      (record {
        its = ap (λ (p : PortState). port p.number) (sym was.2) ∙ is.its;
        entries = ap (λ (p : PortState). p.entries) (sym was.2) ∙ is.entries;
        clock = ap (λ (p : PortState). p.clock) (sym was.2) ∙ is.clock;
      })

  cells : (place : Place) (c : CellState) → cell_at place t ≡ Some c → IsRecordedAt journal place c
  cells (port n) c e = of-port n c e
  cells (reply_cell p) c e = are.cells (reply_cell p) c (ap (λ rs. option_map reply_cell_of (numbered_from_one p rs)) (sym same.replies) ∙ e)
  cells book c e = are.cells book c (ap (λ b. Some (book_cell b)) (sym same.book) ∙ e)

  absent : (place : Place) → cell_at place t ≡ None → cell_at place s ≡ None
  absent (port n) e = ap (option_map port_cell) (option-none without_waiter (slice_get s.ports n) (bare-there n ∙ ap (option_map without_waiter) (option-none port_cell (slice_get t.ports n) e)))
  absent (reply_cell p) e = ap (λ rs. option_map reply_cell_of (numbered_from_one p rs)) (sym same.replies) ∙ e
  absent book e = none-not_some (sym e)

  pub same-recorded : AreRecorded journal t
  same-recorded = record { cells = cells; fresh = λ place none. are.fresh place (absent place none) }

pub same-told : (journal : List Entry) (limit : ℕ) (ps : List ProcessState) (s t : Places) → IsSameBut s t → AreTold journal limit ps s → AreTold journal limit ps t
same-told journal limit ps s t same told = record { processes = told.processes; fresh = told.fresh; cells = same-recorded journal s t same told.cells }
