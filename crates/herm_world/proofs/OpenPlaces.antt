-- The places with which a world opens.
use Rattle.std.proofs.Common.{◌≡◌, ℕ, zero, suc, List, [], ◌∷◌, map, Some, None, refl, ap, ap₂, subst, ◌∙◌}
use Rattle.std.specs.Prelude.{⊤}
use Rattle.herm_model.proofs.Options.{none-not_some, some-injective}
use Rattle.herm_model.specs.Values.{Cell}
use Rattle.herm_journal.specs.Entries.{Text, Place, port, reply_cell, book, map_port}
use Rattle.herm_journal.specs.NextNumbers.{Book, Limits, first_book}
use Rattle.herm_journal.specs.PlaceStates.{Replies}
use Rattle.herm_journal.specs.Messages.{CellReply}
use Rattle.herm_journal.specs.Ports.{Port, empty_port, port_with}
use Rattle.herm_code_machine.specs.CodeStates.{CodeState}
use Rattle.herm_values.specs.View.{value_view}
use Rattle.herm_values.specs.declared.value.Value.{Value}
use Rattle.herm_letters.specs.View.{reply_view}
use Rattle.herm_waking.specs.Unnamed.{Unnamed}
use Rattle.herm_queue.specs.BookStates.{BookState}
use Rattle.herm_queue.specs.CellStates.{CellState}
use Rattle.herm_queue.specs.PortStates.{PortState}
use Rattle.herm_queue.specs.ReplyStates.{ReplyState}
use Rattle.herm_world.specs.Doing.{IsRecordedAt}
use Rattle.herm_world.specs.Opening.{AreOpening, first_message}
use Rattle.herm_world.specs.Places.{Places, cell_at, port_seen, replies_seen}

-- a port and a reply cell as they open
pub record IsOpenPort (n : ℕ) (held : Port Value) (p : PortState) : Type 0 where
  pub number : p.number ≡ n
  pub held_is : p.held ≡ held
  pub waiter : p.waiter ≡ None
  pub clock : p.clock ≡ 0
  pub entries : p.entries ≡ []

module _ (limits : Limits) (argument : Text) (letter : Value) (zeroth first : PortState) (own : ReplyState) (b : BookState) (console : IsOpenPort 0 empty_port zeroth) (mains : IsOpenPort 1 (port_with letter) first)
    (owner : own.owner ≡ 1) (waiting : own.waiting ≡ []) (reply_clock : own.clock ≡ 0) (reply_entries : own.entries ≡ [])
    (held : b.held ≡ first_book limits) (book_clock : b.clock ≡ 0) (book_entries : b.entries ≡ []) (message : value_view letter ≡ first_message argument) where
  abbrev places : Places
  places = record { ports = zeroth ∷ first ∷ []; replies = own ∷ []; book = b }

  abbrev seen_with : List (CodeState ⊤) → Port (Cell ⊤) → Port (Cell ⊤) → Replies (CellReply ⊤) → Book → Unnamed (CodeState ⊤)
  seen_with qs zeroth first own b = record { processes = qs; ports = zeroth ∷ first ∷ []; replies = own ∷ []; book = b }

  first-seen : port_seen first ≡ port_with (first_message argument)
  first-seen = ap (map_port value_view) mains.held_is ∙ ap (λ m. port_with m) message

  own-seen : replies_seen own ≡ []
  own-seen = ap (λ ws. map (λ r. (r.0, reply_view r.1)) ws) waiting

  cells : (place : Place) (c : CellState) → cell_at place places ≡ Some c → IsRecordedAt [] place c
  cells (port zero) c is = subst (IsRecordedAt [] (port 0)) (some-injective is) (record { its = ap port console.number; entries = console.entries; clock = console.clock })
  cells (port (suc zero)) c is = subst (IsRecordedAt [] (port 1)) (some-injective is) (record { its = ap port mains.number; entries = mains.entries; clock = mains.clock })
  cells (port (suc (suc n))) c is = none-not_some is
  cells (reply_cell zero) c is = none-not_some is
  cells (reply_cell (suc zero)) c is = subst (IsRecordedAt [] (reply_cell 1)) (some-injective is) (record { its = ap reply_cell owner; entries = reply_entries; clock = reply_clock })
  cells (reply_cell (suc (suc n))) c is = none-not_some is
  cells book c is = subst (IsRecordedAt [] book) (some-injective is) (record { its = refl; entries = book_entries; clock = book_clock })

  pub are-opening : AreOpening limits argument places
  are-opening = record {
    seen = λ qs.
        ap₂ (λ z f. seen_with qs z f (replies_seen own) b.held) (ap (map_port value_view) console.held_is) first-seen
        ∙ ap₂ (λ o b. seen_with qs empty_port (port_with (first_message argument)) o b) own-seen held;
    waiters = ap₂ (λ z f. z ∷ f ∷ []) console.waiter mains.waiter;
    recorded = record { cells = cells; fresh = λ place none. (refl, refl) };
  }
