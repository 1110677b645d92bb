-- What making a port and a process does to the fields of the book.
use Rattle.std.proofs.Common.{◌≡◌, ℕ, suc, ◌-◌, Bool, true, false, cond, ◌&&◌, Option, Some, None, refl, sym, ap, ◌∙◌, arith, nat_lt}
use Rattle.herm_model.proofs.Options.{some-injective, none-not_some}
use Rattle.herm_base.specs.declared.limits.Limits.{Limits}
use Rattle.herm_journal.specs.Actions.{make_port, make_process}
use Rattle.herm_journal.specs.PlaceStates.{a_book}
use Rattle.herm_journal.specs.NextNumbers.{next_port, next_process}
use Rattle.herm_journal.specs.Entries.{book, Record}
use Rattle.herm_queue.specs.CellStates.{CellAction, IsActed}
use Rattle.herm_queue.specs.LogStates.{LogState, with_action}
use Rattle.herm_queue.specs.BookStates.{counts_of, book_state, book_cell, AreBook}
use Rattle.herm_queue.proofs.Acted.{acts, acted-replayed, place-stays, room-falls}

port-counted : (l : Limits) (ports processes k : ℕ) (test : Bool) → Some k ≡ cond test (Some (suc ports)) None → counts_of l k processes ≡ cond test (counts_of l (suc ports) processes) (counts_of l ports processes)
port-counted l ports processes k true e = ap (λ (n : ℕ). counts_of l n processes) (some-injective e)
port-counted l ports processes k false e = none-not_some (sym e)

no-port_counted : (l : Limits) (ports processes : ℕ) (test : Bool) → None ≡ cond test (Some (suc ports)) None → counts_of l ports processes ≡ cond test (counts_of l (suc ports) processes) (counts_of l ports processes)
no-port_counted l ports processes true e = none-not_some e
no-port_counted l ports processes false e = refl

-- two numbers, there
abbrev pub numbers : ℕ → ℕ → Option (ℕ × ℕ)
numbers q k = Some (q, k)

process-counted : (l : Limits) (ports processes k q : ℕ) (test : Bool) → numbers q k ≡ cond test (numbers (suc processes) (suc ports)) None → counts_of l k q ≡ cond test (counts_of l (suc ports) (suc processes)) (counts_of l ports processes)
process-counted l ports processes k q true e = ap (λ (m : ℕ × ℕ). counts_of l m.1 m.0) (some-injective e)
process-counted l ports processes k q false e = none-not_some (sym e)

no-process_counted : (l : Limits) (ports processes : ℕ) (test : Bool) → None ≡ cond test (numbers (suc processes) (suc ports)) None → counts_of l ports processes ≡ cond test (counts_of l (suc ports) (suc processes)) (counts_of l ports processes)
no-process_counted l ports processes true e = none-not_some e
no-process_counted l ports processes false e = refl

-- an action of the book that leaves these counts
pub book-acts : (l : Limits) (ports ports' processes processes' : ℕ) (log log' : LogState) (spare spare' p c : ℕ) (a : CellAction) (r : Record) →
    IsActed p c a (book_cell (book_state l ports processes log spare)) (book_cell (book_state l ports' processes' log' spare')) →
    AreBook l ports processes log spare → log' ≡ with_action p c r log → spare' ≡ spare - 1 →
    AreBook l ports' processes' log' spare'
book-acts l ports ports' processes processes' log log' spare spare' p c a r acted are is one = record {
  kept = acted-replayed p c a _ _ acted are.kept;
  place = place-stays log log' p c r is ∙ are.place;
  entry_room = omega (arith, one, are.entry_room, room-falls log log' p c r is);
}

pub port-made : (l : Limits) (ports processes k : ℕ) (log log' : LogState) (spare spare' p c : ℕ) →
    Some k ≡ next_port (counts_of l ports processes) → spare' ≡ spare - 1 → log.place ≡ book → log' ≡ with_action p c (make_port (Some k)) log →
    IsActed p c (make_port (Some k)) (book_cell (book_state l ports processes log spare)) (book_cell (book_state l k processes log' spare'))
port-made l ports processes k log log' spare spare' p c next one place is =
    acts p c (make_port (Some k)) book _ (a_book (counts_of l ports processes)) _ log log' spare spare' (sym next)
    (ap a_book (port-counted l ports processes k (nat_lt ports l.ports) next)) one place is

pub no-port_made : (l : Limits) (ports processes : ℕ) (log log' : LogState) (spare spare' p c : ℕ) →
    None ≡ next_port (counts_of l ports processes) → spare' ≡ spare - 1 → log.place ≡ book → log' ≡ with_action p c (make_port None) log →
    IsActed p c (make_port None) (book_cell (book_state l ports processes log spare)) (book_cell (book_state l ports processes log' spare'))
no-port_made l ports processes log log' spare spare' p c next one place is =
    acts p c (make_port None) book _ (a_book (counts_of l ports processes)) _ log log' spare spare' (sym next)
    (ap a_book (no-port_counted l ports processes (nat_lt ports l.ports) next)) one place is

pub process-made : (l : Limits) (ports processes k q code : ℕ) (log log' : LogState) (spare spare' p c : ℕ) →
    numbers q k ≡ next_process (counts_of l ports processes) → spare' ≡ spare - 1 → log.place ≡ book → log' ≡ with_action p c (make_process code (Some (q, k))) log →
    IsActed p c (make_process code (Some (q, k))) (book_cell (book_state l ports processes log spare)) (book_cell (book_state l k q log' spare'))
process-made l ports processes k q code log log' spare spare' p c next one place is =
    acts p c (make_process code (Some (q, k))) book _ (a_book (counts_of l ports processes)) _ log log' spare spare' (sym next)
    (ap a_book (process-counted l ports processes k q (nat_lt processes l.processes && nat_lt ports l.ports) next)) one place is

pub no-process_made : (l : Limits) (ports processes code : ℕ) (log log' : LogState) (spare spare' p c : ℕ) →
    None ≡ next_process (counts_of l ports processes) → spare' ≡ spare - 1 → log.place ≡ book → log' ≡ with_action p c (make_process code None) log →
    IsActed p c (make_process code None) (book_cell (book_state l ports processes log spare)) (book_cell (book_state l ports processes log' spare'))
no-process_made l ports processes code log log' spare spare' p c next one place is =
    acts p c (make_process code None) book _ (a_book (counts_of l ports processes)) _ log log' spare spare' (sym next)
    (ap a_book (no-process_counted l ports processes (nat_lt processes l.processes && nat_lt ports l.ports) next)) one place is
