-- Cells and their places: how they open, what is done, and how it is recorded.
use Rattle.std.proofs.Common.{◌≡◌, ℕ, List, [], ◌∷◌, map, cond, Bool, Option, refl, sym, ap, ◌∙◌, subst, nat_eq}
use Rattle.std.specs.Prelude.{⊤}
use Rattle.herm_model.specs.Values.{Cell}
use Rattle.herm_journal.specs.Messages.{CellReply}
use Rattle.herm_model.specs.ValueTexts.{text_of}
use Rattle.herm_journal.specs.Actions.{make_port, make_process, put, take, close, answer, hear}
use Rattle.herm_journal.specs.NextNumbers.{Limits, first_book}
use Rattle.herm_journal.specs.Ports.{Port, empty_port, port_with}
use Rattle.herm_journal.specs.PlaceStates.{Replies, a_port, replies, a_book}
use Rattle.herm_journal.specs.Entries.{Text, Record, map_reply, texts_of}
use Rattle.herm_journal.specs.Actions as actions
use Rattle.herm_journal.specs.Histories.{Told}
use Rattle.herm_runs.proofs.Events.{fits-map, after-map}
use Rattle.herm_values.specs.View.{value_view}
use Rattle.herm_values.specs.declared.value.Value.{Value}
use Rattle.herm_letters.specs.View.{reply_view}
use Rattle.herm_letters.specs.declared.reply.Reply.{Reply}
use Rattle.herm_queue.specs.CellStates.{value_text, reply_text}
use Rattle.herm_queue.specs.PortStates.{opening_port}
use Rattle.herm_queue.specs.SeenCells.{MainPortsOpen, OtherPortsOpen, ReplyCellsOpen, BooksOpen, ActionsFit, ActionsLead, ActionsAreRecorded, HoldingsAreTold}

abbrev told_port : Port Text → Told
told_port p = a_port p

abbrev told_book : Limits → Told
told_book limits = a_book (first_book limits)

numbered-open : (n : ℕ) (message : Text) → n ≡ 1 → told_port (port_with message) ≡ told_port (cond (nat_eq n 1) (port_with message) empty_port)
numbered-open n message e = subst (λ (k : ℕ). told_port (port_with message) ≡ told_port (cond (nat_eq k 1) (port_with message) empty_port)) (sym e) refl

pub main-ports_open : MainPortsOpen
main-ports_open limits message s number first = ap (λ (f : Option Text). told_port (opening_port f)) first ∙ numbered-open s.number message number

pub other-ports_open : OtherPortsOpen
other-ports_open limits message s other none = ap (λ (f : Option Text). told_port (opening_port f)) none ∙ sym (ap (λ (b : Bool). told_port (cond b (port_with message) empty_port)) other)

pub reply-cells_open : ReplyCellsOpen
reply-cells_open limits message s = refl

pub books-open : BooksOpen
books-open limits message s same = ap told_book same

pub actions-fit : ActionsFit
actions-fit h a e = fits-map value_view reply_view h a e

pub actions-lead : ActionsLead
actions-lead h a = after-map value_view reply_view h a

texts-twice : (vs : List Value) → map value_text vs ≡ map text_of (map value_view vs)
texts-twice [] = refl
texts-twice (v ∷ vs) = ap (value_text v ∷◌) (texts-twice vs)

abbrev record_of_close : ℕ → List Text → Record
record_of_close count left = close count left

pub actions-are_recorded : ActionsAreRecorded
actions-are_recorded (make_port made) = refl
actions-are_recorded (make_process code made) = refl
actions-are_recorded (put number v) = refl
actions-are_recorded (take number v) = refl
actions-are_recorded (close count left) = ap (record_of_close count) (texts-twice left)
actions-are_recorded (answer call r) = refl
actions-are_recorded (hear call r) = refl

queue-twice : (qs : List (ℕ × Value)) → map {B = ℕ × Text} (λ (q : ℕ × Value). (q.0, value_text q.1)) qs ≡ map {B = ℕ × Text} (λ (q : ℕ × Cell ⊤). (q.0, text_of q.1)) (map {B = ℕ × Cell ⊤} (λ (q : ℕ × Value). (q.0, value_view q.1)) qs)
queue-twice [] = refl
queue-twice (q ∷ qs) = ap ((q.0, value_text q.1) ∷◌) (queue-twice qs)

replies-twice : (rs : List (ℕ × Reply)) → map {B = ℕ × actions.Reply Text} (λ (r : ℕ × Reply). (r.0, reply_text r.1)) rs ≡ map {B = ℕ × actions.Reply Text} (λ (r : ℕ × CellReply ⊤). (r.0, map_reply texts_of r.1)) (map {B = ℕ × CellReply ⊤} (λ (r : ℕ × Reply). (r.0, reply_view r.1)) rs)
replies-twice [] = refl
replies-twice (r ∷ rs) = ap ((r.0, reply_text r.1) ∷◌) (replies-twice rs)

abbrev told_replies : Replies (actions.Reply Text) → Told
told_replies rs = replies rs

abbrev told_queue : Bool → ℕ → List (ℕ × Text) → Told
told_queue is_open placed queue = a_port (record { is_open = is_open; queue = queue; placed = placed })

pub holdings-are_told : HoldingsAreTold
holdings-are_told (a_port p) = ap (told_queue p.is_open p.placed) (queue-twice p.queue)
holdings-are_told (replies rs) = ap told_replies (replies-twice rs)
holdings-are_told (a_book b) = refl
