-- What an answer and a hearing do to the fields of a reply cell.
use Rattle.std.proofs.Common.{◌≡◌, ℕ, ◌-◌, ◌≤◌, [], ◌∷◌, ◌++◌, sym, ap, ◌∙◌, arith}
use Rattle.herm_base.specs.declared.numbers.ProcNo.{ProcNo}
use Rattle.herm_journal.specs.Actions.{answer, hear}
use Rattle.herm_journal.specs.PlaceStates.{Replies, replies}
use Rattle.herm_journal.specs.Ports.{first_of, behind_first}
use Rattle.herm_journal.specs.Entries.{reply_cell, Record}
use Rattle.herm_letters.specs.declared.reply.Reply.{Reply}
use Rattle.herm_queue.specs.CellStates.{CellAction, reply_text, IsActed}
use Rattle.herm_queue.specs.LogStates.{LogState, with_action}
use Rattle.herm_queue.specs.ReplyStates.{AnswerState, reply_state, reply_cell_of, AreReplyCell}
use Rattle.herm_queue.proofs.Acted.{acts, acted-replayed, place-stays, room-falls}

pub answered-acts : (n : ProcNo) (ws ws' : AnswerState) (log log' : LogState) (spare spare' p c call : ℕ) (r : Reply) →
    ws'.waiting ≡ ws.waiting ++ (call, r) ∷ [] → spare' ≡ spare - 1 → log.place ≡ reply_cell n.number → log' ≡ with_action p c (answer call (reply_text r)) log →
    IsActed p c (answer call r) (reply_cell_of (reply_state n ws log spare)) (reply_cell_of (reply_state n ws' log' spare'))
answered-acts n ws ws' log log' spare spare' p c call r queue one place is =
    acts p c (answer call r) (reply_cell n.number) _ _ _ log log' spare spare' tt (ap replies queue) one place is

pub heard-acts : (n : ProcNo) (ws ws' : AnswerState) (log log' : LogState) (spare spare' p c call : ℕ) (r : Reply) →
    ws.waiting ≡ (call, r) ∷ ws'.waiting → spare' ≡ spare - 1 → log.place ≡ reply_cell n.number → log' ≡ with_action p c (hear call (reply_text r)) log →
    IsActed p c (hear call r) (reply_cell_of (reply_state n ws log spare)) (reply_cell_of (reply_state n ws' log' spare'))
heard-acts n ws ws' log log' spare spare' p c call r first one place is =
    acts p c (hear call r) (reply_cell n.number) _ _ _ log log' spare spare'
    (ap first_of first)
    (sym (ap (λ (xs : Replies Reply). replies (behind_first xs)) first))
    one place is

pub reply-kept : (n : ProcNo) (ws ws' : AnswerState) (log log' : LogState) (spare spare' p c : ℕ) (a : CellAction) (r : Record) →
    AreReplyCell n ws log spare →
    IsActed p c a (reply_cell_of (reply_state n ws log spare)) (reply_cell_of (reply_state n ws' log' spare')) →
    log' ≡ with_action p c r log → spare' ≡ spare - 1 → spare' ≤ ws'.room →
    AreReplyCell n ws' log' spare'
reply-kept n ws ws' log log' spare spare' p c a r are acted is one room = record {
  kept = acted-replayed p c a _ _ acted are.kept;
  place = place-stays log log' p c r is ∙ are.place;
  one = omega (arith, one, are.one);
  entry_room = omega (arith, one, are.entry_room, room-falls log log' p c r is);
  room = room;
  ready = λ e. absurd (omega (arith, e, one, are.one));
}
