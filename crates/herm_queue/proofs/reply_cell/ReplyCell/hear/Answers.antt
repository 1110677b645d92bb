use Rattle.std.proofs.Common.{◌-◌, ◌∙◌, refl, ap, arith}
use Rattle.herm_journal.specs.Actions as actions
use Rattle.herm_journal.specs.Actions.{hear}
use Rattle.herm_journal.specs.Entries.{Text}
use Rattle.herm_queue.specs.CellStates.{reply_text}
use Rattle.herm_queue.specs.LogStates.{with_action}
use Rattle.herm_queue.proofs.ReplyActs.{heard-acts, reply-kept}
use Rattle.herm_queue.proofs.reply_cell.ReplyCell.hear.Goals as goal

pub invariant_of-self : goal.invariant_of-self
invariant_of-self c =
    let s = c.self.inside in
    let x = c.in-Some.answered in
    let is = c.record_action-stamp.ensures.recorded ∙ ap (λ (t : actions.Reply Text). with_action s.owner.number c.args.clock.0 (hear x.call t) s.log) c.in-Some.ensures.further in
    reply-kept s.owner s.answers c.take.new.self s.log c.record_action-stamp.new.self s.spare (s.spare - 1) s.owner.number c.args.clock.0 (hear x.call x.reply) (hear x.call (reply_text x.reply)) c.self.invariant
    (heard-acts s.owner s.answers c.take.new.self s.log c.record_action-stamp.new.self s.spare (s.spare - 1) s.owner.number c.args.clock.0 x.call x.reply c.in-Some.ensures.first refl c.self.invariant.place is)
    is refl (omega (arith, c.self.invariant.room, c.take.ensures.more_room))
