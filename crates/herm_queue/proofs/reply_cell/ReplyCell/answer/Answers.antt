use Rattle.std.proofs.Common.{◌-◌, ◌∙◌, refl, ap, arith}
use Rattle.herm_journal.specs.Actions as actions
use Rattle.herm_journal.specs.Actions.{answer}
use Rattle.herm_journal.specs.Entries.{Text}
use Rattle.herm_queue.specs.CellStates.{reply_text}
use Rattle.herm_queue.specs.LogStates.{with_action}
use Rattle.herm_queue.proofs.ReplyActs.{answered-acts, reply-kept}
use Rattle.herm_queue.proofs.reply_cell.ReplyCell.answer.Goals as goal

pub invariant_of-self : goal.invariant_of-self
invariant_of-self c =
    let s = c.self.inside in
    let is = c.record_action-stamp.ensures.recorded ∙ ap (λ (t : actions.Reply Text). with_action c.args.who.number c.args.clock.0 (answer c.args.call t) s.log) c.requires.recorded in
    reply-kept s.owner s.answers c.put.new.self s.log c.record_action-stamp.new.self s.spare (s.spare - 1) c.args.who.number c.args.clock.0 (answer c.args.call c.args.reply) (answer c.args.call (reply_text c.args.reply)) c.self.invariant
    (answered-acts s.owner s.answers c.put.new.self s.log c.record_action-stamp.new.self s.spare (s.spare - 1) c.args.who.number c.args.clock.0 c.args.call c.args.reply c.put.ensures.waiting refl c.self.invariant.place is)
    is refl (omega (arith, c.self.invariant.room, c.put.ensures.room))
