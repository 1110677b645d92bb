use Rattle.std.proofs.Common.{◌-◌, ◌+◌, ◌∙◌, Some, None, refl, sym, ap, arith, true≢false}
use Rattle.herm_journal.specs.Actions.{put}
use Rattle.herm_journal.specs.Entries.{Text}
use Rattle.herm_queue.specs.CellStates.{value_text}
use Rattle.herm_queue.specs.LogStates.{with_action}
use Rattle.herm_queue.specs.MessageStates.{MessageState}
use Rattle.herm_queue.proofs.PortActs.{placed-acts, refused-acts, queued, kept-behind}
use Rattle.herm_queue.proofs.port_cell.PortCell.put.Goals as goal

pub invariant_of-self : goal.invariant_of-self
invariant_of-self c =
    let s = c.self.inside in
    let v = c.into_parts-value.result.0 in
    let is = c.record_action-stamp.ensures.recorded ∙ ap (λ (t : Text). with_action c.args.who.number c.args.clock.0 (put None t) s.log) (c.into_parts-value.ensures.texts.put ∙ ap value_text (sym c.into_parts-value.ensures.value)) in
    kept-behind s.port s.first s.is_open s.is_open s.placed s.placed s.messages s.messages s.waiter s.waiter s.log c.record_action-stamp.new.self s.spare (s.spare - 1)
    c.args.who.number c.args.clock.0 (put None v) (put None (value_text v)) c.self.invariant
    (refused-acts s.port s.first s.is_open s.placed s.messages s.waiter s.log c.record_action-stamp.new.self s.spare (s.spare - 1) c.args.who.number c.args.clock.0 v c.if-not-self.true refl c.self.invariant.place is)
    is refl (omega arith) c.self.invariant.kept.emptied c.self.invariant.kept.alone
    (λ e. omega (arith, c.self.invariant.room e)) (λ e. omega (arith, c.self.invariant.text_room e))

pub invariant_of-self-2 : goal.invariant_of-self-2
invariant_of-self-2 c =
    let s = c.self.inside in
    let v = c.into_parts-value.result.0 in
    let is = c.record_action-stamp-2.ensures.recorded ∙ ap (λ (t : Text). with_action c.args.who.number c.args.clock.0 (put (Some s.placed) t) s.log) (c.into_parts-value.ensures.texts.put ∙ ap value_text (sym c.into_parts-value.ensures.value)) in
    kept-behind s.port s.first s.is_open s.is_open s.placed (s.placed + 1) s.messages c.put.new.self s.waiter s.waiter s.log c.record_action-stamp-2.new.self s.spare (s.spare - 1)
    c.args.who.number c.args.clock.0 (put (Some s.placed) v) (put (Some s.placed) (value_text v)) c.self.invariant
    (placed-acts s.port s.first s.is_open s.placed (s.placed + 1) s.messages c.put.new.self s.waiter s.log c.record_action-stamp-2.new.self s.spare (s.spare - 1) c.args.who.number c.args.clock.0 v
    c.if-not-self.false refl (queued s.messages c.put.new.self _ c.put.ensures.placed) refl c.self.invariant.place is)
    is refl (omega arith)
    (λ e. absurd (true≢false (sym c.if-not-self.false ∙ e))) (λ e. absurd (true≢false (sym c.if-not-self.false ∙ e)))
    (λ e. omega (arith, c.self.invariant.room e, ap (λ (m : MessageState). m.room) c.put.ensures.placed))
    (λ e. omega (arith, c.self.invariant.text_room e, ap (λ (m : MessageState). m.text_room) c.put.ensures.placed))
