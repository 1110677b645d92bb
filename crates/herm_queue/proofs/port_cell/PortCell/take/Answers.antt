use Rattle.std.proofs.Common.{◌-◌, ◌∙◌, refl, ap, arith}
use Rattle.herm_journal.specs.Actions.{take}
use Rattle.herm_journal.specs.Entries.{Text}
use Rattle.herm_queue.specs.CellStates.{value_text}
use Rattle.herm_queue.specs.LogStates.{with_action}
use Rattle.herm_queue.proofs.PortActs.{taken-acts, emptied-taken, kept-behind}
use Rattle.herm_queue.proofs.port_cell.PortCell.take.Goals as goal

pub invariant_of-self : goal.invariant_of-self
invariant_of-self c =
    let s = c.self.inside in
    let x = c.in-Some.parcel in
    let is = c.record_action-stamp.ensures.recorded ∙ ap (λ (t : Text). with_action c.args.who.number c.args.clock.0 (take x.number t) s.log) c.in-Some.ensures.text in
    kept-behind s.port s.first s.is_open s.is_open s.placed s.placed s.messages c.take.new.self s.waiter s.waiter s.log c.record_action-stamp.new.self s.spare (s.spare - 1)
    c.args.who.number c.args.clock.0 (take x.number x.value) (take x.number (value_text x.value)) c.self.invariant
    (taken-acts s.port s.first s.is_open s.placed s.messages c.take.new.self s.waiter s.log c.record_action-stamp.new.self s.spare (s.spare - 1) c.args.who.number c.args.clock.0 x c.in-Some.ensures.first refl c.self.invariant.place is)
    is refl (omega arith)
    (λ e. emptied-taken s.messages c.take.new.self x c.in-Some.ensures.first (c.self.invariant.kept.emptied e)) c.self.invariant.kept.alone
    (λ e. omega (arith, c.self.invariant.room e, c.take.ensures.more_room)) (λ e. omega (arith, c.self.invariant.text_room e, c.take.ensures.more_text_room))
