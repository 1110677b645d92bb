use Rattle.std.proofs.Common.{◌-◌, ◌∙◌, false, None, length, refl, sym, ap, subst, arith, true≢false}
use Rattle.herm_journal.specs.Actions.{close}
use Rattle.herm_queue.specs.CellStates.{IsActed}
use Rattle.herm_queue.specs.MessageStates.{queue_of, values_of, texts_of_parcels}
use Rattle.herm_queue.specs.PortStates.{PortState, port_cell}
use Rattle.herm_queue.specs.PortParts.{port_state}
use Rattle.herm_queue.proofs.PortActs.{closed-acts, none-queued, kept-behind}
use Rattle.herm_queue.proofs.port_cell.PortCell.close.Goals as goal

pub invariant_of-self : goal.invariant_of-self
invariant_of-self c =
    let s = c.self.inside in
    let ps = c.hand_over-parcels.result.0.parcels in
    let all = c.hand_over-parcels.ensures.parcels in
    kept-behind s.port s.first s.is_open false s.placed s.placed s.messages c.hand_over-parcels.new.self s.waiter None s.log c.record_action-stamp.new.self s.spare (s.spare - 1)
    c.args.who.number c.args.clock.0 (close (length ps) (values_of ps)) (close c.len-count.result c.hand_over-parcels.result.1) c.self.invariant
    (closed-acts s.port s.first s.is_open s.placed s.messages c.hand_over-parcels.new.self s.waiter None s.log c.record_action-stamp.new.self s.spare (s.spare - 1) c.args.who.number c.args.clock.0 c.len-count.result c.hand_over-parcels.result.1 ps
    all c.hand_over-parcels.ensures.empty (c.len-count.ensures.number ∙ sym (ap length all)) (c.hand_over-parcels.ensures.texts ∙ sym (ap texts_of_parcels all)) refl c.self.invariant.place c.record_action-stamp.ensures.recorded)
    c.record_action-stamp.ensures.recorded refl (omega arith)
    (λ e. ap queue_of c.hand_over-parcels.ensures.empty) (λ e. refl)
    (λ e. absurd (true≢false (sym e))) (λ e. absurd (true≢false (sym e)))

pub returns-clause-acted : goal.returns-clause-acted
returns-clause-acted c =
    let s = c.self.inside in
    let ps = c.hand_over-parcels.result.0.parcels in
    let all = c.hand_over-parcels.ensures.parcels in
    subst (λ (old : PortState). IsActed c.args.who.number c.args.clock.0 (close (length ps) (values_of ps)) (port_cell old) (port_cell (port_state s.port s.first false s.placed c.hand_over-parcels.new.self None c.record_action-stamp.new.self (s.spare - 1)))) c.self.view_is
    (closed-acts s.port s.first s.is_open s.placed s.messages c.hand_over-parcels.new.self s.waiter None s.log c.record_action-stamp.new.self s.spare (s.spare - 1) c.args.who.number c.args.clock.0 c.len-count.result c.hand_over-parcels.result.1 ps
    all c.hand_over-parcels.ensures.empty (c.len-count.ensures.number ∙ sym (ap length all)) (c.hand_over-parcels.ensures.texts ∙ sym (ap texts_of_parcels all)) refl c.self.invariant.place c.record_action-stamp.ensures.recorded)

pub returns-clause-closed : goal.returns-clause-closed
returns-clause-closed c closed =
    let ps = c.hand_over-parcels.result.0.parcels in
    let all = c.hand_over-parcels.ensures.parcels in
    all ∙ none-queued _ (c.self.invariant.kept.emptied (ap (λ (old : PortState). old.held.is_open) c.self.view_is ∙ closed))
