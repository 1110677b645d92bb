use Rattle.std.proofs.Common.{ℕ, ◌-◌, ◌∙◌, Option, Some, None, option_map, refl, sym, ap}
use Rattle.herm_base.specs.declared.numbers.PortNo.{PortNo}
use Rattle.herm_journal.specs.Actions.{make_port}
use Rattle.herm_queue.specs.LogStates.{with_action}
use Rattle.herm_queue.proofs.BookActs.{book-acts, port-made, no-port_made}
use Rattle.herm_queue.proofs.book.Book.make_port.Goals as goal

pub invariant_of-self : goal.invariant_of-self
invariant_of-self c =
    let s = c.self.inside in
    let n = c.get-self-inside.result in
    let is =
    c.record_action-stamp.ensures.recorded
    ∙ ap (λ (k : ℕ). with_action c.args.who.number c.args.clock.0 (make_port (Some k)) s.log) (sym c.get-self-inside.ensures.number)
    in
    book-acts s.limits s.ports n s.processes s.processes s.log c.record_action-stamp.new.self s.spare (s.spare - 1) c.args.who.number c.args.clock.0 (make_port (Some n)) (make_port (Some n))
    (port-made s.limits s.ports s.processes n s.log c.record_action-stamp.new.self s.spare (s.spare - 1) c.args.who.number c.args.clock.0
    (ap (λ (k : ℕ). Some k) c.get-self-inside.ensures.number ∙ c.in-Some.ensures.next) refl c.self.invariant.place is)
    c.self.invariant is refl

pub invariant_of-self-in-None : goal.invariant_of-self-in-None
invariant_of-self-in-None c =
    let s = c.self.inside in
    let is =
    c.record_action-stamp-in-None.ensures.recorded
    ∙ ap (λ (o : Option PortNo). with_action c.args.who.number c.args.clock.0 (make_port (option_map (λ (p : PortNo). p.number) o)) s.log) c.in-None.is
    in
    book-acts s.limits s.ports s.ports s.processes s.processes s.log c.record_action-stamp-in-None.new.self s.spare (s.spare - 1) c.args.who.number c.args.clock.0 (make_port None) (make_port None)
    (no-port_made s.limits s.ports s.processes s.log c.record_action-stamp-in-None.new.self s.spare (s.spare - 1) c.args.who.number c.args.clock.0 c.in-None.ensures.next refl c.self.invariant.place is)
    c.self.invariant is refl
