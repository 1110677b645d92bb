use Rattle.std.proofs.Common.{ℕ, ◌-◌, ◌∙◌, Option, None, option_map, refl, sym, ap, ap₂}
use Rattle.herm_base.specs.declared.numbers.PortNo.{PortNo}
use Rattle.herm_base.specs.declared.numbers.ProcNo.{ProcNo}
use Rattle.herm_journal.specs.Actions.{make_process}
use Rattle.herm_queue.specs.LogStates.{with_action}
use Rattle.herm_queue.proofs.BookActs.{numbers, book-acts, process-made, no-process_made}
use Rattle.herm_queue.proofs.book.Book.make_process.Goals as goal

pub invariant_of-self : goal.invariant_of-self
invariant_of-self c =
    let s = c.self.inside in
    let q = c.get-self-inside.result in
    let k = c.get-self-inside-in-Some.result in
    let code = c.args.«module» in
    let is =
    c.record_action-stamp.ensures.recorded
    ∙ ap₂ (λ (a b : ℕ). with_action c.args.who.number c.args.clock.0 (make_process code (numbers a b)) s.log) (sym c.get-self-inside.ensures.number) (sym c.get-self-inside-in-Some.ensures.number)
    in
    book-acts s.limits s.ports k s.processes q s.log c.record_action-stamp.new.self s.spare (s.spare - 1) c.args.who.number c.args.clock.0 (make_process code (numbers q k)) (make_process code (numbers q k))
    (process-made s.limits s.ports s.processes k q code s.log c.record_action-stamp.new.self s.spare (s.spare - 1) c.args.who.number c.args.clock.0
    (ap₂ (λ (a b : ℕ). numbers a b) c.get-self-inside.ensures.number c.get-self-inside-in-Some.ensures.number ∙ c.in-Some.ensures.next) refl c.self.invariant.place is)
    c.self.invariant is refl

pub invariant_of-self-in-None : goal.invariant_of-self-in-None
invariant_of-self-in-None c =
    let s = c.self.inside in
    let code = c.args.«module» in
    let is =
    c.record_action-stamp-in-None.ensures.recorded
    ∙ ap (λ (o : Option (ProcNo × PortNo)). with_action c.args.who.number c.args.clock.0 (make_process code (option_map (λ (m : ProcNo × PortNo). (m.0.number, m.1.number)) o)) s.log) c.in-None.is
    in
    book-acts s.limits s.ports s.ports s.processes s.processes s.log c.record_action-stamp-in-None.new.self s.spare (s.spare - 1) c.args.who.number c.args.clock.0 (make_process code None) (make_process code None)
    (no-process_made s.limits s.ports s.processes code s.log c.record_action-stamp-in-None.new.self s.spare (s.spare - 1) c.args.who.number c.args.clock.0 c.in-None.ensures.next refl c.self.invariant.place is)
    c.self.invariant is refl
