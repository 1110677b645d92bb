use Rattle.std.proofs.Common.{Some, refl, sym, subst}
use Rattle.herm_journal.specs.Actions.{new_process}
use Rattle.herm_journal.specs.Entries.{book}
use Rattle.herm_queue.specs.BookStates.{book_cell}
use Rattle.herm_machine.specs.declared.order.Got.TheVariants as gots
use Rattle.herm_world.specs.Doing.{Does}
use Rattle.herm_world.specs.Places.{places_of}
use Rattle.std.proofs.Common.{◌<◌, ◌^◌, ◌++◌, ◌∷◌, [], None}
use Rattle.herm_base.specs.declared.numbers.PortNo.{PortNo}
use Rattle.herm_base.specs.declared.numbers.ProcNo.{ProcNo}
use Rattle.herm_model.specs.Lists.{list_of}
use Rattle.herm_queue.specs.BookStates.{BookState}
use Rattle.herm_world.proofs.DoesInBook.{process-acts, process-does, no-process-does}
use Rattle.herm_world.proofs.places.Places.make_process.Goals as goal

pub make_process-made-requires-clause-book_clock : goal.make_process-made-requires-clause-book_clock
make_process-made-requires-clause-book_clock c = subst (λ (b : BookState). b.clock < 2 ^ 63) (sym c.in_ok-reserve.ensures.same) (c.requires.clocks book (book_cell c.args.self.now.book) refl)

pub returns-in-Some-clause-does : goal.returns-in-Some-clause-does
returns-in-Some-clause-does c =
    subst (λ made. Does c.args.who.number c.args.clock.0 (new_process c.args.module) (places_of c.args.self.now) (record { ports = c.push.new.self.items; replies = c.push-in-Some.new.self.items; book = c.make_process-made.new.self }) (gots.Process made) c.make_process-made.result.0.0 (list_of (λ (m : ProcNo × PortNo). m.0.number ∷ []) made)) (sym c.in-Some.is)
    (subst (λ ps. Does c.args.who.number c.args.clock.0 (new_process c.args.module) (places_of c.args.self.now) (record { ports = ps; replies = c.push-in-Some.new.self.items; book = c.make_process-made.new.self }) (gots.Process (Some (c.in-Some.process, c.in-Some.port))) c.make_process-made.result.0.0 (c.in-Some.process.number ∷ [])) (sym c.in_ok-push-in-Some.ensures.items)
    (subst (λ rs. Does c.args.who.number c.args.clock.0 (new_process c.args.module) (places_of c.args.self.now) (record { ports = c.args.self.now.ports.items ++ c.new.result ∷ []; replies = rs; book = c.make_process-made.new.self }) (gots.Process (Some (c.in-Some.process, c.in-Some.port))) c.make_process-made.result.0.0 (c.in-Some.process.number ∷ [])) (sym c.in_ok-push-in-Some-2.ensures.items)
    (process-does c.args.who.number c.args.clock.0 (places_of c.args.self.now) c.make_process-made.new.self c.make_process-made.result.0.0 c.make_process-made.ensures.stamp c.args.module (c.in-Some.process, c.in-Some.port) c.new.result c.new-in-Some.result
    (process-acts c.args.who.number c.args.clock.0 c.args.module c.args.self.now.book c.reserve.new.self c.make_process-made.new.self c.make_process-made.result.1 (Some (c.in-Some.process, c.in-Some.port)) c.in-Some.is c.in_ok-reserve.ensures.same c.make_process-made.ensures.acted) c.requires.numbered (record { number = c.new.ensures.number; held = c.new.ensures.held; waiter = c.new.ensures.waiter; clock = c.new.ensures.clock; entries = c.new.ensures.entries }) (record { owner_is = c.new-in-Some.ensures.owner; waiting = c.new-in-Some.ensures.waiting; clock = c.new-in-Some.ensures.clock; entries = c.new-in-Some.ensures.entries }))))

pub returns-in-None-clause-does : goal.returns-in-None-clause-does
returns-in-None-clause-does c = no-process-does c.args.who.number c.args.clock.0 (places_of c.args.self.now) c.make_process-made.new.self c.make_process-made.result.0.0 c.make_process-made.ensures.stamp c.args.module (process-acts c.args.who.number c.args.clock.0 c.args.module c.args.self.now.book c.reserve.new.self c.make_process-made.new.self c.make_process-made.result.1 None c.in-None.is c.in_ok-reserve.ensures.same c.make_process-made.ensures.acted)
