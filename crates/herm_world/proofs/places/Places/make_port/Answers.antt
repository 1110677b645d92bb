use Rattle.std.proofs.Common.{Some, refl, sym, subst}
use Rattle.herm_journal.specs.Actions.{new_port}
use Rattle.herm_journal.specs.Entries.{book}
use Rattle.herm_queue.specs.BookStates.{book_cell}
use Rattle.herm_machine.specs.declared.order.Got.TheVariants as gots
use Rattle.herm_world.specs.Doing.{Does}
use Rattle.herm_world.specs.Places.{places_of}
use Rattle.std.proofs.Common.{◌<◌, ◌^◌, [], None}
use Rattle.herm_queue.specs.BookStates.{BookState}
use Rattle.herm_world.proofs.DoesInBook.{port-acts, port-does, no-port-does}
use Rattle.herm_world.proofs.places.Places.make_port.Goals as goal

pub make_port-made-requires-clause-book_clock : goal.make_port-made-requires-clause-book_clock
make_port-made-requires-clause-book_clock c = subst (λ (b : BookState). b.clock < 2 ^ 63) (sym c.in_ok-reserve.ensures.same) (c.requires.clocks book (book_cell c.args.self.now.book) refl)

pub returns-in-Some : goal.returns-in-Some
returns-in-Some c =
    record {
      does =
          subst (λ ps. Does c.args.who.number c.args.clock.0 new_port (places_of c.args.self.now) (record (places_of c.args.self.now) { ports = ps; book = c.make_port-made.new.self }) (gots.Port (Some c.in-Some.port)) c.make_port-made.result.0.0 []) (sym c.in_ok-push-in-Some.ensures.items)
          (port-does c.args.who.number c.args.clock.0 (places_of c.args.self.now) c.make_port-made.new.self c.make_port-made.result.0.0 c.make_port-made.ensures.stamp c.in-Some.port c.new.result
          (port-acts c.args.who.number c.args.clock.0 c.args.self.now.book c.reserve.new.self c.make_port-made.new.self c.make_port-made.result.1 (Some c.in-Some.port) c.in-Some.is c.in_ok-reserve.ensures.same c.make_port-made.ensures.acted) c.requires.numbered (record { number = c.new.ensures.number; held = c.new.ensures.held; waiter = c.new.ensures.waiter; clock = c.new.ensures.clock; entries = c.new.ensures.entries }));
    }

pub returns-in-None : goal.returns-in-None
returns-in-None c =
    record {
      does = no-port-does c.args.who.number c.args.clock.0 (places_of c.args.self.now) c.make_port-made.new.self c.make_port-made.result.0.0 c.make_port-made.ensures.stamp (port-acts c.args.who.number c.args.clock.0 c.args.self.now.book c.reserve.new.self c.make_port-made.new.self c.make_port-made.result.1 None c.in-None.is c.in_ok-reserve.ensures.same c.make_port-made.ensures.acted);
    }
