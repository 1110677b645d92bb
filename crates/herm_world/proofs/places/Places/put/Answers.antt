use Rattle.std.proofs.Common.{option_map, ap, subst}
use Rattle.std.specs.Prelude.{slice_set}
use Rattle.herm_journal.specs.Actions.{to_put}
use Rattle.herm_journal.specs.Entries.{port}
use Rattle.herm_values.specs.View.{value_view}
use Rattle.herm_queue.specs.PortStates.{port_cell, stamp_of}
use Rattle.herm_world.specs.Doing.{Does, numbers_in}
use Rattle.herm_world.specs.Places.{places_of}
use Rattle.herm_world.proofs.ReadPlaces.{read-there}
use Rattle.herm_world.proofs.DoesAtPorts.{put-does, got_of_put}
use Rattle.herm_world.proofs.places.Places.put.Goals as goal

pub put-requires-clause-port_clock : goal.put-requires-clause-port_clock
put-requires-clause-port_clock c = c.requires.clocks (port c.args.port.number) (port_cell c.index_mut.result.now) (ap (option_map port_cell) (read-there c.args.self.now.ports.items c.args.port.number c.index_mut.result.now c.requires.there c.index_mut.ensures.value))

pub returns-in-Placed : goal.returns-in-Placed
returns-in-Placed c =
    record {
      does =
          subst (λ answer. Does c.args.who.number c.args.clock.0 (to_put c.args.port.number (value_view c.args.letter)) (places_of c.args.self.now) (record (places_of c.args.self.now) { ports = slice_set c.args.self.now.ports.items c.args.port.number c.put.new.self }) (got_of_put answer) (stamp_of answer) (numbers_in c.in_ok-answer.woken)) c.in-Placed.is
          (put-does c.args.who.number c.args.clock.0 c.args.port.number c.args.letter (places_of c.args.self.now) c.index_mut.result.now c.put.new.self (read-there c.args.self.now.ports.items c.args.port.number c.index_mut.result.now c.requires.there c.index_mut.ensures.value)
          c.in_ok-answer.answer c.in_ok-answer.woken c.in_ok-answer.ensures.acted c.in_ok-answer.ensures.woken c.in_ok-answer.ensures.stamp c.in_ok-answer.ensures.text c.in_ok-answer.ensures.back);
    }

pub returns-in-Closed : goal.returns-in-Closed
returns-in-Closed c =
    record {
      does =
          subst (λ answer. Does c.args.who.number c.args.clock.0 (to_put c.args.port.number (value_view c.args.letter)) (places_of c.args.self.now) (record (places_of c.args.self.now) { ports = slice_set c.args.self.now.ports.items c.args.port.number c.put.new.self }) (got_of_put answer) (stamp_of answer) (numbers_in c.in_ok-answer.woken)) c.in-Closed.is
          (put-does c.args.who.number c.args.clock.0 c.args.port.number c.args.letter (places_of c.args.self.now) c.index_mut.result.now c.put.new.self (read-there c.args.self.now.ports.items c.args.port.number c.index_mut.result.now c.requires.there c.index_mut.ensures.value)
          c.in_ok-answer.answer c.in_ok-answer.woken c.in_ok-answer.ensures.acted c.in_ok-answer.ensures.woken c.in_ok-answer.ensures.stamp c.in_ok-answer.ensures.text c.in_ok-answer.ensures.back);
    }
