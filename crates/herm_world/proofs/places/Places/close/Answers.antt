use Rattle.std.proofs.Common.{option_map, sym, ap, subst}
use Rattle.std.proofs.Common.{[]}
use Rattle.std.specs.Prelude.{slice_set, All}
use Rattle.herm_letters.specs.Letters.{IsParcel}
use Rattle.herm_letters.specs.LettersInOrder.{QueueState}
use Rattle.herm_journal.specs.Actions.{to_close}
use Rattle.herm_journal.specs.Entries.{port}
use Rattle.herm_queue.specs.PortStates.{port_cell}
use Rattle.herm_machine.specs.declared.order.Got.TheVariants as gots
use Rattle.herm_world.specs.Doing.{Does}
use Rattle.herm_world.specs.Places.{places_of}
use Rattle.herm_world.proofs.ReadPlaces.{read-there}
use Rattle.herm_world.proofs.DoesAtPorts.{close-does}
use Rattle.herm_world.proofs.places.Places.close.Goals as goal

pub close-requires-clause-port_clock : goal.close-requires-clause-port_clock
close-requires-clause-port_clock c = c.requires.clocks (port c.args.port.number) (port_cell c.index_mut.result.now) (ap (option_map port_cell) (read-there c.args.self.now.ports.items c.args.port.number c.index_mut.result.now c.requires.there c.index_mut.ensures.value))

pub returns : goal.returns
returns c =
    record {
      does =
          subst (λ left. Does c.args.who.number c.args.clock.0 (to_close c.args.port.number) (places_of c.args.self.now) (record (places_of c.args.self.now) { ports = slice_set c.args.self.now.ports.items c.args.port.number c.close.new.self }) (gots.Left left) c.in_ok-stamp.stamp.0 []) (sym c.all_whole-left.ensures.same)
          (close-does c.args.who.number c.args.clock.0 c.args.port.number (places_of c.args.self.now) c.index_mut.result.now c.close.new.self (read-there c.args.self.now.ports.items c.args.port.number c.index_mut.result.now c.requires.there c.index_mut.ensures.value) c.in_ok-stamp.left c.in_ok-stamp.stamp.0
          c.in_ok-stamp.ensures.acted c.in_ok-stamp.ensures.parcels (subst (λ (v : QueueState). All IsParcel v.parcels) c.all_whole-left.ensures.same c.all_whole-left.ensures.whole) c.in_ok-stamp.ensures.stamp);
    }
