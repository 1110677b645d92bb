use Rattle.std.proofs.Common.{option_map, refl, ap}
use Rattle.herm_journal.specs.Entries.{port}
use Rattle.herm_queue.specs.PortStates.{port_cell}
use Rattle.herm_world.specs.Places.{places_of}
use Rattle.herm_world.proofs.ReadPlaces.{read-there, filled-within, filled-not_empty, if-some}
use Rattle.herm_world.proofs.DoesAtPorts.{take-does}
use Rattle.herm_world.proofs.places.Places.take.Goals as goal

pub take-requires-clause-port_clock : goal.take-requires-clause-port_clock
take-requires-clause-port_clock c = c.requires.clocks (port c.args.port.number) (port_cell c.index_mut.result.now) (ap (option_map port_cell) (read-there c.args.self.now.ports.items c.args.port.number c.index_mut.result.now (filled-within (places_of c.args.self.now) c.args.port.number c.requires.filled) c.index_mut.ensures.value))

pub returns-in-Some : goal.returns-in-Some
returns-in-Some c =
    record {
      does = λ ports first.
          take-does c.args.who.number c.args.clock.0 c.args.port.number (places_of c.args.self.now) c.index_mut.result.now c.take.new.self (read-there c.args.self.now.ports.items c.args.port.number c.index_mut.result.now (filled-within (places_of c.args.self.now) c.args.port.number c.requires.filled) c.index_mut.ensures.value) ports c.args.port c.in-Some.parcel c.in-Some.stamp.0
          (if-some _ c.in_ok-taken.taken (c.in-Some.stamp, c.in-Some.parcel) c.in-Some.is c.in_ok-taken.ensures.acted) refl (if-some _ c.in_ok-taken.taken (c.in-Some.stamp, c.in-Some.parcel) c.in-Some.is c.in_ok-taken.ensures.parcel) (if-some _ c.in_ok-taken.taken (c.in-Some.stamp, c.in-Some.parcel) c.in-Some.is c.in_ok-taken.ensures.stamp) first;
    }

pub unreachable-requires : goal.unreachable-requires
unreachable-requires c = filled-not_empty (places_of c.args.self.now) c.args.port.number c.index_mut.result.now c.requires.filled (read-there c.args.self.now.ports.items c.args.port.number c.index_mut.result.now (filled-within (places_of c.args.self.now) c.args.port.number c.requires.filled) c.index_mut.ensures.value) (c.in_ok-taken.ensures.empty c.in-None.is)
