use Rattle.std.proofs.Common.{arith}
use Rattle.herm_world.specs.Places.{places_of}
use Rattle.herm_world.proofs.Noting.{noted-there, same-there, noted-nowhere, same-self, none-past}
use Rattle.herm_world.proofs.ReadPlaces.{read-there}
use Rattle.herm_world.proofs.waits.note_at.Goals as goal

pub returns-then-n-len : goal.returns-then-n-len
returns-then-n-len c =
    record {
      same = same-self (places_of c.args.places.now);
      noted = noted-nowhere (places_of c.args.places.now) c.args.port.number c.args.who.number (none-past c.args.places.now.ports.items c.args.port.number (λ lt. omega arith));
    }

pub returns : goal.returns
returns c =
    let there = read-there c.args.places.now.ports.items c.args.port.number c.index_mut.result.now (omega arith) c.index_mut.ensures.value in
    record {
      same = same-there (places_of c.args.places.now) c.args.port.number c.args.who.number c.index_mut.result.now c.wait_here.new.self there c.in_ok-wait_here.ensures.waiter;
      noted = noted-there (places_of c.args.places.now) c.args.port.number c.args.who.number c.index_mut.result.now c.wait_here.new.self there c.in_ok-wait_here.ensures.waiter;
    }
