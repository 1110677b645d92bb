use Rattle.std.proofs.Common.{arith}
use Rattle.herm_world.specs.Places.{places_of}
use Rattle.herm_world.proofs.LookedOne.{looked-one}
use Rattle.herm_world.proofs.ReadPlaces.{read-from-one}
use Rattle.herm_world.proofs.parts.Parts.look_at.Goals as goal

pub look_again-requires-clause-alive : goal.look_again-requires-clause-alive
look_again-requires-clause-alive c = c.requires.alive c.args.who.number c.index.result.now (read-from-one c.args.self.now.processes.items c.args.who.number c.index.result.now (omega arith) (omega arith) c.index.ensures)

pub returns-clause-looked : goal.returns-clause-looked
returns-clause-looked c =
    looked-one c.args.who.number c.args.self.now.processes.items c.index.result.now (places_of c.args.self.now.places) (places_of c.look_again.new.places) c.args.self.now.ready.members c.look_again.new.ready.members
    (read-from-one c.args.self.now.processes.items c.args.who.number c.index.result.now (omega arith) (omega arith) c.index.ensures) c.in_ok-look_again.ensures.same c.in_ok-look_again.ensures.kept
