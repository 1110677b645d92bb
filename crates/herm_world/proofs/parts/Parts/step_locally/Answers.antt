use Rattle.std.proofs.Common.{sym, ap, ◌∙◌, arith}
use Rattle.herm_process.specs.Processes.{ProcessState}
use Rattle.herm_world.specs.Places.{places_of}
use Rattle.herm_world.proofs.LookedOne.{looked-one}
use Rattle.herm_world.proofs.ReadPlaces.{read-from-one, set-from-one, put-from-one}
use Rattle.herm_world.proofs.parts.Parts.step_locally.Goals as goal

pub local-requires : goal.local-requires
local-requires c = record { next = λ image main x is. c.requires.next c.index_mut-process.result.now (read-from-one c.args.self.now.processes.items c.args.who.number c.index_mut-process.result.now c.requires.from_one c.requires.there c.index_mut-process.ensures.value) image main x is }

pub look_again-requires-clause-alive : goal.look_again-requires-clause-alive
look_again-requires-clause-alive c =
    ap (λ (p : ProcessState). p.is_dead) c.in_ok-local.ensures.same
    ∙ c.requires.alive c.args.who.number c.index_mut-process.result.now (read-from-one c.args.self.now.processes.items c.args.who.number c.index_mut-process.result.now c.requires.from_one c.requires.there c.index_mut-process.ensures.value)

pub returns-clause-made : goal.returns-clause-made
returns-clause-made c =
    record {
      before = c.index_mut-process.result.now;
      after = c.local.new.self;
      there = read-from-one c.args.self.now.processes.items c.args.who.number c.index_mut-process.result.now c.requires.from_one c.requires.there c.index_mut-process.ensures.value;
      set = sym (set-from-one c.args.self.now.processes.items c.args.who.number c.local.new.self c.requires.from_one);
      same = c.in_ok-local.ensures.same;
      comes = c.in_ok-local.ensures.step;
    }

pub returns-clause-looked : goal.returns-clause-looked
returns-clause-looked c =
    looked-one c.args.who.number _ c.local.new.self (places_of c.args.self.now.places) (places_of c.look_again.new.places) c.args.self.now.ready.members c.look_again.new.ready.members
    (put-from-one c.args.self.now.processes.items c.args.who.number c.index_mut-process.result.now c.local.new.self (read-from-one c.args.self.now.processes.items c.args.who.number c.index_mut-process.result.now c.requires.from_one c.requires.there c.index_mut-process.ensures.value))
    c.in_ok-look_again.ensures.same c.in_ok-look_again.ensures.kept
