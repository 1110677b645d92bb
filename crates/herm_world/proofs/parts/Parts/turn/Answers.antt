use Rattle.std.proofs.Common.{sym, subst, ◌∙◌}
use Rattle.herm_model.proofs.Options.{some-injective}
use Rattle.herm_world.specs.Places.{places_of}
use Rattle.herm_world.specs.Turns.{TurnsAs}
use Rattle.herm_world.proofs.ReadPlaces.{read-from-one}
use Rattle.herm_world.proofs.parts.Parts.turn.Goals as goal

pub turn_of-requires : goal.turn_of-requires
turn_of-requires c = record { alive = c.requires.alive c.args.who.number c.index.result.now (read-from-one c.args.self.now.processes.items c.args.who.number c.index.result.now c.requires.from_one c.requires.there c.index.ensures) }

pub returns : goal.returns
returns c =
    record {
      turn = λ x e.
          subst (λ x. TurnsAs c.turn_of.result x (places_of c.args.self.now.places) c.args.who.number) (some-injective (sym (read-from-one c.args.self.now.processes.items c.args.who.number c.index.result.now c.requires.from_one c.requires.there c.index.ensures) ∙ e)) c.turn_of.ensures.turn;
    }
