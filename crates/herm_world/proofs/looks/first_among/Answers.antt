use Rattle.std.proofs.Common.{sym, ap, ◌∙◌, arith, length}
use Rattle.herm_model.proofs.Options.{some-injective}
use Rattle.herm_world.specs.Places.{places_of, is_filled}
use Rattle.herm_world.proofs.Looking.{found-first, found-none, next-none, to_take-injective}
use Rattle.herm_world.proofs.looks.first_among.Goals as goal

pub look-port-requires-clause-take : goal.look-port-requires-clause-take
look-port-requires-clause-take c image main x is = let h = c.requires.takes image main x is in (h.0, h.1, omega (arith, h.2, c.loop-place-test.true))

pub returns-then-is_filled : goal.returns-then-is_filled
returns-then-is_filled c =
    record {
      first = λ image main x ports is wants.
          sym (found-first (is_filled (places_of c.args.places.now)) ports c.loop-place.place c.look-port.result.number (c.loop-place.invariant image main x ports is wants) (c.look-port.ensures.port image main x ports is wants) (sym c.is_filled.ensures.filled ∙ c.if-is_filled.true));
    }

pub loop-place-preserved : goal.loop-place-preserved
loop-place-preserved c image main x ports is wants =
    next-none (is_filled (places_of c.args.places.now)) ports c.loop-place.place c.look-port.result.number (c.loop-place.invariant image main x ports is wants) (c.look-port.ensures.port image main x ports is wants) (sym c.is_filled.ensures.filled ∙ c.if-is_filled.false)

pub returns : goal.returns
returns c =
    record {
      first = λ image main x ports is wants.
          let h = c.requires.takes image main x is in
          let long = ap length (to_take-injective (some-injective (sym wants ∙ h.1))) ∙ h.2 in
          sym (found-none (is_filled (places_of c.args.places.now)) ports c.loop-place.place (c.loop-place.invariant image main x ports is wants) (omega (arith, long, c.loop-place-test.false, c.loop-place.auto)));
    }
