use Rattle.std.proofs.Common.{Some, cond, sym, ap, ◌∙◌, ◌+◌, drop, length, arith, refl}
use Rattle.std.specs.Prelude.{slice_set}
use Rattle.herm_model.proofs.Options.{some-injective}
use Rattle.herm_waking.specs.Waking.{noted_at}
use Rattle.herm_world.specs.Places.{places_of, waiters_of}
use Rattle.herm_world.specs.Waits.{opened}
use Rattle.herm_world.proofs.Looking.{to_take-injective}
use Rattle.herm_world.proofs.Noting.{same-self, same-twice, opened-same, drop-next, drop-all}
use Rattle.herm_world.proofs.waits.note_each.Goals as goal

pub look-port-requires-clause-take : goal.look-port-requires-clause-take
look-port-requires-clause-take c image main x is = let h = c.requires.takes image main x is in (h.0, h.1, omega (arith, h.2, c.loop-place-test.true))

pub loop-place-init : goal.loop-place-init
loop-place-init c = (same-self (places_of c.args.places.now), λ image main x ports is wants. refl)

pub loop-place-preserved : goal.loop-place-preserved
loop-place-preserved c = (
  same-twice (places_of c.args.places.now) (places_of c.loop-place.places) (places_of c.note_at.new.places) c.loop-place.invariant.0 c.in_ok-note_at.ensures.same,
  λ image main x ports is wants.
      ap (noted_at (opened (places_of c.args.places.now)) c.args.who.number (drop (c.loop-place.place + 1) ports)) c.in_ok-note_at.ensures.noted
      ∙ ap (λ b. noted_at (opened (places_of c.args.places.now)) c.args.who.number (drop (c.loop-place.place + 1) ports) (cond b (slice_set (waiters_of (places_of c.loop-place.places)) c.look-port.result.number (Some c.args.who.number)) (waiters_of (places_of c.loop-place.places)))) (opened-same (places_of c.args.places.now) (places_of c.loop-place.places) c.loop-place.invariant.0 c.look-port.result.number)
      ∙ ap (λ ps. noted_at (opened (places_of c.args.places.now)) c.args.who.number ps (waiters_of (places_of c.loop-place.places))) (sym (drop-next ports c.loop-place.place c.look-port.result.number (c.look-port.ensures.port image main x ports is wants)))
      ∙ c.loop-place.invariant.1 image main x ports is wants,
)

pub returns : goal.returns
returns c =
    record {
      same = c.loop-place.invariant.0;
      noted = λ image main x ports is wants.
          let h = c.requires.takes image main x is in
          let long = ap length (to_take-injective (some-injective (sym wants ∙ h.1))) ∙ h.2 in
          ap (λ ps. noted_at (opened (places_of c.args.places.now)) c.args.who.number ps (waiters_of (places_of c.loop-place.places))) (sym (drop-all ports c.loop-place.place (omega (arith, long, c.loop-place-test.false, c.loop-place.auto)))) ∙ c.loop-place.invariant.1 image main x ports is wants;
    }
