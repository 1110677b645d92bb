use Rattle.std.proofs.Common.{◌≡◌, ℕ, List, Some, [], ◌∷◌, ◌++◌, map, sym, ap, ap₂, ◌∙◌, ◌+◌, drop, length, arith, refl, append_assoc}
use Rattle.std.proofs.lemmas.List.{append-nil, map-append}
use Rattle.herm_base.specs.declared.numbers.PortNo.{PortNo}
use Rattle.herm_model.proofs.Options.{some-injective}
use Rattle.herm_world.proofs.Looking.{to_take-injective}
use Rattle.herm_world.proofs.Noting.{drop-next, drop-all}
use Rattle.herm_world.proofs.ends.looked_at.Goals as goal

pub look-port-requires-clause-take : goal.look-port-requires-clause-take
look-port-requires-clause-take c image main x is = let h = c.requires.takes image main x is in (h.0, h.1, omega (arith, h.2, c.loop-place-test.true))

pub loop-place-init : goal.loop-place-init
loop-place-init c image main x ports is wants = ap (λ (ps : List PortNo). map (λ (p : PortNo). p.number) ps ++ ports) c.new-found.ensures.items

pub loop-place-preserved : goal.loop-place-preserved
loop-place-preserved c image main x ports is wants =
    let number = λ (p : PortNo). p.number in
    ap (λ ps. map number ps ++ drop (c.loop-place.place + 1) ports) c.in_ok-push.ensures.items
    ∙ ap (λ ns. ns ++ drop (c.loop-place.place + 1) ports) (map-append number c.loop-place.found.items (c.look-port.result ∷ []))
    ∙ append_assoc (map number c.loop-place.found.items) (c.look-port.result.number ∷ []) (drop (c.loop-place.place + 1) ports)
    ∙ ap (λ ns. map number c.loop-place.found.items ++ ns) (sym (drop-next ports c.loop-place.place c.look-port.result.number (c.look-port.ensures.port image main x ports is wants)))
    ∙ c.loop-place.invariant image main x ports is wants

pub returns : goal.returns
returns c = record {
  ports = λ image main x ports is wants.
      let number = λ (p : PortNo). p.number in
      let h = c.requires.takes image main x is in
      let long = ap length (to_take-injective (some-injective (sym wants ∙ h.1))) ∙ h.2 in
      sym (append-nil (map number c.loop-place.found.items)) ∙ ap (λ ns. map number c.loop-place.found.items ++ ns) (sym (drop-all ports c.loop-place.place (omega (arith, long, c.loop-place-test.false, c.loop-place.auto))))
      ∙ c.loop-place.invariant image main x ports is wants;
}
