use Rattle.std.proofs.Common.{option_and_then, option_map, sym, ap, subst, ◌∙◌}
use Rattle.std.specs.Prelude.{slice_get}
use Rattle.herm_base.specs.declared.numbers.PortNo.{PortNo}
use Rattle.herm_exchanges.specs.Told.{told}
use Rattle.herm_machine.specs.Machines.{IsAt}
use Rattle.herm_machine.proofs.Standing.{looked-there}
use Rattle.herm_machine.proofs.machine.Machine.look.Goals as goal

pub unreachable-requires : goal.unreachable-requires
unreachable-requires c =
    let i = c.self.invariant.0 (ap (λ m. m.is_dead) c.self.view_is ∙ c.requires.alive) in
    let take = c.requires.take i.0 i.1 i.2 (subst (λ m. IsAt i.0 i.1 m i.2) c.self.view_is i.3) in
    looked-there i.0 i.1 _ i.2 c.args.place (option_map (λ (p : PortNo). p.number) c.look.result) i.3 take (λ ports h e. c.look.ensures.port i.2 ports h e) (ap (option_map (λ (p : PortNo). p.number)) (sym c.in_default-look.is))

pub returns-in-Some : goal.returns-in-Some
returns-in-Some c = record {
  port = λ image main s ports at wanted. ap (slice_get ports) c.if-place-eq0.true ∙ c.in-Some.ensures.port ports (c.wants.ensures.wanted image main s at ∙ ap (option_and_then told) wanted);
}
