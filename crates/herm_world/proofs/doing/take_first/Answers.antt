use Rattle.std.proofs.Common.{◌≡◌, [], is_some, None, option_map, refl, sym, ap, subst, ◌∙◌, true≢false}
use Rattle.herm_model.proofs.Options.{some-injective}
use Rattle.herm_base.specs.declared.numbers.PortNo.{PortNo}
use Rattle.herm_machine.specs.Machines.{nameless}
use Rattle.herm_world.specs.Doing.{Does}
use Rattle.herm_world.specs.Orders.{made_in}
use Rattle.herm_world.specs.Places.{places_of, is_filled}
use Rattle.herm_world.proofs.Looking.{find-passes, first-taken, told-takes}
use Rattle.herm_world.proofs.OrderCases.{can-take, is-taking}
use Rattle.herm_world.proofs.doing.take_first.Goals as goal

pub take-requires-clause-filled : goal.take-requires-clause-filled
take-requires-clause-filled c =
    let t = told-takes ((nameless c.requires.can.0.image c.requires.can.0.main).wanted c.requires.can.0.state) c.ports_of-ports.result (c.ports_of-ports.ensures.takes c.requires.can.0.image c.requires.can.0.main c.requires.can.0.state c.requires.can.0.stands) in
    find-passes (is_filled (places_of c.args.places.now)) t.0 c.in-Some.port.number
    (sym (c.first_filled.ensures.first c.requires.can.0.image c.requires.can.0.main c.requires.can.0.state t.0 c.requires.can.0.stands t.1) ∙ ap (option_map (λ (p : PortNo). p.number)) c.in-Some.is)

pub returns-in-Some : goal.returns-in-Some
returns-in-Some c =
    record {
      does = λ image main x w is wanted.
          let t = told-takes ((nameless image main).wanted x) c.ports_of-ports.result (c.ports_of-ports.ensures.takes image main x is) in
          let found = sym (c.first_filled.ensures.first image main x t.0 is t.1) ∙ ap (option_map (λ (p : PortNo). p.number)) c.in-Some.is in
          subst (λ w. Does c.args.who.number c.args.clock.0 w (places_of c.args.places.now) (places_of c.take.new.self) c.in_ok-got-in-Some.got c.in_ok-got-in-Some.stamp.0 [] × (None ≡ made_in w c.in_ok-got-in-Some.got)) (some-injective (sym t.1 ∙ wanted))
          (c.in_ok-got-in-Some.ensures.does t.0 (λ qs. first-taken qs (places_of c.args.places.now) c.args.who.number t.0 t.0 c.in-Some.port.number found), refl);
    }

pub unreachable-requires : goal.unreachable-requires
unreachable-requires c =
    let t = told-takes ((nameless c.requires.can.0.image c.requires.can.0.main).wanted c.requires.can.0.state) c.ports_of-ports.result (c.ports_of-ports.ensures.takes c.requires.can.0.image c.requires.can.0.main c.requires.can.0.state c.requires.can.0.stands) in
    true≢false (sym (can-take c.args.process.now (places_of c.args.places.now) c.args.who.number c.requires.can.0 t.0 t.1) ∙ ap is_some (sym (c.first_filled.ensures.first c.requires.can.0.image c.requires.can.0.main c.requires.can.0.state t.0 c.requires.can.0.stands t.1)) ∙ ap (λ o. is_some (option_map (λ (p : PortNo). p.number) o)) c.in-None.is)

pub ports_of-ports-requires-clause-taking : goal.ports_of-ports-requires-clause-taking
ports_of-ports-requires-clause-taking c = is-taking c.args.process.now (places_of c.args.places.now) c.args.who.number c.requires.can
