use Rattle.std.proofs.Common.{option_map, ap, subst}
use Rattle.herm_process.specs.Entries.{may_be_dropped}
use Rattle.herm_world.specs.Doing.{numbers_in}
use Rattle.herm_world.specs.Orders.{made_view}
use Rattle.herm_world.specs.Places.{places_of}
use Rattle.herm_world.proofs.ActedProcess.{DoesOrder, served, still-alive, got-whole, got-fits, got-later, makes-action}
use Rattle.herm_world.proofs.parts.act_on.Goals as goal

pub prepare-requires-clause-free : goal.prepare-requires-clause-free
prepare-requires-clause-free c = ap may_be_dropped c.requires.acts.free

pub do_order-requires-clause-alive : goal.do_order-requires-clause-alive
do_order-requires-clause-alive c = still-alive c.args.process.now c.prepare.new.self (places_of c.args.places.now) c.args.who.number c.requires.acts c.in_ok-order.order c.in_ok-order.ensures.same c.in_ok-order.ensures.out c.in_ok-order.ensures.order

pub do_order-requires-clause-can : goal.do_order-requires-clause-can
do_order-requires-clause-can c = served c.args.process.now c.prepare.new.self (places_of c.args.places.now) c.args.who.number c.requires.acts c.in_ok-order.order c.in_ok-order.ensures.same c.in_ok-order.ensures.out c.in_ok-order.ensures.order

pub settle-requires-clause-whole : goal.settle-requires-clause-whole
settle-requires-clause-whole c =
    got-whole c.args.process.now c.prepare.new.self (places_of c.args.places.now) c.args.who.number c.requires.acts c.in_ok-order.order c.in_ok-order.ensures.same c.in_ok-order.ensures.out c.in_ok-order.ensures.order (places_of c.do_order.new.places) c.in_ok-done.done.got
    c.in_ok-done.done.stamp.0 (numbers_in c.in_ok-done.done.woken) (option_map made_view c.in_ok-done.done.made)
    (subst (λ n. DoesOrder c.prepare.new.self c.args.who.number n (places_of c.args.places.now) (places_of c.do_order.new.places) c.in_ok-order.order c.in_ok-done.done.got c.in_ok-done.done.stamp.0 (numbers_in c.in_ok-done.done.woken) (option_map made_view c.in_ok-done.done.made)) c.clock-clock.ensures.clock c.in_ok-done.ensures.does)

pub settle-requires-clause-fits : goal.settle-requires-clause-fits
settle-requires-clause-fits c =
    got-fits c.args.process.now c.prepare.new.self (places_of c.args.places.now) c.args.who.number c.requires.acts c.in_ok-order.order c.in_ok-order.ensures.same c.in_ok-order.ensures.out c.in_ok-order.ensures.order (places_of c.do_order.new.places) c.in_ok-done.done.got
    c.in_ok-done.done.stamp.0 (numbers_in c.in_ok-done.done.woken) (option_map made_view c.in_ok-done.done.made)
    (subst (λ n. DoesOrder c.prepare.new.self c.args.who.number n (places_of c.args.places.now) (places_of c.do_order.new.places) c.in_ok-order.order c.in_ok-done.done.got c.in_ok-done.done.stamp.0 (numbers_in c.in_ok-done.done.woken) (option_map made_view c.in_ok-done.done.made)) c.clock-clock.ensures.clock c.in_ok-done.ensures.does)

pub settle-requires-clause-later : goal.settle-requires-clause-later
settle-requires-clause-later c =
    got-later c.args.process.now c.prepare.new.self (places_of c.args.places.now) c.args.who.number c.requires.acts c.in_ok-order.order c.in_ok-order.ensures.same c.in_ok-order.ensures.out c.in_ok-order.ensures.order (places_of c.do_order.new.places) c.in_ok-done.done.got
    c.in_ok-done.done.stamp.0 (numbers_in c.in_ok-done.done.woken) (option_map made_view c.in_ok-done.done.made)
    (subst (λ n. DoesOrder c.prepare.new.self c.args.who.number n (places_of c.args.places.now) (places_of c.do_order.new.places) c.in_ok-order.order c.in_ok-done.done.got c.in_ok-done.done.stamp.0 (numbers_in c.in_ok-done.done.woken) (option_map made_view c.in_ok-done.done.made)) c.clock-clock.ensures.clock c.in_ok-done.ensures.does)

pub returns : goal.returns
returns c =
    record {
      made =
          makes-action c.args.process.now c.prepare.new.self (places_of c.args.places.now) c.args.who.number c.requires.acts c.in_ok-order.order c.in_ok-order.ensures.same c.in_ok-order.ensures.out c.in_ok-order.ensures.order (places_of c.do_order.new.places) c.in_ok-done.done.got
          c.in_ok-done.done.stamp.0 (numbers_in c.in_ok-done.done.woken) (option_map made_view c.in_ok-done.done.made)
          (subst (λ n. DoesOrder c.prepare.new.self c.args.who.number n (places_of c.args.places.now) (places_of c.do_order.new.places) c.in_ok-order.order c.in_ok-done.done.got c.in_ok-done.done.stamp.0 (numbers_in c.in_ok-done.done.woken) (option_map made_view c.in_ok-done.done.made)) c.clock-clock.ensures.clock c.in_ok-done.ensures.does)
          c.settle.new.self c.in_ok-settle.ensures.same c.in_ok-settle.ensures.settled;
    }
