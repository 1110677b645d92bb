use Rattle.std.proofs.Common.{◌≡◌, ℕ, [], ◌∷◌, Option, Some, None, option_map, refl, sym, ap, subst, ◌∙◌}
use Rattle.herm_base.specs.declared.numbers.PortNo.{PortNo}
use Rattle.herm_base.specs.declared.numbers.ProcNo.{ProcNo}
use Rattle.herm_journal.specs.Actions.{new_process}
use Rattle.herm_machine.specs.declared.order.Got.TheVariants as gots
use Rattle.herm_process.specs.Entries.{IsOrderOf}
use Rattle.herm_world.specs.Doing.{Does, numbers_in}
use Rattle.herm_world.specs.Orders.{born, made_in, made_view}
use Rattle.herm_world.specs.Places.{places_of}
use Rattle.herm_world.specs.declared.doing.Made.{Made}
use Rattle.herm_world.proofs.OrderCases.{order-port, order-process, order-put, order-close, order-answer, order-hear, put-within, close-within, answer-within, hear-there, can-take-now}
use Rattle.herm_world.proofs.doing.do_order.Goals as goal

pub returns-in-MakePort : goal.returns-in-MakePort
returns-in-MakePort c =
    record {
      does = λ image main x w is wanted ordered.
          subst (λ w. Does c.args.who.number c.args.clock.0 w (places_of c.args.places.now) (places_of c.make_port.new.self) c.in_ok-got-in-MakePort.got c.in_ok-got-in-MakePort.stamp.0 [] × (option_map {T = Made} made_view None ≡ made_in w c.in_ok-got-in-MakePort.got)) (sym (order-port w (subst (λ o. IsOrderOf o w) c.in-MakePort.is ordered)))
          (c.in_ok-got-in-MakePort.ensures.does, refl);
    }

born-made : (code : ℕ) (made : Option (ProcNo × PortNo)) → option_map (λ (m : ProcNo × PortNo). (code, m.0.number, m.1.number)) made ≡ born code (gots.Process made)
born-made code None = refl
born-made code (Some m) = refl

pub returns-in-MakeProcess : goal.returns-in-MakeProcess
returns-in-MakeProcess c =
    record {
      does = λ image main x w is wanted ordered.
          subst (λ w. Does c.args.who.number c.args.clock.0 w (places_of c.args.places.now) (places_of c.make_process.new.self) c.in_ok-got-in-MakeProcess.got c.in_ok-got-in-MakeProcess.stamp.0 (numbers_in c.woken_of.result) × (option_map made_view c.made_of.result ≡ made_in w c.in_ok-got-in-MakeProcess.got)) (sym (order-process c.in-MakeProcess.module w (subst (λ o. IsOrderOf o w) c.in-MakeProcess.is ordered)))
          (subst (Does c.args.who.number c.args.clock.0 (new_process c.in-MakeProcess.module) (places_of c.args.places.now) (places_of c.make_process.new.self) c.in_ok-got-in-MakeProcess.got c.in_ok-got-in-MakeProcess.stamp.0) (sym c.woken_of.ensures.woken) c.in_ok-got-in-MakeProcess.ensures.does, c.made_of.ensures.made ∙ born-made c.in-MakeProcess.module c.in_ok-got-in-MakeProcess.made ∙ ap (born c.in-MakeProcess.module) (sym c.in_ok-got-in-MakeProcess.ensures.made));
    }

pub put-requires-clause-there : goal.put-requires-clause-there
put-requires-clause-there c = put-within c.args.process.now (places_of c.args.places.now) c.args.who.number c.args.order c.requires.can c.in-Put.port c.in-Put.letter c.in-Put.is

pub returns-in-Put : goal.returns-in-Put
returns-in-Put c =
    record {
      does = λ image main x w is wanted ordered.
          subst (λ w. Does c.args.who.number c.args.clock.0 w (places_of c.args.places.now) (places_of c.put.new.self) c.in_ok-got-in-Put.got c.in_ok-got-in-Put.stamp.0 (numbers_in c.in_ok-got-in-Put.woken) × (option_map {T = Made} made_view None ≡ made_in w c.in_ok-got-in-Put.got)) (sym (order-put c.in-Put.port c.in-Put.letter w (subst (λ o. IsOrderOf o w) c.in-Put.is ordered)))
          (c.in_ok-got-in-Put.ensures.does, refl);
    }

pub take_first-requires-clause-can : goal.take_first-requires-clause-can
take_first-requires-clause-can c = can-take-now c.args.process.now (places_of c.args.places.now) c.args.who.number c.args.order c.requires.can c.in-Take.field-0 c.in-Take.is

pub close-requires-clause-there : goal.close-requires-clause-there
close-requires-clause-there c = close-within c.args.process.now (places_of c.args.places.now) c.args.who.number c.args.order c.requires.can c.in-Close.port c.in-Close.is

pub returns-in-Close : goal.returns-in-Close
returns-in-Close c =
    record {
      does = λ image main x w is wanted ordered.
          subst (λ w. Does c.args.who.number c.args.clock.0 w (places_of c.args.places.now) (places_of c.close.new.self) c.in_ok-got-in-Close.got c.in_ok-got-in-Close.stamp.0 [] × (option_map {T = Made} made_view None ≡ made_in w c.in_ok-got-in-Close.got)) (sym (order-close c.in-Close.port w (subst (λ o. IsOrderOf o w) c.in-Close.is ordered)))
          (c.in_ok-got-in-Close.ensures.does, refl);
    }

pub answer-requires-clause-from_one : goal.answer-requires-clause-from_one
answer-requires-clause-from_one c = (answer-within c.args.process.now (places_of c.args.places.now) c.args.who.number c.args.order c.requires.can c.in-Answer.caller c.in-Answer.call c.in-Answer.reply c.in-Answer.recorded c.in-Answer.heard c.in-Answer.is).0

pub answer-requires-clause-there : goal.answer-requires-clause-there
answer-requires-clause-there c = (answer-within c.args.process.now (places_of c.args.places.now) c.args.who.number c.args.order c.requires.can c.in-Answer.caller c.in-Answer.call c.in-Answer.reply c.in-Answer.recorded c.in-Answer.heard c.in-Answer.is).1

pub returns-in-Answer : goal.returns-in-Answer
returns-in-Answer c =
    record {
      does = λ image main x w is wanted ordered.
          subst (λ w. Does c.args.who.number c.args.clock.0 w (places_of c.args.places.now) (places_of c.answer.new.self) c.in_ok-got-in-Answer.got c.in_ok-got-in-Answer.stamp.0 (c.in-Answer.caller.number ∷ []) × (option_map {T = Made} made_view None ≡ made_in w c.in_ok-got-in-Answer.got)) (sym (order-answer c.in-Answer.caller c.in-Answer.call c.in-Answer.reply c.in-Answer.recorded c.in-Answer.heard w (subst (λ o. IsOrderOf o w) c.in-Answer.is ordered)))
          (c.in_ok-got-in-Answer.ensures.does, refl);
    }

pub hear-requires-clause-answered : goal.hear-requires-clause-answered
hear-requires-clause-answered c = hear-there c.args.process.now (places_of c.args.places.now) c.args.who.number c.args.order c.requires.can c.in-Hear.is

pub returns-in-Hear : goal.returns-in-Hear
returns-in-Hear c =
    record {
      does = λ image main x w is wanted ordered.
          subst (λ w. Does c.args.who.number c.args.clock.0 w (places_of c.args.places.now) (places_of c.hear.new.self) c.in_ok-got-in-Hear.got c.in_ok-got-in-Hear.stamp.0 [] × (option_map {T = Made} made_view None ≡ made_in w c.in_ok-got-in-Hear.got)) (sym (order-hear w (subst (λ o. IsOrderOf o w) c.in-Hear.is ordered)))
          (c.in_ok-got-in-Hear.ensures.does, refl);
    }

pub returns-in-Take : goal.returns-in-Take
returns-in-Take c = record { does = λ image main x w is wanted ordered. c.in_ok-got-in-Take.ensures.does image main x w is wanted }
