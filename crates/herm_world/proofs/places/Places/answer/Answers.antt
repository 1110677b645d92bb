use Rattle.std.proofs.Common.{option_map, ap, subst}
use Rattle.std.proofs.Common.{◌∷◌, []}
use Rattle.herm_journal.specs.Actions.{to_answer}
use Rattle.herm_journal.specs.Entries.{reply_cell}
use Rattle.herm_letters.specs.View.{reply_view}
use Rattle.herm_queue.specs.ReplyStates.{reply_cell_of}
use Rattle.herm_machine.specs.declared.order.Got.TheVariants as gots
use Rattle.herm_world.specs.Doing.{Does}
use Rattle.herm_world.specs.Places.{places_of}
use Rattle.herm_world.proofs.ReadPlaces.{read-from-one, set-from-one}
use Rattle.herm_world.proofs.DoesAtReplies.{answer-does}
use Rattle.herm_world.proofs.places.Places.answer.Goals as goal

pub answer-requires-clause-cell_clock : goal.answer-requires-clause-cell_clock
answer-requires-clause-cell_clock c = c.requires.clocks (reply_cell c.args.caller.number) (reply_cell_of c.index_mut.result.now) (ap (option_map reply_cell_of) (read-from-one c.args.self.now.replies.items c.args.caller.number c.index_mut.result.now c.requires.from_one c.requires.there c.index_mut.ensures.value))

pub returns : goal.returns
returns c =
    record {
      does =
          subst (λ rs. Does c.args.who.number c.args.clock.0 (to_answer c.args.caller.number c.args.call (reply_view c.args.reply)) (places_of c.args.self.now) (record (places_of c.args.self.now) { replies = rs }) gots.Answered c.in_ok-stamp.stamp.0 (c.args.caller.number ∷ [])) (set-from-one c.args.self.now.replies.items c.args.caller.number c.answer.new.self c.requires.from_one)
          (answer-does c.args.who.number c.args.clock.0 c.args.caller.number (places_of c.args.self.now) c.index_mut.result.now c.answer.new.self (read-from-one c.args.self.now.replies.items c.args.caller.number c.index_mut.result.now c.requires.from_one c.requires.there c.index_mut.ensures.value) c.args.call c.args.reply c.in_ok-stamp.stamp.0 c.in_ok-stamp.ensures.acted c.in_ok-stamp.ensures.stamp);
    }
