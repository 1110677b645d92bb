use Rattle.std.proofs.Common.{option_map, ap, subst}
use Rattle.std.proofs.Common.{[]}
use Rattle.herm_journal.specs.Actions.{to_hear, hear}
use Rattle.herm_world.specs.Counted.{ReplyActs}
use Rattle.herm_journal.specs.Entries.{reply_cell}
use Rattle.herm_queue.specs.ReplyStates.{reply_cell_of}
use Rattle.herm_machine.specs.declared.order.Got.TheVariants as gots
use Rattle.herm_world.specs.Doing.{Does}
use Rattle.herm_world.specs.Places.{places_of}
use Rattle.herm_world.proofs.ReadPlaces.{read-from-one, set-from-one, answered-within, answered-not_empty, if-some}
use Rattle.herm_world.proofs.DoesAtReplies.{hear-does}
use Rattle.herm_world.proofs.places.Places.hear.Goals as goal

pub hear-requires-clause-cell_clock : goal.hear-requires-clause-cell_clock
hear-requires-clause-cell_clock c = c.requires.clocks (reply_cell c.args.who.number) (reply_cell_of c.index_mut.result.now) (ap (option_map reply_cell_of) (read-from-one c.args.self.now.replies.items c.args.who.number c.index_mut.result.now (answered-within (places_of c.args.self.now) c.args.who.number c.requires.answered).0 (answered-within (places_of c.args.self.now) c.args.who.number c.requires.answered).1 c.index_mut.ensures.value))

pub returns-in-Some : goal.returns-in-Some
returns-in-Some c =
    record {
      does =
          subst (λ rs. Does c.args.who.number c.args.clock.0 to_hear (places_of c.args.self.now) (record (places_of c.args.self.now) { replies = rs }) (gots.Heard c.in-Some.call c.in-Some.reply c.in-Some.trace) c.in-Some.stamp.0 []) (set-from-one c.args.self.now.replies.items c.args.who.number c.hear.new.self (answered-within (places_of c.args.self.now) c.args.who.number c.requires.answered).0)
          (hear-does c.args.who.number c.args.clock.0 (places_of c.args.self.now) c.index_mut.result.now c.hear.new.self (read-from-one c.args.self.now.replies.items c.args.who.number c.index_mut.result.now (answered-within (places_of c.args.self.now) c.args.who.number c.requires.answered).0 (answered-within (places_of c.args.self.now) c.args.who.number c.requires.answered).1 c.index_mut.ensures.value) c.in-Some.call c.in-Some.reply c.in-Some.trace c.in-Some.stamp.0
          (subst (λ owner. ReplyActs owner c.args.clock.0 (hear c.in-Some.call c.in-Some.reply) c.index_mut.result.now c.hear.new.self) (c.requires.owned c.args.who.number c.index_mut.result.now (read-from-one c.args.self.now.replies.items c.args.who.number c.index_mut.result.now (answered-within (places_of c.args.self.now) c.args.who.number c.requires.answered).0 (answered-within (places_of c.args.self.now) c.args.who.number c.requires.answered).1 c.index_mut.ensures.value)) (if-some _ c.in_ok-heard.heard (c.in-Some.stamp, c.in-Some.call, c.in-Some.reply, c.in-Some.trace) c.in-Some.is c.in_ok-heard.ensures.acted))
          (if-some _ c.in_ok-heard.heard (c.in-Some.stamp, c.in-Some.call, c.in-Some.reply, c.in-Some.trace) c.in-Some.is c.in_ok-heard.ensures.stamp) (if-some _ c.in_ok-heard.heard (c.in-Some.stamp, c.in-Some.call, c.in-Some.reply, c.in-Some.trace) c.in-Some.is c.in_ok-heard.ensures.whole) (if-some _ c.in_ok-heard.heard (c.in-Some.stamp, c.in-Some.call, c.in-Some.reply, c.in-Some.trace) c.in-Some.is c.in_ok-heard.ensures.text));
    }

pub unreachable-requires : goal.unreachable-requires
unreachable-requires c = answered-not_empty (places_of c.args.self.now) c.args.who.number c.index_mut.result.now c.requires.answered (read-from-one c.args.self.now.replies.items c.args.who.number c.index_mut.result.now (answered-within (places_of c.args.self.now) c.args.who.number c.requires.answered).0 (answered-within (places_of c.args.self.now) c.args.who.number c.requires.answered).1 c.index_mut.ensures.value) (c.in_ok-heard.ensures.empty c.in-None.is)
