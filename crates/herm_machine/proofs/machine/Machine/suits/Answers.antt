use Rattle.std.proofs.Common.{refl, sym, subst}
use Rattle.herm_steps.specs.StandingAt.{StandsAt}
use Rattle.herm_machine.specs.Machines.{IsAt}
use Rattle.herm_machine.proofs.Awaited.{left-suits, message-out, message-suits, reply-out, reply-suits}
use Rattle.herm_machine.proofs.machine.Machine.suits.Goals as goal

pub returns-then-gave_away : goal.returns-then-gave_away
returns-then-gave_away c = record {
  suits = λ image main s at a here tells. message-out image main c.args.self.now s at a c.args.got.now c.in-Message.port c.in-Message.parcel c.in-Message.is here (c.if-gave_away.ensures.out refl image main s here) tells;
}

pub returns-else-gave_away : goal.returns-else-gave_away
returns-else-gave_away c = record {
  suits = λ image main s at a here tells.
      let at' = subst (λ m. IsAt image main m s) (sym c.self.view_is) here in
      message-suits image main _ s at a c.args.got.now c.in-Message.port c.in-Message.parcel c.is_awaited.result c.in-Message.is at' (c.is_awaited.ensures.exactly s (subst (λ m. StandsAt m.held s) (sym c.self.view_is) (c.if-gave_away.ensures.inside refl image main s here))) tells;
}

pub returns-then-gave_away-2 : goal.returns-then-gave_away-2
returns-then-gave_away-2 c = record {
  suits = λ image main s at a here tells. reply-out image main c.args.self.now s at a c.args.got.now c.in-Heard.call c.in-Heard.reply c.in-Heard.trace c.in-Heard.is here (c.if-gave_away-2.ensures.out refl image main s here) tells;
}

pub returns-else-gave_away-2 : goal.returns-else-gave_away-2
returns-else-gave_away-2 c = record {
  suits = λ image main s at a here tells.
      let at' = subst (λ m. IsAt image main m s) (sym c.self.view_is) here in
      reply-suits image main _ s at a c.args.got.now c.in-Heard.call c.in-Heard.reply c.in-Heard.trace c.is_heard.result c.in-Heard.is at' (c.is_heard.ensures.exactly s (subst (λ m. StandsAt m.held s) (sym c.self.view_is) (c.if-gave_away-2.ensures.inside refl image main s here))) tells;
}

pub returns-in-Left : goal.returns-in-Left
returns-in-Left c = record {
  suits = λ image main s at a here tells. left-suits image main s at a c.args.got.now c.in-Left.field-0 c.in-Left.is c.requires.whole tells;
}
