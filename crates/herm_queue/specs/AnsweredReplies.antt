-- Replies that wait, each whole and with its text.
use Rattle.std.specs.Prelude.{List, [], ◌∷◌, map, Option, Some, None, ◌≡◌, ⊤}
use Rattle.herm_journal.specs.PlaceStates.{Replies}
use Rattle.herm_events.specs.View.{reply_trace_view}
use Rattle.herm_events.specs.declared.entry.ReplyTrace.{ReplyTrace}
use Rattle.herm_letters.specs.Letters.{IsWholeReply}
use Rattle.herm_letters.specs.declared.reply.Reply.{Reply}
use Rattle.herm_queue.specs.CellStates.{reply_text}
use Rattle.herm_queue.specs.declared.answers.Answered.{Answered}

abbrev pub waiting_of : List Answered → Replies Reply
waiting_of xs = map (λ (x : Answered). (x.call, x.reply)) xs

-- the reply is whole, and its text stands beside it
pub record IsAnswered (x : Answered) : Type 0 where
  pub whole : IsWholeReply x.reply
  pub told : reply_trace_view x.trace ≡ reply_text x.reply

-- a further text, if it is there, is the first reply's
abbrev pub IsFurther : List Answered → Option ReplyTrace → Type 0
IsFurther xs None = ⊤
IsFurther [] (Some t) = ⊥
IsFurther (x ∷ xs) (Some t) = reply_trace_view t ≡ reply_text x.reply
