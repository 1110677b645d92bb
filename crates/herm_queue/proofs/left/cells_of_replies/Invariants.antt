use Rattle.std.proofs.Common.{◌≡◌, ◌≤◌, ◌^◌, ◌+◌, ℕ, drop}
use Rattle.herm_model.specs.Lists.{total}
use Rattle.herm_journal.specs.Weights.{weigh_reply}
use Rattle.herm_system.specs.Summary.{cut}
use Rattle.herm_letters.specs.View.{reply_view}
use Rattle.herm_letters.specs.declared.reply.Reply.{Reply}
use Rattle.herm_queue.specs.AnsweredReplies.{waiting_of}
use Rattle.herm_queue.proofs.left.cells_of_replies.Given as goal

-- what is counted so far, with the rest, is the whole
abbrev pub invariant-loop-answer : goal.invariant-loop-answer
invariant-loop-answer l =
    (cut (l.cells + total (λ (r : ℕ × Reply). weigh_reply (λ n. 1) (reply_view r.1)) (waiting_of (drop l.answer-index l.answered))) ≡ cut (total (λ (r : ℕ × Reply). weigh_reply (λ n. 1) (reply_view r.1)) (waiting_of l.answered)))
    × (l.cells ≤ 2 ^ 63)
