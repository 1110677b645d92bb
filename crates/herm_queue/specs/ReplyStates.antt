-- What contracts see of a reply cell.
use Rattle.std.specs.Prelude.{ℕ, List, [], ◌∷◌, Option, IsSome, ◌≡◌, ◌≤◌, ◌⊎◌, ⊤}
use Rattle.herm_journal.specs.Actions as actions
use Rattle.herm_journal.specs.PlaceStates.{Replies, replies}
use Rattle.herm_journal.specs.Entries.{Text, reply_cell, Entry}
use Rattle.herm_base.specs.declared.numbers.ProcNo.{ProcNo}
use Rattle.herm_letters.specs.Letters.{IsWholeReply}
use Rattle.herm_letters.specs.declared.reply.Reply.{Reply}
use Rattle.herm_queue.specs.CellStates.{CellState, IsReplayed}
use Rattle.herm_queue.specs.LogStates.{LogState}

-- The cell in which a process hears answers: its owner, the replies that wait with the numbers of their calls, oldest
-- first, its clock, its history, and for how many actions more memory has been taken. Language reference, "Replies".
pub record ReplyState : Type 0 where
  pub owner : ℕ
  pub waiting : Replies Reply
  pub clock : ℕ
  pub entries : List Entry
  pub spare : ℕ

-- the reply cell as a cell, which opens empty
abbrev pub reply_cell_of : ReplyState → CellState
reply_cell_of s = record { place = reply_cell s.owner; opening = replies []; holding = replies s.waiting; clock = s.clock; entries = s.entries; spare = s.spare }

-- its history tells what it holds
abbrev pub IsReplyCell : ReplyState → Type 0
IsReplyCell s = IsReplayed (reply_cell_of s)

-- Replies that wait, for how many more there is room, and whether a further text of the first is there.
pub record AnswerState : Type 0 where
  pub waiting : Replies Reply
  pub room : ℕ
  pub further : Option (actions.Reply Text)

-- each reply is whole
abbrev pub AreWholeReplies : Replies Reply → Type 0
AreWholeReplies [] = ⊤
AreWholeReplies (r ∷ rs) = IsWholeReply r.1 × AreWholeReplies rs

-- no reply waits, or a further text of the first is there
abbrev pub IsReady : AnswerState → Type 0
IsReady s = (s.waiting ≡ []) ⊎ IsSome s.further

-- the fields of a reply cell
abbrev pub reply_state : ProcNo → AnswerState → LogState → ℕ → ReplyState
reply_state owner answers log spare = record { owner = owner.number; waiting = answers.waiting; clock = log.clock; entries = log.entries; spare = spare }

-- what they keep
pub record AreReplyCell (owner : ProcNo) (answers : AnswerState) (log : LogState) (spare : ℕ) : Type 0 where
  pub kept : IsReplyCell (reply_state owner answers log spare)
  pub place : log.place ≡ reply_cell owner.number
  pub one : spare ≤ 1
  pub entry_room : spare ≤ log.room
  pub room : spare ≤ answers.room
  pub ready : 1 ≤ spare → IsReady answers
