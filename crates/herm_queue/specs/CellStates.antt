-- What a cell is: a place with what it holds, its clock and its history; and what one action does to it.
-- Language reference, "Actions", "Stamps" and "Histories".
use Rattle.std.specs.Prelude.{ℕ, suc, max, List, [], ◌∷◌, ◌++◌, ◌-◌, ◌≡◌}
use Rattle.herm_model.specs.ValueTexts.{text_of}
use Rattle.herm_journal.specs.Actions as actions
use Rattle.herm_journal.specs.Actions.{Action}
use Rattle.herm_journal.specs.PlaceStates.{PlaceState, IsEnabled, after}
use Rattle.herm_journal.specs.Entries.{Text, Place, Record, Entry, map_reply, map_action, map_holding, texts_of}
use Rattle.herm_journal.specs.Histories.{Told, at_start, replay, IsLegal}
use Rattle.herm_values.specs.View.{value_view}
use Rattle.herm_values.specs.declared.value.Value.{Value}
use Rattle.herm_letters.specs.View.{reply_view}
use Rattle.herm_letters.specs.declared.reply.Reply.{Reply}

-- what is done at a cell, and what it holds: its messages and replies are those of the code
abbrev pub CellAction : Type 0
CellAction = Action Value Reply

abbrev pub Holding : Type 0
Holding = PlaceState Value Reply

-- the text of a message, and of a reply
abbrev pub value_text : Value → Text
value_text v = text_of (value_view v)

abbrev pub reply_text : Reply → actions.Reply Text
reply_text r = map_reply texts_of (reply_view r)

-- the action as it is recorded, and what is held as a history tells it
abbrev pub recorded : CellAction → Record
recorded a = map_action value_text reply_text a

abbrev pub told : Holding → Told
told h = map_holding value_text reply_text h

-- A place with its opening state, what it holds, its clock, its history, and for how many actions more its memory has
-- been taken.
pub record CellState : Type 0 where
  pub place : Place
  pub opening : Told
  pub holding : Holding
  pub clock : ℕ
  pub entries : List Entry
  pub spare : ℕ

-- The entry of an action of a process there: its stamp is one more than the larger of the two clocks.
-- Language reference, "Stamps".
abbrev pub entry_at : (process clock : ℕ) → CellAction → CellState → Entry
entry_at process clock a s = record { stamp = suc (max clock s.clock); process = process; place = s.place; action = recorded a }

-- A process with this clock does this action there, which can be done: the cell then holds what the action leaves, its
-- clock is the action's stamp, and its history has one entry more, the action's.
pub record IsActed (process clock : ℕ) (a : CellAction) (old new : CellState) : Type 0 where
  pub enabled : IsEnabled old.holding a
  pub after : new ≡ record old { holding = after a old.holding; clock = suc (max clock old.clock); entries = old.entries ++ entry_at process clock a old ∷ []; spare = old.spare - 1 }

-- The history can be one of the place from its opening state on, and what the place holds, and its clock, are those
-- behind it. Language reference, "Histories".
pub record IsReplayed (s : CellState) : Type 0 where
  pub legal : IsLegal s.entries (at_start s.opening)
  pub replayed : replay s.entries (at_start s.opening) ≡ record { holding = told s.holding; clock = s.clock }
