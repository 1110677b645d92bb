-- What is recorded, in the words of the language: places, replies, actions and entries.
-- Language reference, "Entries".
use Rattle.std.specs.Prelude.{List, map, option_map}
use Rattle.herm_journal.specs.Actions as actions
use Rattle.herm_journal.specs.Actions.{values, raised, gone, make_port, make_process, put, take, close, answer, hear}
use Rattle.herm_journal.specs.Entries as source
use Rattle.herm_journal.specs.Entries.{Text, Record, port, reply_cell, book}
use Rattle.herm_base.specs.declared.numbers.PortNo.{PortNo}
use Rattle.herm_base.specs.declared.numbers.ProcNo.{ProcNo}
use Rattle.herm_events.specs.declared.entry.Place.{Place}
use Rattle.herm_events.specs.declared.entry.Place.TheVariants.{Port, Reply, Book}
use Rattle.herm_events.specs.declared.entry.ReplyTrace.{ReplyTrace}
use Rattle.herm_events.specs.declared.entry.ReplyTrace.TheVariants.{Values, Raised, Gone}
use Rattle.herm_events.specs.declared.entry.Action.{Action}
use Rattle.herm_events.specs.declared.entry.Action.TheVariants.{MakePort, MakeProcess, Put, Take, Close, Answer, Hear}
use Rattle.herm_events.specs.declared.entry.Entry.{Entry}

abbrev pub place_view : Place → source.Place
place_view (Port p) = port p.number
place_view (Reply p) = reply_cell p.number
place_view Book = book

abbrev pub reply_trace_view : ReplyTrace → actions.Reply Text
reply_trace_view (Values t) = values t
reply_trace_view (Raised e t) = raised e.0 t
reply_trace_view Gone = gone

abbrev pub action_view : Action → Record
action_view (MakePort made) = make_port (option_map (λ (p : PortNo). p.number) made)
action_view (MakeProcess code made) = make_process code (option_map (λ (m : ProcNo × PortNo). (m.0.number, m.1.number)) made)
action_view (Put number t) = put number t
action_view (Take number t) = take number t
action_view (Close count left) = close count left
action_view (Answer call r) = answer call (reply_trace_view r)
action_view (Hear call r) = hear call (reply_trace_view r)

abbrev pub entry_view : Entry → source.Entry
entry_view e = record { stamp = e.stamp.0; process = e.proc.number; place = place_view e.place; action = action_view e.action }

-- the entries of a journal, a diary or a history
abbrev pub entries_view : List Entry → List source.Entry
entries_view entries = map entry_view entries
