-- Entries whose exception has no name.
use Rattle.std.specs.Prelude.{ℕ, ◌≤◌}
use Rattle.herm_journal.specs.Actions.{Reply, values, raised, gone, make_port, make_process, put, take, close, answer, hear}
use Rattle.herm_journal.specs.Entries.{Text, Record, Entry}

-- so many names do not reach to the exception of the reply
abbrev pub IsNamelessReply : ℕ → Reply Text → Type 0
IsNamelessReply count (values t) = ⊥
IsNamelessReply count (raised e t) = count ≤ e
IsNamelessReply count gone = ⊥

abbrev pub IsNameless : ℕ → Record → Type 0
IsNameless count (make_port made) = ⊥
IsNameless count (make_process code made) = ⊥
IsNameless count (put number t) = ⊥
IsNameless count (take number t) = ⊥
IsNameless count (close n left) = ⊥
IsNameless count (answer call r) = IsNamelessReply count r
IsNameless count (hear call r) = IsNamelessReply count r

-- with exception 0
abbrev pub reply_at_zero : Reply Text → Reply Text
reply_at_zero (values t) = values t
reply_at_zero (raised e t) = raised 0 t
reply_at_zero gone = gone

abbrev pub action_at_zero : Record → Record
action_at_zero (make_port made) = make_port made
action_at_zero (make_process code made) = make_process code made
action_at_zero (put number t) = put number t
action_at_zero (take number t) = take number t
action_at_zero (close n left) = close n left
action_at_zero (answer call r) = answer call (reply_at_zero r)
action_at_zero (hear call r) = hear call (reply_at_zero r)

abbrev pub entry_at_zero : Entry → Entry
entry_at_zero e = record e { action = action_at_zero e.action }
