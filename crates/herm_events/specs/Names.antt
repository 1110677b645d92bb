-- That the exceptions of an entry have names.
use Rattle.std.specs.Prelude.{ℕ, ◌<◌, ⊤}
use Rattle.herm_journal.specs.Actions.{Reply, values, raised, gone, make_port, make_process, put, take, close, answer, hear}
use Rattle.herm_journal.specs.Entries.{Text, Record}

-- so many names reach to the exception of the reply, if it has one
abbrev pub IsReplyNamed : ℕ → Reply Text → Type 0
IsReplyNamed count (values t) = ⊤
IsReplyNamed count (raised e t) = e < count
IsReplyNamed count gone = ⊤

abbrev pub IsNamed : ℕ → Record → Type 0
IsNamed count (make_port made) = ⊤
IsNamed count (make_process code made) = ⊤
IsNamed count (put number t) = ⊤
IsNamed count (take number t) = ⊤
IsNamed count (close n left) = ⊤
IsNamed count (answer call r) = IsReplyNamed count r
IsNamed count (hear call r) = IsReplyNamed count r
