-- What is wanted, by what comes in for it.
use Rattle.std.specs.Prelude.{⊤}
use Rattle.herm_journal.specs.Actions.{new_port, new_process, to_put, to_take, to_close, to_answer, to_hear}
use Rattle.herm_journal.specs.Messages.{CellWant}

-- something comes in and nothing was given away
abbrev pub IsBringing : CellWant ⊤ → Type 0
IsBringing new_port = ⊤
IsBringing (new_process code) = ⊤
IsBringing (to_put port m) = ⊥
IsBringing (to_take ports) = ⊤
IsBringing (to_close port) = ⊥
IsBringing (to_answer caller call r) = ⊥
IsBringing to_hear = ⊥

abbrev pub IsClosing : CellWant ⊤ → Type 0
IsClosing new_port = ⊥
IsClosing (new_process code) = ⊥
IsClosing (to_put port m) = ⊥
IsClosing (to_take ports) = ⊥
IsClosing (to_close port) = ⊤
IsClosing (to_answer caller call r) = ⊥
IsClosing to_hear = ⊥

abbrev pub IsHearing : CellWant ⊤ → Type 0
IsHearing new_port = ⊥
IsHearing (new_process code) = ⊥
IsHearing (to_put port m) = ⊥
IsHearing (to_take ports) = ⊥
IsHearing (to_close port) = ⊥
IsHearing (to_answer caller call r) = ⊥
IsHearing to_hear = ⊤
