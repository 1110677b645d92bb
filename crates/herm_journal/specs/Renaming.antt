-- The same with other names: of a reply, of what was done and of what is wanted.
use Rattle.std.specs.Prelude.{map, ⊤}
use Rattle.herm_model.specs.Values.{Name}
use Rattle.herm_model.specs.CellNames.{rename}
use Rattle.herm_journal.specs.Actions.{new_port, new_process, to_put, to_take, to_close, to_answer, to_hear}
use Rattle.herm_journal.specs.Entries.{map_reply, map_action}
use Rattle.herm_journal.specs.Messages.{CellReply, CellWant, CellAction}

module _ {N M : Type 0} (f : N → M) where
  abbrev pub rename_reply : CellReply N → CellReply M
  rename_reply r = map_reply (map (rename f)) r

  abbrev pub rename_action : CellAction N → CellAction M
  rename_action a = map_action (rename f) rename_reply a

  abbrev pub rename_want : CellWant N → CellWant M
  rename_want new_port = new_port
  rename_want (new_process code) = new_process code
  rename_want (to_put port m) = to_put port (rename f m)
  rename_want (to_take ports) = to_take ports
  rename_want (to_close port) = to_close port
  rename_want (to_answer caller call r) = to_answer caller call (rename_reply r)
  rename_want to_hear = to_hear

-- A cell without a name is a value.
abbrev pub forget_name : Name → ⊤
forget_name n = tt
