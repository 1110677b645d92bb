-- A process that closes its port, and what the entry of it tells.
use Rattle.std.specs.Prelude.{ℕ, [], ◌∷◌, pos, None, Some, ⊤}
use Rattle.herm_model.specs.Values.{a_scalar, an_integer, Kind, Value, cell, no_parts, part}
use Rattle.herm_journal.specs.Actions.{close}
use Rattle.herm_journal.specs.Entries.{Text, port, Entry}
use Rattle.herm_journal.specs.Renaming.{forget_name}
use Rattle.herm_system.specs.PutAside.{IsToldBy, IsBehind}
use Rattle.herm_runs.specs.examples.Countdowns.{Down, counting_down}

-- a value without parts; and one with an integer as its part
abbrev pub alone : Kind → Value
alone k = cell tt k no_parts

abbrev pub integer : ℕ → Kind
integer n = a_scalar (an_integer (pos n))

abbrev pub with_part : Kind → Kind → Value
with_part k part_kind = cell tt k (part (alone part_kind) no_parts)

-- a process that has counted down, and closes port 1 next
abbrev pub closing : Down ⊤
closing = record { number = 1; left = 0; steps = 2; actions = 2; serial = 2; message = None; inport = Some (record { name = tt; port = 1 }); finalised = [] }

-- the entry of its close, with one message of this text
abbrev pub closed_with : Text → Entry
closed_with t = record { stamp = 3; process = 1; place = port 1; action = close 1 (t ∷ []) }

-- the entry tells that this was the message
abbrev pub Tells : Text → Value → Type 0
Tells t m = IsToldBy (counting_down forget_name) closing (closed_with t) (close 1 (m ∷ []))

-- the entry is put aside
abbrev pub IsPutAside : Text → Type 0
IsPutAside t = IsBehind (counting_down forget_name) closing (closed_with t) ((counting_down forget_name).put_aside closing)
