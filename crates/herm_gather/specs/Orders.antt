-- The order of entries as one number.
use Rattle.std.specs.Prelude.{ℕ, ◌+◌, ◌*◌, ◌^◌, ◌-◌, min}
use Rattle.herm_events.specs.declared.entry.Entry.{Entry}

-- by stamp, and then by process, whose numbers are below 2,048
abbrev pub place_in_order : Entry → ℕ
place_in_order e = e.stamp.0 * 2048 + e.proc.number

-- cut to 64 bits
abbrev pub short_place : Entry → ℕ
short_place e = min (place_in_order e) (2 ^ 64 - 1)
