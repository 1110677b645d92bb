use Rattle.std.proofs.Common.{◌≡◌, ◌+◌, drop}
use Rattle.herm_naming.specs.Numbers.{place_of}
use Rattle.herm_numbers.proofs.names.place_of.Given as goal

-- None of the names passed is this one.
abbrev pub invariant-loop-place : goal.invariant-loop-place
invariant-loop-place l = place_of l.name l.names ≡ l.place + place_of l.name (drop l.place l.names)
