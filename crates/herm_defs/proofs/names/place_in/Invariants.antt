use Rattle.std.proofs.Common.{◌≡◌, ◌+◌, drop}
use Rattle.herm_meaning.specs.Walks.{place_of}
use Rattle.herm_defs.proofs.names.place_in.Given as goal

abbrev pub invariant-loop-place : goal.invariant-loop-place
invariant-loop-place l = place_of l.words l.name ≡ l.place + place_of (drop l.place l.words) l.name
