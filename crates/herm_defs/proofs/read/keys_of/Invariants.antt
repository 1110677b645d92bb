use Rattle.std.proofs.Common.{◌≡◌, map, take}
use Rattle.herm_syntax.specs.View.{name_view}
use Rattle.herm_meaning.specs.Walks.{place_of, parts_of}
use Rattle.herm_defs.proofs.read.keys_of.Given as goal

abbrev pub invariant-loop-key : goal.invariant-loop-key
invariant-loop-key l = l.places.items ≡ map (place_of (parts_of l.table l.row.0)) (map name_view (take l.key-index l.keys))
