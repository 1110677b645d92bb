use Rattle.std.proofs.Common.{◌≡◌, map, take}
use Rattle.herm_syntax.specs.View.{name_view}
use Rattle.herm_defs.proofs.listed.names_of.Given as goal

abbrev pub invariant-loop-name : goal.invariant-loop-name
invariant-loop-name l = l.words.items ≡ map name_view (take l.name-index l.list)
