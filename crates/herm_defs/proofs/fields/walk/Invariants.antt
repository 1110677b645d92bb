use Rattle.std.proofs.Common.{◌≡◌, map, drop}
use Rattle.herm_syntax.specs.View.{name_view}
use Rattle.herm_meaning.specs.Walks.{walk}
use Rattle.herm_defs.specs.Steps.{end_of}
use Rattle.herm_defs.proofs.Stepping.{behind}
use Rattle.herm_defs.proofs.fields.walk.Given as goal

abbrev pub invariant-loop-name : goal.invariant-loop-name
invariant-loop-name l = behind l.places.items (end_of (walk l.table l.t.0 (map name_view (drop l.name-index l.path)))) ≡ end_of (walk l.table l.fn.from.0 (map name_view l.path))
