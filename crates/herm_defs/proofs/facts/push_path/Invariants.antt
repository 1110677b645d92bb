use Rattle.std.proofs.Common.{◌≡◌, ◌++◌, map, drop}
use Rattle.herm_syntax.specs.View.{name_view}
use Rattle.herm_defs.specs.PlainFacts.{path_key}
use Rattle.herm_defs.proofs.facts.push_path.Given as goal

abbrev pub invariant-loop-name : goal.invariant-loop-name
invariant-loop-name l = l.bytes.items ++ path_key (map name_view (drop l.name-index l.path)) ≡ l.fn.bytes.items ++ path_key (map name_view l.path)
