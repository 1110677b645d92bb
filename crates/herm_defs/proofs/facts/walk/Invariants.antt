use Rattle.std.proofs.Common.{◌≡◌, map, drop}
use Rattle.herm_syntax.specs.View.{name_view}
use Rattle.herm_meaning.specs.Walks.{walk}
use Rattle.herm_defs.specs.PlainFacts.{walked_as}
use Rattle.herm_defs.proofs.facts.walk.Given as goal

abbrev pub invariant-loop-name : goal.invariant-loop-name
invariant-loop-name l = walked_as (walk l.context l.t (map name_view (drop l.name-index l.names))) ≡ walked_as (walk l.context l.message (map name_view l.names))
