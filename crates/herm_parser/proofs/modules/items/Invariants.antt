use Rattle.std.proofs.Common.{◌≡◌, length, map, Some}
use Rattle.herm_readers.specs.Combinators.{many}
use Rattle.herm_syntax.specs.ReadStatements.{inside}
use Rattle.herm_syntax.specs.ReadModules.{read_item}
use Rattle.herm_syntax.specs.View.{def_item_view}
use Rattle.herm_parser.specs.AlongDefinitions.{past_item}
use Rattle.herm_parser.specs.Along.{past_each}
use Rattle.herm_parser.specs.Gives.{kinds, with_front}
use Rattle.herm_parser.proofs.modules.items.Given as goal

abbrev pub invariant-list : goal.invariant-list
invariant-list l =
    (with_front (map (def_item_view) l.found.items) (many (inside) (read_item) (kinds l.rest)) ≡ many (inside) (read_item) (kinds l.fn.tokens))
    × (past_each (past_item) l.found.items l.fn.tokens ≡ Some l.rest)

abbrev pub decreases-list : goal.decreases-list
decreases-list l = length l.rest
