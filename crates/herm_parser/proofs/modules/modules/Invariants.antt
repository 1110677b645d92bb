use Rattle.std.proofs.Common.{◌≡◌, length, map, Some}
use Rattle.herm_readers.specs.Combinators.{many}
use Rattle.herm_syntax.specs.ReadModules.{anything}
use Rattle.herm_syntax.specs.View.{module_view}
use Rattle.herm_parser.specs.AlongDefinitions.{past_module}
use Rattle.herm_parser.specs.Modules.{module_at}
use Rattle.herm_parser.specs.Along.{past_each}
use Rattle.herm_parser.specs.Gives.{kinds, with_front}
use Rattle.herm_parser.proofs.modules.modules.Given as goal

abbrev pub invariant-list : goal.invariant-list
invariant-list l =
    (with_front (map (module_view) l.found.items) (many (anything) (module_at l.depth) (kinds l.rest)) ≡ many (anything) (module_at l.depth) (kinds l.fn.tokens))
    × (past_each (past_module) l.found.items l.fn.tokens ≡ Some l.rest)

abbrev pub decreases-list : goal.decreases-list
decreases-list l = length l.rest
