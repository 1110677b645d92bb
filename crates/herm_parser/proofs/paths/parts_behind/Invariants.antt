use Rattle.std.proofs.Common.{◌≡◌, length, map, Some}
use Rattle.herm_readers.specs.Combinators.{many, preceded}
use Rattle.herm_syntax.specs.Symbols.{Sign, is}
use Rattle.herm_syntax.specs.ReadExpressions.{read_part}
use Rattle.herm_syntax.specs.View.{name_view}
use Rattle.herm_parser.specs.Along.{past_name}
use Rattle.herm_parser.specs.Along.{past_each, past_behind}
use Rattle.herm_parser.specs.Gives.{kinds, with_front}
use Rattle.herm_parser.proofs.paths.parts_behind.Given as goal

abbrev pub invariant-list : goal.invariant-list
invariant-list l =
    (with_front (map (name_view) l.found.items) (many (is (Sign l.before)) (preceded (is (Sign l.before)) read_part) (kinds l.rest)) ≡ many (is (Sign l.before)) (preceded (is (Sign l.before)) read_part) (kinds l.fn.tokens))
    × (past_each (past_behind past_name) l.found.items l.fn.tokens ≡ Some l.rest)

abbrev pub decreases-list : goal.decreases-list
decreases-list l = length l.rest
