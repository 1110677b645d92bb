use Rattle.std.proofs.Common.{◌≡◌, length, map, Some}
use Rattle.herm_readers.specs.Combinators.{many, preceded}
use Rattle.herm_syntax.specs.Symbols.{is, comma}
use Rattle.herm_syntax.specs.ReadModules.{read_param}
use Rattle.herm_syntax.specs.View.{param_form_view}
use Rattle.herm_parser.specs.AlongDefinitions.{past_param}
use Rattle.herm_parser.specs.Along.{past_each, past_behind}
use Rattle.herm_parser.specs.Gives.{kinds, with_front}
use Rattle.herm_parser.proofs.definitions.params_behind.Given as goal

abbrev pub invariant-list : goal.invariant-list
invariant-list l =
    (with_front (map (param_form_view) l.found.items) (many (is comma) (preceded (is comma) read_param) (kinds l.rest)) ≡ many (is comma) (preceded (is comma) read_param) (kinds l.fn.tokens))
    × (past_each (past_behind past_param) l.found.items l.fn.tokens ≡ Some l.rest)

abbrev pub decreases-list : goal.decreases-list
decreases-list l = length l.rest
