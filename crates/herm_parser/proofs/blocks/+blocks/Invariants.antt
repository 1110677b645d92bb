use Rattle.std.proofs.Common.{◌≡◌, ◌+◌, ◌*◌, length, map, Some}
use Rattle.herm_readers.specs.Combinators.{many}
use Rattle.herm_syntax.specs.Symbols.{is}
use Rattle.herm_syntax.specs.KeywordSymbols.{kw_on, kw_when}
use Rattle.herm_syntax.specs.ReadStatements.{inside}
use Rattle.herm_syntax.specs.View.{stmt_form_view}
use Rattle.herm_parser.specs.Blocks.{arm_view, port_arm_view, case_arm_at, handler_at, port_arm_at, statement_at}
use Rattle.herm_parser.specs.Walk.{walk_body, walk_each, walk_arm, walk_port_arm}
use Rattle.herm_parser.specs.Gives.{kinds, with_front}
use Rattle.herm_parser.proofs.blocks.+blocks.Given as goal

abbrev pub decreases-body : goal.decreases-body
decreases-body l = 32 * l.depth

abbrev pub decreases-further : goal.decreases-further
decreases-further l = 32 * l.depth + 30

abbrev pub decreases-block : goal.decreases-block
decreases-block l = 32 * l.depth + 1

abbrev pub decreases-otherwise : goal.decreases-otherwise
decreases-otherwise l = 32 * l.depth + 2

abbrev pub decreases-case_arm : goal.decreases-case_arm
decreases-case_arm l = 32 * l.depth + 2

abbrev pub decreases-handler : goal.decreases-handler
decreases-handler l = 32 * l.depth + 2

abbrev pub decreases-port_arm : goal.decreases-port_arm
decreases-port_arm l = 32 * l.depth + 2

abbrev pub decreases-case_arms : goal.decreases-case_arms
decreases-case_arms l = 32 * l.depth + 3

abbrev pub decreases-handlers : goal.decreases-handlers
decreases-handlers l = 32 * l.depth + 3

abbrev pub decreases-port_arms : goal.decreases-port_arms
decreases-port_arms l = 32 * l.depth + 3

abbrev pub decreases-case_form : goal.decreases-case_form
decreases-case_form l = 32 * l.depth + 10

abbrev pub decreases-for_form : goal.decreases-for_form
decreases-for_form l = 32 * l.depth + 10

abbrev pub decreases-select_form : goal.decreases-select_form
decreases-select_form l = 32 * l.depth + 10

abbrev pub decreases-if_form : goal.decreases-if_form
decreases-if_form l = 32 * l.depth + 10

abbrev pub decreases-while_form : goal.decreases-while_form
decreases-while_form l = 32 * l.depth + 10

abbrev pub decreases-try_form : goal.decreases-try_form
decreases-try_form l = 32 * l.depth + 10

abbrev pub decreases-compound : goal.decreases-compound
decreases-compound l = 32 * l.depth + 27

abbrev pub decreases-form : goal.decreases-form
decreases-form l = 32 * l.depth + 28

abbrev pub decreases-statement : goal.decreases-statement
decreases-statement l = 32 * l.depth + 29

abbrev pub invariant-case_arms-list : goal.invariant-case_arms-list
invariant-case_arms-list l =
    (with_front (map arm_view l.found.items) (many (is kw_when) (case_arm_at l.depth) (kinds l.rest)) ≡ many (is kw_when) (case_arm_at l.depth) (kinds l.fn.tokens))
    × (walk_each walk_arm l.found.items (l.fn.next, (l.fn.end, l.fn.tokens)) ≡ Some (l.number, (l.last, l.rest)))

abbrev pub decreases-case_arms-list : goal.decreases-case_arms-list
decreases-case_arms-list l = length l.rest

abbrev pub invariant-handlers-list : goal.invariant-handlers-list
invariant-handlers-list l =
    (with_front (map arm_view l.found.items) (many (is kw_on) (handler_at l.depth) (kinds l.rest)) ≡ many (is kw_on) (handler_at l.depth) (kinds l.fn.tokens))
    × (walk_each walk_arm l.found.items (l.fn.next, (l.fn.end, l.fn.tokens)) ≡ Some (l.number, (l.last, l.rest)))

abbrev pub decreases-handlers-list : goal.decreases-handlers-list
decreases-handlers-list l = length l.rest

abbrev pub invariant-port_arms-list : goal.invariant-port_arms-list
invariant-port_arms-list l =
    (with_front (map port_arm_view l.found.items) (many (is kw_when) (port_arm_at l.depth) (kinds l.rest)) ≡ many (is kw_when) (port_arm_at l.depth) (kinds l.fn.tokens))
    × (walk_each walk_port_arm l.found.items (l.fn.next, (l.fn.end, l.fn.tokens)) ≡ Some (l.number, (l.last, l.rest)))

abbrev pub decreases-port_arms-list : goal.decreases-port_arms-list
decreases-port_arms-list l = length l.rest

abbrev pub invariant-further-list : goal.invariant-further-list
invariant-further-list l =
    (with_front (map (λ s. stmt_form_view s.form) l.found.items) (many inside (statement_at l.depth) (kinds l.rest)) ≡ many inside (statement_at l.depth) (kinds l.fn.tokens))
    × (walk_body l.found.items l.fn.next l.fn.tokens ≡ Some (l.number, l.rest))

abbrev pub decreases-further-list : goal.decreases-further-list
decreases-further-list l = length l.rest
