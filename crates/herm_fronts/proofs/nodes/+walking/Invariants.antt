use Rattle.std.proofs.Common.{◌≡◌, ◌+◌, ◌*◌, drop}
use Rattle.herm_model.specs.Statements.{numbers_of, numbers_of_block, numbers_of_blocks, numbers_of_handlers}
use Rattle.herm_typed.specs.View.{typed_form_view, typed_stmts_view}
use Rattle.herm_typed.specs.Blocks.{case_blocks, select_blocks, else_block, handlers_list}
use Rattle.herm_fronts.specs.Walked.{found_view, walk_block, walk_blocks, walk_handlers}
use Rattle.herm_fronts.proofs.nodes.+walking.Given as goal

-- Each invariant: what is left, walked over behind what was found, gives what all of it gives.
abbrev pub invariant-walk_arms-arms : goal.invariant-walk_arms-arms
invariant-walk_arms-arms l = walk_blocks (case_blocks (drop l.body-index l.arms)) (found_view l.found) ≡ walk_blocks (case_blocks l.arms) (found_view l.fn.found)

abbrev pub invariant-walk_port_arms-arms : goal.invariant-walk_port_arms-arms
invariant-walk_port_arms-arms l = walk_blocks (select_blocks (drop l.body-index l.arms)) (found_view l.found) ≡ walk_blocks (select_blocks l.arms) (found_view l.fn.found)

abbrev pub invariant-walk_handled-handlers : goal.invariant-walk_handled-handlers
invariant-walk_handled-handlers l = walk_handlers (handlers_list (drop l.body-index l.handled)) (found_view l.found) ≡ walk_handlers (handlers_list l.handled) (found_view l.fn.found)

abbrev pub invariant-walk_all-statements : goal.invariant-walk_all-statements
invariant-walk_all-statements l = walk_block (typed_stmts_view (drop l.s-index l.list)) (found_view l.found) ≡ walk_block (typed_stmts_view l.list) (found_view l.fn.found)

-- The measures: statements within, and how far the call is from them.
abbrev pub decreases-walk_arms : goal.decreases-walk_arms
decreases-walk_arms l = 4 * numbers_of_blocks (case_blocks l.arms.now) + 2

abbrev pub decreases-walk_port_arms : goal.decreases-walk_port_arms
decreases-walk_port_arms l = 4 * numbers_of_blocks (select_blocks l.arms.now) + 2

abbrev pub decreases-walk_handled : goal.decreases-walk_handled
decreases-walk_handled l = 4 * numbers_of_handlers (handlers_list l.handled.now) + 2

abbrev pub decreases-walk_otherwise : goal.decreases-walk_otherwise
decreases-walk_otherwise l = 4 * numbers_of_block (else_block l.other.now) + 2

abbrev pub decreases-walk_loop : goal.decreases-walk_loop
decreases-walk_loop l = 4 * numbers_of_block (typed_stmts_view l.body.now) + 2

abbrev pub decreases-walk_form : goal.decreases-walk_form
decreases-walk_form l = 4 * numbers_of (typed_form_view l.form.now)

abbrev pub decreases-walk_all : goal.decreases-walk_all
decreases-walk_all l = 4 * numbers_of_block (typed_stmts_view l.list.now) + 1
