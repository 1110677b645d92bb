use Rattle.std.proofs.Common.{◌≡◌, ◌+◌, ◌*◌, drop}
use Rattle.herm_model.specs.Statements.{numbers_of, numbers_of_block, numbers_of_blocks, numbers_of_handlers}
use Rattle.herm_typed.specs.View.{typed_form_view, typed_stmts_view}
use Rattle.herm_typed.specs.Blocks.{case_blocks, select_blocks, else_block, handlers_list}
use Rattle.herm_sizes.proofs.counts.+counting.Given as goal

-- Each invariant: what was counted so far, with what is left, is the whole.
abbrev pub invariant-count_arms-arms : goal.invariant-count_arms-arms
invariant-count_arms-arms l = l.count + numbers_of_blocks (case_blocks (drop l.body-index l.arms)) ≡ numbers_of_blocks (case_blocks l.arms)

abbrev pub invariant-count_ports-arms : goal.invariant-count_ports-arms
invariant-count_ports-arms l = l.count + numbers_of_blocks (select_blocks (drop l.body-index l.arms)) ≡ numbers_of_blocks (select_blocks l.arms)

abbrev pub invariant-count_handlers-handlers : goal.invariant-count_handlers-handlers
invariant-count_handlers-handlers l = l.count + numbers_of_handlers (handlers_list (drop l.body-index l.handled)) ≡ numbers_of_handlers (handlers_list l.handled)

abbrev pub invariant-count_block-statements : goal.invariant-count_block-statements
invariant-count_block-statements l = l.count + numbers_of_block (typed_stmts_view (drop l.s-index l.list)) ≡ numbers_of_block (typed_stmts_view l.list)

-- The measures: statements within, and how far the call is from them.
abbrev pub decreases-count_arms : goal.decreases-count_arms
decreases-count_arms l = 6 * numbers_of_blocks (case_blocks l.arms.now) + 3

abbrev pub decreases-count_ports : goal.decreases-count_ports
decreases-count_ports l = 6 * numbers_of_blocks (select_blocks l.arms.now) + 3

abbrev pub decreases-count_else : goal.decreases-count_else
decreases-count_else l = 6 * numbers_of_block (else_block l.other.now) + 3

abbrev pub decreases-count_handlers : goal.decreases-count_handlers
decreases-count_handlers l = 6 * numbers_of_handlers (handlers_list l.handled.now) + 3

abbrev pub decreases-count_form : goal.decreases-count_form
decreases-count_form l = 6 * numbers_of (typed_form_view l.form.now)

abbrev pub decreases-count_block : goal.decreases-count_block
decreases-count_block l = 6 * numbers_of_block (typed_stmts_view l.list.now) + 1
