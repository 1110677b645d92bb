use Rattle.std.proofs.Common.{◌≡◌, ◌+◌, ◌*◌, ◌++◌, ◌||◌, drop}
use Rattle.herm_model.specs.Statements.{numbers_of, numbers_of_block, numbers_of_blocks, numbers_of_handlers}
use Rattle.herm_typed.specs.View.{typed_form_view, typed_stmts_view}
use Rattle.herm_typed.specs.Blocks.{case_blocks, select_blocks, else_block, handlers_list}
use Rattle.herm_judge.specs.View.{table_of, variables_of}
use Rattle.herm_resolve.specs.ControlInOnePass.{control_of_block, control_of_blocks, control_of_handlers, raise_all}
use Rattle.herm_resolve.proofs.reach.+reaching.Given as goal

-- Each invariant: what control did so far, joined with what it does in what is left, is what it does in the whole.
abbrev pub invariant-reach_blocks-arms : goal.invariant-reach_blocks-arms
invariant-reach_blocks-arms l = record {
  on : l.goes.on || (control_of_blocks (table_of l.frame) (variables_of l.frame) (case_blocks (drop l.body-index l.arms)) l.here).on ≡ (control_of_blocks (table_of l.frame) (variables_of l.frame) (case_blocks l.arms) l.here).on;
  out : l.goes.out || (control_of_blocks (table_of l.frame) (variables_of l.frame) (case_blocks (drop l.body-index l.arms)) l.here).out ≡ (control_of_blocks (table_of l.frame) (variables_of l.frame) (case_blocks l.arms) l.here).out;
  raised : raise_all l.raised.items (control_of_blocks (table_of l.frame) (variables_of l.frame) (case_blocks (drop l.body-index l.arms)) l.here).raised ≡ raise_all l.fn.raised.items (control_of_blocks (table_of l.frame) (variables_of l.frame) (case_blocks l.arms) l.here).raised;
  marks : l.marks.items ++ (control_of_blocks (table_of l.frame) (variables_of l.frame) (case_blocks (drop l.body-index l.arms)) l.here).marks ≡ l.fn.marks.items ++ (control_of_blocks (table_of l.frame) (variables_of l.frame) (case_blocks l.arms) l.here).marks;
}

abbrev pub invariant-reach_ports-arms : goal.invariant-reach_ports-arms
invariant-reach_ports-arms l = record {
  on : l.goes.on || (control_of_blocks (table_of l.frame) (variables_of l.frame) (select_blocks (drop l.body-index l.arms)) l.here).on ≡ (control_of_blocks (table_of l.frame) (variables_of l.frame) (select_blocks l.arms) l.here).on;
  out : l.goes.out || (control_of_blocks (table_of l.frame) (variables_of l.frame) (select_blocks (drop l.body-index l.arms)) l.here).out ≡ (control_of_blocks (table_of l.frame) (variables_of l.frame) (select_blocks l.arms) l.here).out;
  raised : raise_all l.raised.items (control_of_blocks (table_of l.frame) (variables_of l.frame) (select_blocks (drop l.body-index l.arms)) l.here).raised ≡ raise_all l.fn.raised.items (control_of_blocks (table_of l.frame) (variables_of l.frame) (select_blocks l.arms) l.here).raised;
  marks : l.marks.items ++ (control_of_blocks (table_of l.frame) (variables_of l.frame) (select_blocks (drop l.body-index l.arms)) l.here).marks ≡ l.fn.marks.items ++ (control_of_blocks (table_of l.frame) (variables_of l.frame) (select_blocks l.arms) l.here).marks;
}

abbrev pub invariant-reach_handlers-handlers : goal.invariant-reach_handlers-handlers
invariant-reach_handlers-handlers l = record {
  on : l.goes.on || (control_of_handlers (table_of l.frame) (variables_of l.frame) (handlers_list (drop l.e-index l.handled)) l.left.items).on ≡ (control_of_handlers (table_of l.frame) (variables_of l.frame) (handlers_list l.handled) l.fn.inner.items).on;
  out : l.goes.out || (control_of_handlers (table_of l.frame) (variables_of l.frame) (handlers_list (drop l.e-index l.handled)) l.left.items).out ≡ (control_of_handlers (table_of l.frame) (variables_of l.frame) (handlers_list l.handled) l.fn.inner.items).out;
  raised : raise_all l.raised.items (control_of_handlers (table_of l.frame) (variables_of l.frame) (handlers_list (drop l.e-index l.handled)) l.left.items).raised ≡ raise_all l.fn.raised.items (control_of_handlers (table_of l.frame) (variables_of l.frame) (handlers_list l.handled) l.fn.inner.items).raised;
  marks : l.marks.items ++ (control_of_handlers (table_of l.frame) (variables_of l.frame) (handlers_list (drop l.e-index l.handled)) l.left.items).marks ≡ l.fn.marks.items ++ (control_of_handlers (table_of l.frame) (variables_of l.frame) (handlers_list l.handled) l.fn.inner.items).marks;
}

abbrev pub invariant-reach_block-statements : goal.invariant-reach_block-statements
invariant-reach_block-statements l = record {
  on : (control_of_block (table_of l.frame) (variables_of l.frame) (typed_stmts_view (drop l.s-index l.list)) l.goes.on).on ≡ (control_of_block (table_of l.frame) (variables_of l.frame) (typed_stmts_view l.list) l.here).on;
  out : l.goes.out || (control_of_block (table_of l.frame) (variables_of l.frame) (typed_stmts_view (drop l.s-index l.list)) l.goes.on).out ≡ (control_of_block (table_of l.frame) (variables_of l.frame) (typed_stmts_view l.list) l.here).out;
  raised : raise_all l.raised.items (control_of_block (table_of l.frame) (variables_of l.frame) (typed_stmts_view (drop l.s-index l.list)) l.goes.on).raised ≡ raise_all l.fn.raised.items (control_of_block (table_of l.frame) (variables_of l.frame) (typed_stmts_view l.list) l.here).raised;
  marks : l.marks.items ++ (control_of_block (table_of l.frame) (variables_of l.frame) (typed_stmts_view (drop l.s-index l.list)) l.goes.on).marks ≡ l.fn.marks.items ++ (control_of_block (table_of l.frame) (variables_of l.frame) (typed_stmts_view l.list) l.here).marks;
}

-- The measures: statements within, and how far the call is from them.
abbrev pub decreases-reach_blocks : goal.decreases-reach_blocks
decreases-reach_blocks l = 6 * numbers_of_blocks (case_blocks l.arms.now) + 3

abbrev pub decreases-reach_ports : goal.decreases-reach_ports
decreases-reach_ports l = 6 * numbers_of_blocks (select_blocks l.arms.now) + 3

abbrev pub decreases-reach_else : goal.decreases-reach_else
decreases-reach_else l = 6 * numbers_of_block (else_block l.other.now) + 3

abbrev pub decreases-reach_handlers : goal.decreases-reach_handlers
decreases-reach_handlers l = 6 * numbers_of_handlers (handlers_list l.handled.now) + 3

abbrev pub decreases-reach_case : goal.decreases-reach_case
decreases-reach_case l = 6 * numbers_of_blocks (case_blocks l.arms.now) + 4

abbrev pub decreases-reach_select : goal.decreases-reach_select
decreases-reach_select l = 6 * numbers_of_blocks (select_blocks l.arms.now) + 4

abbrev pub decreases-reach_if : goal.decreases-reach_if
decreases-reach_if l = 6 * (numbers_of_block (typed_stmts_view l.body.now) + numbers_of_block (else_block l.other.now)) + 4

abbrev pub decreases-reach_loop : goal.decreases-reach_loop
decreases-reach_loop l = 6 * numbers_of_block (typed_stmts_view l.body.now) + 4

abbrev pub decreases-reach_try : goal.decreases-reach_try
decreases-reach_try l = 6 * (numbers_of_block (typed_stmts_view l.body.now) + numbers_of_handlers (handlers_list l.handled.now)) + 4

abbrev pub decreases-reach_form : goal.decreases-reach_form
decreases-reach_form l = 6 * numbers_of (typed_form_view l.form.now)

abbrev pub decreases-reach_block : goal.decreases-reach_block
decreases-reach_block l = 6 * numbers_of_block (typed_stmts_view l.list.now) + 1
