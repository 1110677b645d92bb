use Rattle.std.proofs.Common.{arith, refl}
use Rattle.herm_sizes.proofs.CountedForms.{case_count, select_count, if_count, for_count, while_count, try_count}
use Rattle.herm_sizes.proofs.counts.+counting.Goals as goal

-- A statement with blocks is one more than they have.
pub count_form-count_arms-requires : goal.count_form-count_arms-requires
count_form-count_arms-requires t c = let e = case_count c.args.form.now c.in-Case.field-0 c.in-Case.arms c.as_slice.result.now c.in-Case.is c.as_slice.ensures.value in omega (arith, e, c.decreases)

pub count_form-returns-in_ok-count-in-Case : goal.count_form-returns-in_ok-count-in-Case
count_form-returns-in_ok-count-in-Case t c = let e = case_count c.args.form.now c.in-Case.field-0 c.in-Case.arms c.as_slice.result.now c.in-Case.is c.as_slice.ensures.value in omega (arith, e, c.in_ok-within-in-Case.ensures, c.in_ok-count-in-Case.ensures)

pub count_form-count_ports-requires : goal.count_form-count_ports-requires
count_form-count_ports-requires t c = let e = select_count c.args.form.now c.in-Select.arms c.as_slice-in-Select.result.now c.in-Select.is c.as_slice-in-Select.ensures.value in omega (arith, e, c.decreases)

pub count_form-returns-in_ok-count-in-Select : goal.count_form-returns-in_ok-count-in-Select
count_form-returns-in_ok-count-in-Select t c = let e = select_count c.args.form.now c.in-Select.arms c.as_slice-in-Select.result.now c.in-Select.is c.as_slice-in-Select.ensures.value in omega (arith, e, c.in_ok-within-in-Select.ensures, c.in_ok-count-in-Select.ensures)

pub count_form-count_block-requires : goal.count_form-count_block-requires
count_form-count_block-requires t c = let e = if_count c.args.form.now c.in-If.field-0 c.in-If.body c.in-If.other c.as_slice-in-If.result.now c.in-If.is c.as_slice-in-If.ensures.value in omega (arith, e, c.decreases)

pub count_form-count_else-requires : goal.count_form-count_else-requires
count_form-count_else-requires t c = let e = if_count c.args.form.now c.in-If.field-0 c.in-If.body c.in-If.other c.as_slice-in-If.result.now c.in-If.is c.as_slice-in-If.ensures.value in omega (arith, e, c.decreases)

pub count_form-returns-in_ok-count-in-If : goal.count_form-returns-in_ok-count-in-If
count_form-returns-in_ok-count-in-If t c = let e = if_count c.args.form.now c.in-If.field-0 c.in-If.body c.in-If.other c.as_slice-in-If.result.now c.in-If.is c.as_slice-in-If.ensures.value in omega (arith, e, c.in_ok-then-in-If.ensures, c.in_ok-otherwise-in-If.ensures, c.in_ok-within-in-If.ensures, c.in_ok-count-in-If.ensures)

pub count_form-count_block-requires-in-For : goal.count_form-count_block-requires-in-For
count_form-count_block-requires-in-For t c = let e = for_count c.args.form.now c.in-For.field-0 c.in-For.field-1 c.in-For.body c.as_slice-in-For.result.now c.in-For.is c.as_slice-in-For.ensures.value in omega (arith, e, c.decreases)

pub count_form-returns-in_ok-count-in-For : goal.count_form-returns-in_ok-count-in-For
count_form-returns-in_ok-count-in-For t c = let e = for_count c.args.form.now c.in-For.field-0 c.in-For.field-1 c.in-For.body c.as_slice-in-For.result.now c.in-For.is c.as_slice-in-For.ensures.value in omega (arith, e, c.in_ok-within-in-For.ensures, c.in_ok-count-in-For.ensures)

pub count_form-count_block-requires-in-While : goal.count_form-count_block-requires-in-While
count_form-count_block-requires-in-While t c = let e = while_count c.args.form.now c.in-While.field-0 c.in-While.body c.as_slice-in-While.result.now c.in-While.is c.as_slice-in-While.ensures.value in omega (arith, e, c.decreases)

pub count_form-returns-in_ok-count-in-While : goal.count_form-returns-in_ok-count-in-While
count_form-returns-in_ok-count-in-While t c = let e = while_count c.args.form.now c.in-While.field-0 c.in-While.body c.as_slice-in-While.result.now c.in-While.is c.as_slice-in-While.ensures.value in omega (arith, e, c.in_ok-within-in-While.ensures, c.in_ok-count-in-While.ensures)

pub count_form-count_block-requires-in-Try : goal.count_form-count_block-requires-in-Try
count_form-count_block-requires-in-Try t c = let e = try_count c.args.form.now c.in-Try.body c.in-Try.handled c.as_slice-in-Try.result.now _ c.in-Try.is c.as_slice-in-Try.ensures.value refl in omega (arith, e, c.decreases)

pub count_form-count_handlers-requires : goal.count_form-count_handlers-requires
count_form-count_handlers-requires t c = let e = try_count c.args.form.now c.in-Try.body c.in-Try.handled c.as_slice-in-Try.result.now c.as_slice-in-Try-2.result.now c.in-Try.is c.as_slice-in-Try.ensures.value c.as_slice-in-Try-2.ensures.value in omega (arith, e, c.decreases)

pub count_form-returns-in_ok-count-in-Try : goal.count_form-returns-in_ok-count-in-Try
count_form-returns-in_ok-count-in-Try t c = let e = try_count c.args.form.now c.in-Try.body c.in-Try.handled c.as_slice-in-Try.result.now c.as_slice-in-Try-2.result.now c.in-Try.is c.as_slice-in-Try.ensures.value c.as_slice-in-Try-2.ensures.value in omega (arith, e, c.in_ok-first-in-Try.ensures, c.in_ok-handlers-in-Try.ensures, c.in_ok-inner-in-Try.ensures, c.in_ok-count-in-Try.ensures)
