use Rattle.herm_flow.proofs.PartsSeen.{case_seen, select_seen, if_seen, for_seen, while_seen, try_seen}
use Rattle.herm_flow.proofs.PartsWithin.{case_parts, select_parts, if_parts, for_parts, while_parts, try_parts}
use Rattle.herm_flow.proofs.parts.parts_of.Goals as goal

pub returns-in_ok-blocks-in-Case-clause-seen : goal.returns-in_ok-blocks-in-Case-clause-seen
returns-in_ok-blocks-in-Case-clause-seen c = case_seen c.args.form.now c.in-Case.field-0 c.in-Case.list c.as_slice.result.now _ c.in-Case.is c.as_slice.ensures.value c.in_ok-blocks-in-Case.ensures

pub returns-in_ok-blocks-in-Case-clause-within : goal.returns-in_ok-blocks-in-Case-clause-within
returns-in_ok-blocks-in-Case-clause-within c = case_parts c.args.form.now c.in-Case.field-0 c.in-Case.list c.as_slice.result.now _ c.in-Case.is c.as_slice.ensures.value c.in_ok-blocks-in-Case.ensures

pub returns-in_ok-blocks-in-Select-clause-seen : goal.returns-in_ok-blocks-in-Select-clause-seen
returns-in_ok-blocks-in-Select-clause-seen c = select_seen c.args.form.now c.in-Select.list c.as_slice-in-Select.result.now _ c.in-Select.is c.as_slice-in-Select.ensures.value c.in_ok-blocks-in-Select.ensures

pub returns-in_ok-blocks-in-Select-clause-within : goal.returns-in_ok-blocks-in-Select-clause-within
returns-in_ok-blocks-in-Select-clause-within c = select_parts c.args.form.now c.in-Select.list c.as_slice-in-Select.result.now _ c.in-Select.is c.as_slice-in-Select.ensures.value c.in_ok-blocks-in-Select.ensures

pub returns-in_ok-blocks-in-If-clause-seen : goal.returns-in_ok-blocks-in-If-clause-seen
returns-in_ok-blocks-in-If-clause-seen c = if_seen c.args.form.now c.in-If.field-0 c.in-If.body c.in-If.other c.as_slice-in-If.result.now _ c.in-If.is c.as_slice-in-If.ensures.value c.in_ok-blocks-in-If.ensures

pub returns-in_ok-blocks-in-If-clause-within : goal.returns-in_ok-blocks-in-If-clause-within
returns-in_ok-blocks-in-If-clause-within c = if_parts c.args.form.now c.in-If.field-0 c.in-If.body c.in-If.other c.as_slice-in-If.result.now _ c.in-If.is c.as_slice-in-If.ensures.value c.in_ok-blocks-in-If.ensures

pub returns-in-For-clause-seen : goal.returns-in-For-clause-seen
returns-in-For-clause-seen c = for_seen c.args.form.now c.in-For.field-0 c.in-For.field-1 c.in-For.body c.as_slice-in-For.result.now c.in-For.is c.as_slice-in-For.ensures.value

pub returns-in-For-clause-within : goal.returns-in-For-clause-within
returns-in-For-clause-within c = for_parts c.args.form.now c.in-For.field-0 c.in-For.field-1 c.in-For.body c.as_slice-in-For.result.now c.in-For.is c.as_slice-in-For.ensures.value

pub returns-in-While-clause-seen : goal.returns-in-While-clause-seen
returns-in-While-clause-seen c = while_seen c.args.form.now c.in-While.field-0 c.in-While.body c.as_slice-in-While.result.now c.in-While.is c.as_slice-in-While.ensures.value

pub returns-in-While-clause-within : goal.returns-in-While-clause-within
returns-in-While-clause-within c = while_parts c.args.form.now c.in-While.field-0 c.in-While.body c.as_slice-in-While.result.now c.in-While.is c.as_slice-in-While.ensures.value

pub returns-in-Try-clause-seen : goal.returns-in-Try-clause-seen
returns-in-Try-clause-seen c = try_seen c.args.form.now c.in-Try.body c.in-Try.handled c.as_slice-in-Try.result.now c.as_slice-in-Try-2.result.now c.in-Try.is c.as_slice-in-Try.ensures.value c.as_slice-in-Try-2.ensures.value

pub returns-in-Try-clause-within : goal.returns-in-Try-clause-within
returns-in-Try-clause-within c = try_parts c.args.form.now c.in-Try.body c.in-Try.handled c.as_slice-in-Try.result.now c.as_slice-in-Try-2.result.now c.in-Try.is c.as_slice-in-Try.ensures.value c.as_slice-in-Try-2.ensures.value
