use Rattle.std.proofs.Common.{◌≡◌, ◌++◌, ◌+◌, ◌||◌, drop, get_or, false, sym, ap, ◌∙◌, arith}
use Rattle.herm_typed.specs.View.{typed_form_view, typed_stmts_view}
use Rattle.herm_typed.specs.Blocks.{case_blocks, select_blocks, handlers_list}
use Rattle.herm_judge.specs.View.{table_of, variables_of}
use Rattle.herm_resolve.specs.ControlInOnePass.{Control, raise_all, control, control_of_block, control_of_blocks, control_of_handlers}
use Rattle.herm_resolve.proofs.ReachCode.{beside_next, behind_next, arms_left, ports_left, handlers_left, statements_left, case_control, select_control, if_control, for_control, while_control, try_control, case_number, select_number, if_number, for_number, while_number, try_number}
use Rattle.herm_resolve.proofs.reach.+reaching.Goals as goal

-- A statement with blocks is seen as its lists say.
pub reach_form-reach_case-requires : goal.reach_form-reach_case-requires
reach_form-reach_case-requires t c = let e = case_number c.args.form.now c.in-Case.field-0 c.in-Case.arms c.as_slice-case_list.result.now c.in-Case.is c.as_slice-case_list.ensures.value in omega (arith, e, c.decreases)

pub reach_form-returns-in_ok-g-in-Case-clause-on : goal.reach_form-returns-in_ok-g-in-Case-clause-on
reach_form-returns-in_ok-g-in-Case-clause-on t c = c.in_ok-g-in-Case.ensures.on ∙ sym (ap (λ (x : Control). x.on) (case_control (table_of c.args.frame.now) (variables_of c.args.frame.now) c.args.form.now c.args.here c.in-Case.field-0 c.in-Case.arms c.as_slice-case_list.result.now c.in-Case.is c.as_slice-case_list.ensures.value))

pub reach_form-returns-in_ok-g-in-Case-clause-out : goal.reach_form-returns-in_ok-g-in-Case-clause-out
reach_form-returns-in_ok-g-in-Case-clause-out t c = c.in_ok-g-in-Case.ensures.out ∙ sym (ap (λ (x : Control). x.out) (case_control (table_of c.args.frame.now) (variables_of c.args.frame.now) c.args.form.now c.args.here c.in-Case.field-0 c.in-Case.arms c.as_slice-case_list.result.now c.in-Case.is c.as_slice-case_list.ensures.value))

pub reach_form-returns-in_ok-g-in-Case-clause-raised : goal.reach_form-returns-in_ok-g-in-Case-clause-raised
reach_form-returns-in_ok-g-in-Case-clause-raised t c = c.in_ok-g-in-Case.ensures.raised ∙ sym (ap (λ (x : Control). raise_all c.args.raised.now.items x.raised) (case_control (table_of c.args.frame.now) (variables_of c.args.frame.now) c.args.form.now c.args.here c.in-Case.field-0 c.in-Case.arms c.as_slice-case_list.result.now c.in-Case.is c.as_slice-case_list.ensures.value))

pub reach_form-returns-in_ok-g-in-Case-clause-marks : goal.reach_form-returns-in_ok-g-in-Case-clause-marks
reach_form-returns-in_ok-g-in-Case-clause-marks t c = c.in_ok-g-in-Case.ensures.marks ∙ sym (ap (λ (x : Control). c.args.marks.now.items ++ x.marks) (case_control (table_of c.args.frame.now) (variables_of c.args.frame.now) c.args.form.now c.args.here c.in-Case.field-0 c.in-Case.arms c.as_slice-case_list.result.now c.in-Case.is c.as_slice-case_list.ensures.value))

pub reach_form-reach_select-requires : goal.reach_form-reach_select-requires
reach_form-reach_select-requires t c = let e = select_number c.args.form.now c.in-Select.arms c.as_slice-ports.result.now c.in-Select.is c.as_slice-ports.ensures.value in omega (arith, e, c.decreases)

pub reach_form-returns-in_ok-g-in-Select-clause-on : goal.reach_form-returns-in_ok-g-in-Select-clause-on
reach_form-returns-in_ok-g-in-Select-clause-on t c = c.in_ok-g-in-Select.ensures.on ∙ sym (ap (λ (x : Control). x.on) (select_control (table_of c.args.frame.now) (variables_of c.args.frame.now) c.args.form.now c.args.here c.in-Select.arms c.as_slice-ports.result.now c.in-Select.is c.as_slice-ports.ensures.value))

pub reach_form-returns-in_ok-g-in-Select-clause-out : goal.reach_form-returns-in_ok-g-in-Select-clause-out
reach_form-returns-in_ok-g-in-Select-clause-out t c = c.in_ok-g-in-Select.ensures.out ∙ sym (ap (λ (x : Control). x.out) (select_control (table_of c.args.frame.now) (variables_of c.args.frame.now) c.args.form.now c.args.here c.in-Select.arms c.as_slice-ports.result.now c.in-Select.is c.as_slice-ports.ensures.value))

pub reach_form-returns-in_ok-g-in-Select-clause-raised : goal.reach_form-returns-in_ok-g-in-Select-clause-raised
reach_form-returns-in_ok-g-in-Select-clause-raised t c = c.in_ok-g-in-Select.ensures.raised ∙ sym (ap (λ (x : Control). raise_all c.args.raised.now.items x.raised) (select_control (table_of c.args.frame.now) (variables_of c.args.frame.now) c.args.form.now c.args.here c.in-Select.arms c.as_slice-ports.result.now c.in-Select.is c.as_slice-ports.ensures.value))

pub reach_form-returns-in_ok-g-in-Select-clause-marks : goal.reach_form-returns-in_ok-g-in-Select-clause-marks
reach_form-returns-in_ok-g-in-Select-clause-marks t c = c.in_ok-g-in-Select.ensures.marks ∙ sym (ap (λ (x : Control). c.args.marks.now.items ++ x.marks) (select_control (table_of c.args.frame.now) (variables_of c.args.frame.now) c.args.form.now c.args.here c.in-Select.arms c.as_slice-ports.result.now c.in-Select.is c.as_slice-ports.ensures.value))

pub reach_form-reach_if-requires : goal.reach_form-reach_if-requires
reach_form-reach_if-requires t c = let e = if_number c.args.form.now c.in-If.field-0 c.in-If.body c.in-If.other c.as_slice-if_list.result.now c.in-If.is c.as_slice-if_list.ensures.value in omega (arith, e, c.decreases)

pub reach_form-returns-in_ok-g-in-If-clause-on : goal.reach_form-returns-in_ok-g-in-If-clause-on
reach_form-returns-in_ok-g-in-If-clause-on t c = c.in_ok-g-in-If.ensures.on ∙ sym (ap (λ (x : Control). x.on) (if_control (table_of c.args.frame.now) (variables_of c.args.frame.now) c.args.form.now c.args.here c.in-If.field-0 c.in-If.body c.in-If.other c.as_slice-if_list.result.now c.in-If.is c.as_slice-if_list.ensures.value))

pub reach_form-returns-in_ok-g-in-If-clause-out : goal.reach_form-returns-in_ok-g-in-If-clause-out
reach_form-returns-in_ok-g-in-If-clause-out t c = c.in_ok-g-in-If.ensures.out ∙ sym (ap (λ (x : Control). x.out) (if_control (table_of c.args.frame.now) (variables_of c.args.frame.now) c.args.form.now c.args.here c.in-If.field-0 c.in-If.body c.in-If.other c.as_slice-if_list.result.now c.in-If.is c.as_slice-if_list.ensures.value))

pub reach_form-returns-in_ok-g-in-If-clause-raised : goal.reach_form-returns-in_ok-g-in-If-clause-raised
reach_form-returns-in_ok-g-in-If-clause-raised t c = c.in_ok-g-in-If.ensures.raised ∙ sym (ap (λ (x : Control). raise_all c.args.raised.now.items x.raised) (if_control (table_of c.args.frame.now) (variables_of c.args.frame.now) c.args.form.now c.args.here c.in-If.field-0 c.in-If.body c.in-If.other c.as_slice-if_list.result.now c.in-If.is c.as_slice-if_list.ensures.value))

pub reach_form-returns-in_ok-g-in-If-clause-marks : goal.reach_form-returns-in_ok-g-in-If-clause-marks
reach_form-returns-in_ok-g-in-If-clause-marks t c = c.in_ok-g-in-If.ensures.marks ∙ sym (ap (λ (x : Control). c.args.marks.now.items ++ x.marks) (if_control (table_of c.args.frame.now) (variables_of c.args.frame.now) c.args.form.now c.args.here c.in-If.field-0 c.in-If.body c.in-If.other c.as_slice-if_list.result.now c.in-If.is c.as_slice-if_list.ensures.value))

pub reach_form-reach_loop-requires : goal.reach_form-reach_loop-requires
reach_form-reach_loop-requires t c = let e = for_number c.args.form.now c.in-For.field-0 c.in-For.field-1 c.in-For.body c.as_slice-for_list.result.now c.in-For.is c.as_slice-for_list.ensures.value in omega (arith, e, c.decreases)

pub reach_form-returns-in_ok-g-in-For-clause-raised : goal.reach_form-returns-in_ok-g-in-For-clause-raised
reach_form-returns-in_ok-g-in-For-clause-raised t c = c.in_ok-g-in-For.ensures.raised ∙ sym (ap (λ (x : Control). raise_all c.args.raised.now.items x.raised) (for_control (table_of c.args.frame.now) (variables_of c.args.frame.now) c.args.form.now c.args.here c.in-For.field-0 c.in-For.field-1 c.in-For.body c.as_slice-for_list.result.now c.in-For.is c.as_slice-for_list.ensures.value))

pub reach_form-returns-in_ok-g-in-For-clause-marks : goal.reach_form-returns-in_ok-g-in-For-clause-marks
reach_form-returns-in_ok-g-in-For-clause-marks t c = c.in_ok-g-in-For.ensures.marks ∙ sym (ap (λ (x : Control). c.args.marks.now.items ++ x.marks) (for_control (table_of c.args.frame.now) (variables_of c.args.frame.now) c.args.form.now c.args.here c.in-For.field-0 c.in-For.field-1 c.in-For.body c.as_slice-for_list.result.now c.in-For.is c.as_slice-for_list.ensures.value))

pub reach_form-reach_loop-requires-in-While : goal.reach_form-reach_loop-requires-in-While
reach_form-reach_loop-requires-in-While t c = let e = while_number c.args.form.now c.in-While.field-0 c.in-While.body c.as_slice-while_list.result.now c.in-While.is c.as_slice-while_list.ensures.value in omega (arith, e, c.decreases)

pub reach_form-returns-in_ok-g-in-While-clause-raised : goal.reach_form-returns-in_ok-g-in-While-clause-raised
reach_form-returns-in_ok-g-in-While-clause-raised t c = c.in_ok-g-in-While.ensures.raised ∙ sym (ap (λ (x : Control). raise_all c.args.raised.now.items x.raised) (while_control (table_of c.args.frame.now) (variables_of c.args.frame.now) c.args.form.now c.args.here c.in-While.field-0 c.in-While.body c.as_slice-while_list.result.now c.in-While.is c.as_slice-while_list.ensures.value))

pub reach_form-returns-in_ok-g-in-While-clause-marks : goal.reach_form-returns-in_ok-g-in-While-clause-marks
reach_form-returns-in_ok-g-in-While-clause-marks t c = c.in_ok-g-in-While.ensures.marks ∙ sym (ap (λ (x : Control). c.args.marks.now.items ++ x.marks) (while_control (table_of c.args.frame.now) (variables_of c.args.frame.now) c.args.form.now c.args.here c.in-While.field-0 c.in-While.body c.as_slice-while_list.result.now c.in-While.is c.as_slice-while_list.ensures.value))

pub reach_form-reach_try-requires : goal.reach_form-reach_try-requires
reach_form-reach_try-requires t c = let e = try_number c.args.form.now c.in-Try.body c.in-Try.handled c.as_slice-try_list.result.now c.as_slice-handlers_list.result.now c.in-Try.is c.as_slice-try_list.ensures.value c.as_slice-handlers_list.ensures.value in omega (arith, e, c.decreases)

pub reach_form-returns-in_ok-g-in-Try-clause-on : goal.reach_form-returns-in_ok-g-in-Try-clause-on
reach_form-returns-in_ok-g-in-Try-clause-on t c = c.in_ok-g-in-Try.ensures.on ∙ sym (ap (λ (x : Control). x.on) (try_control (table_of c.args.frame.now) (variables_of c.args.frame.now) c.args.form.now c.args.here c.in-Try.body c.in-Try.handled c.as_slice-try_list.result.now c.as_slice-handlers_list.result.now c.in-Try.is c.as_slice-try_list.ensures.value c.as_slice-handlers_list.ensures.value))

pub reach_form-returns-in_ok-g-in-Try-clause-out : goal.reach_form-returns-in_ok-g-in-Try-clause-out
reach_form-returns-in_ok-g-in-Try-clause-out t c = c.in_ok-g-in-Try.ensures.out ∙ sym (ap (λ (x : Control). x.out) (try_control (table_of c.args.frame.now) (variables_of c.args.frame.now) c.args.form.now c.args.here c.in-Try.body c.in-Try.handled c.as_slice-try_list.result.now c.as_slice-handlers_list.result.now c.in-Try.is c.as_slice-try_list.ensures.value c.as_slice-handlers_list.ensures.value))

pub reach_form-returns-in_ok-g-in-Try-clause-raised : goal.reach_form-returns-in_ok-g-in-Try-clause-raised
reach_form-returns-in_ok-g-in-Try-clause-raised t c = c.in_ok-g-in-Try.ensures.raised ∙ sym (ap (λ (x : Control). raise_all c.args.raised.now.items x.raised) (try_control (table_of c.args.frame.now) (variables_of c.args.frame.now) c.args.form.now c.args.here c.in-Try.body c.in-Try.handled c.as_slice-try_list.result.now c.as_slice-handlers_list.result.now c.in-Try.is c.as_slice-try_list.ensures.value c.as_slice-handlers_list.ensures.value))

pub reach_form-returns-in_ok-g-in-Try-clause-marks : goal.reach_form-returns-in_ok-g-in-Try-clause-marks
reach_form-returns-in_ok-g-in-Try-clause-marks t c = c.in_ok-g-in-Try.ensures.marks ∙ sym (ap (λ (x : Control). c.args.marks.now.items ++ x.marks) (try_control (table_of c.args.frame.now) (variables_of c.args.frame.now) c.args.form.now c.args.here c.in-Try.body c.in-Try.handled c.as_slice-try_list.result.now c.as_slice-handlers_list.result.now c.in-Try.is c.as_slice-try_list.ensures.value c.as_slice-handlers_list.ensures.value))

pub reach_blocks-arms-preserved : goal.reach_blocks-arms-preserved
reach_blocks-arms-preserved t c =
    let first : Control = control_of_block (table_of c.args.frame.now) (variables_of c.args.frame.now) (typed_stmts_view c.as_slice.result.now) c.args.here in
    let rest : Control = control_of_blocks (table_of c.args.frame.now) (variables_of c.args.frame.now) (case_blocks (drop (c.arms.body-index + 1) c.args.arms.now)) c.args.here in
    let r = beside_next c.arms.goes.on c.arms.goes.out c.either-goes.result.on c.either-goes.result.out (control_of_blocks (table_of c.args.frame.now) (variables_of c.args.frame.now) (case_blocks c.args.arms.now) c.args.here).on (control_of_blocks (table_of c.args.frame.now) (variables_of c.args.frame.now) (case_blocks c.args.arms.now) c.args.here).out c.arms.raised.items c.arms.marks.items c.reach_block.new.raised.items c.reach_block.new.marks.items (raise_all c.args.raised.now.items (control_of_blocks (table_of c.args.frame.now) (variables_of c.args.frame.now) (case_blocks c.args.arms.now) c.args.here).raised) (c.args.marks.now.items ++ (control_of_blocks (table_of c.args.frame.now) (variables_of c.args.frame.now) (case_blocks c.args.arms.now) c.args.here).marks)
    first rest _ (arms_left (table_of c.args.frame.now) (variables_of c.args.frame.now) c.args.arms.now c.arms.body-index c.arms-item.result c.as_slice.result.now c.args.here c.arms-test.true c.arms-item.is c.as_slice.ensures.value)
    (c.either-goes.ensures.on ∙ ap (λ b. c.arms.goes.on || b) c.in_ok-then.ensures.on) (c.either-goes.ensures.out ∙ ap (λ b. c.arms.goes.out || b) c.in_ok-then.ensures.out) c.in_ok-then.ensures.raised c.in_ok-then.ensures.marks
    (record { on = c.arms.invariant.on; out = c.arms.invariant.out; raised = c.arms.invariant.raised; marks = c.arms.invariant.marks }) in
    record { on = r.on; out = r.out; raised = r.raised; marks = r.marks }

pub reach_ports-arms-preserved : goal.reach_ports-arms-preserved
reach_ports-arms-preserved t c =
    let first : Control = control_of_block (table_of c.args.frame.now) (variables_of c.args.frame.now) (typed_stmts_view c.as_slice.result.now) c.args.here in
    let rest : Control = control_of_blocks (table_of c.args.frame.now) (variables_of c.args.frame.now) (select_blocks (drop (c.arms.body-index + 1) c.args.arms.now)) c.args.here in
    let r = beside_next c.arms.goes.on c.arms.goes.out c.either-goes.result.on c.either-goes.result.out (control_of_blocks (table_of c.args.frame.now) (variables_of c.args.frame.now) (select_blocks c.args.arms.now) c.args.here).on (control_of_blocks (table_of c.args.frame.now) (variables_of c.args.frame.now) (select_blocks c.args.arms.now) c.args.here).out c.arms.raised.items c.arms.marks.items c.reach_block.new.raised.items c.reach_block.new.marks.items (raise_all c.args.raised.now.items (control_of_blocks (table_of c.args.frame.now) (variables_of c.args.frame.now) (select_blocks c.args.arms.now) c.args.here).raised) (c.args.marks.now.items ++ (control_of_blocks (table_of c.args.frame.now) (variables_of c.args.frame.now) (select_blocks c.args.arms.now) c.args.here).marks)
    first rest _ (ports_left (table_of c.args.frame.now) (variables_of c.args.frame.now) c.args.arms.now c.arms.body-index c.arms-item.result c.as_slice.result.now c.args.here c.arms-test.true c.arms-item.is c.as_slice.ensures.value)
    (c.either-goes.ensures.on ∙ ap (λ b. c.arms.goes.on || b) c.in_ok-then.ensures.on) (c.either-goes.ensures.out ∙ ap (λ b. c.arms.goes.out || b) c.in_ok-then.ensures.out) c.in_ok-then.ensures.raised c.in_ok-then.ensures.marks
    (record { on = c.arms.invariant.on; out = c.arms.invariant.out; raised = c.arms.invariant.raised; marks = c.arms.invariant.marks }) in
    record { on = r.on; out = r.out; raised = r.raised; marks = r.marks }

pub reach_handlers-handlers-preserved : goal.reach_handlers-handlers-preserved
reach_handlers-handlers-preserved t c =
    let first : Control = control_of_block (table_of c.args.frame.now) (variables_of c.args.frame.now) (typed_stmts_view c.as_slice-in-handlers.result.now) c.is_raised-here.result in
    let rest : Control = control_of_handlers (table_of c.args.frame.now) (variables_of c.args.frame.now) (handlers_list (drop (c.handlers.e-index + 1) c.args.handled.now)) c.clear.new.raised.items in
    let r = beside_next c.handlers.goes.on c.handlers.goes.out c.either-goes.result.on c.either-goes.result.out (control_of_handlers (table_of c.args.frame.now) (variables_of c.args.frame.now) (handlers_list c.args.handled.now) c.args.inner.items).on (control_of_handlers (table_of c.args.frame.now) (variables_of c.args.frame.now) (handlers_list c.args.handled.now) c.args.inner.items).out c.handlers.raised.items c.handlers.marks.items c.reach_block.new.raised.items c.reach_block.new.marks.items (raise_all c.args.raised.now.items (control_of_handlers (table_of c.args.frame.now) (variables_of c.args.frame.now) (handlers_list c.args.handled.now) c.args.inner.items).raised) (c.args.marks.now.items ++ (control_of_handlers (table_of c.args.frame.now) (variables_of c.args.frame.now) (handlers_list c.args.handled.now) c.args.inner.items).marks)
    first rest _ (handlers_left (table_of c.args.frame.now) (variables_of c.args.frame.now) c.args.handled.now c.handlers.e-index c.handlers-item.result c.as_slice-in-handlers.result.now c.handlers.left.items c.clear.new.raised.items c.is_raised-here.result c.handlers-test.true c.handlers-item.is c.as_slice-in-handlers.ensures.value
    (c.is_raised-here.ensures.raised ∙ ap (λ bs. get_or bs c.handlers-item.result.0.0 false) c.as_slice.ensures.value) c.clear.ensures.raised)
    (c.either-goes.ensures.on ∙ ap (λ b. c.handlers.goes.on || b) c.in_ok-then.ensures.on) (c.either-goes.ensures.out ∙ ap (λ b. c.handlers.goes.out || b) c.in_ok-then.ensures.out) c.in_ok-then.ensures.raised c.in_ok-then.ensures.marks
    (record { on = c.handlers.invariant.on; out = c.handlers.invariant.out; raised = c.handlers.invariant.raised; marks = c.handlers.invariant.marks }) in
    record { on = r.on; out = r.out; raised = r.raised; marks = r.marks }

pub reach_block-statements-preserved : goal.reach_block-statements-preserved
reach_block-statements-preserved t c =
    let first : Control = control (table_of c.args.frame.now) (variables_of c.args.frame.now) (typed_form_view c.s-item.result.form) c.statements.goes.on in
    let rest : Control = control_of_block (table_of c.args.frame.now) (variables_of c.args.frame.now) (typed_stmts_view (drop (c.statements.s-index + 1) c.args.list.now)) c.behind-goes.result.on in
    let r = behind_next c.statements.goes.out c.behind-goes.result.out (control_of_block (table_of c.args.frame.now) (variables_of c.args.frame.now) (typed_stmts_view c.args.list.now) c.args.here).on (control_of_block (table_of c.args.frame.now) (variables_of c.args.frame.now) (typed_stmts_view c.args.list.now) c.args.here).out c.statements.raised.items c.statements.marks.items c.reach_form.new.raised.items c.reach_form.new.marks.items (raise_all c.args.raised.now.items (control_of_block (table_of c.args.frame.now) (variables_of c.args.frame.now) (typed_stmts_view c.args.list.now) c.args.here).raised) (c.args.marks.now.items ++ (control_of_block (table_of c.args.frame.now) (variables_of c.args.frame.now) (typed_stmts_view c.args.list.now) c.args.here).marks)
    first rest _ (statements_left (table_of c.args.frame.now) (variables_of c.args.frame.now) c.args.list.now c.statements.s-index c.s-item.result c.statements.goes.on c.behind-goes.result.on c.statements-test.true c.s-item.is (c.behind-goes.ensures.on ∙ c.in_ok-then.ensures.on))
    (c.behind-goes.ensures.out ∙ ap (λ b. c.statements.goes.out || b) c.in_ok-then.ensures.out) c.in_ok-then.ensures.raised c.in_ok-then.ensures.marks
    (record { on = c.statements.invariant.on; out = c.statements.invariant.out; raised = c.statements.invariant.raised; marks = c.statements.invariant.marks }) in
    record { on = r.on; out = r.out; raised = r.raised; marks = r.marks }
