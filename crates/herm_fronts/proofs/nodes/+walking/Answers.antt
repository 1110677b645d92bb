use Rattle.std.proofs.Common.{sym, ap, ap₂, ◌∙◌, arith, map}
use Rattle.herm_model.specs.Statements as model
use Rattle.herm_model.specs.Statements.{choosing, repeating, trying, block, no_blocks}
use Rattle.herm_typed.specs.declared.statements.TypedForm.{Case, Select, For, If, While, Try}
use Rattle.herm_typed.specs.View.{typed_path_view, typed_expr_view, typed_stmts_view}
use Rattle.herm_typed.specs.Blocks.{case_blocks, typed_arm_view, select_blocks, else_block, handlers_list}
use Rattle.herm_typed.proofs.SeenBlocks.{for_view, while_view, if_view, case_view, select_view, try_view}
use Rattle.herm_fronts.specs.Walked.{found_view, walk_block}
use Rattle.herm_fronts.proofs.Sizes.{size_of}
use Rattle.herm_fronts.proofs.WalkSteps.{chosen, chosen_twice, repeated, tried}
use Rattle.herm_fronts.proofs.nodes.+walking.Goals as goal

pub walk_form-walk_arms-requires : goal.walk_form-walk_arms-requires
walk_form-walk_arms-requires t c =
    let e = size_of c.args.form.now (Case c.in-Case.field-0 c.in-Case.arms) _ c.in-Case.is (case_view c.in-Case.field-0 c.in-Case.arms ∙ ap (λ xs. choosing (model.Case (typed_path_view c.in-Case.field-0) (map (λ a. a.0) c.in-Case.arms.items)) (case_blocks xs)) (sym c.as_slice.ensures.value)) in
    omega (arith, e, c.decreases)

pub walk_form-returns-in_ok-walk_arms-in-Case : goal.walk_form-returns-in_ok-walk_arms-in-Case
walk_form-returns-in_ok-walk_arms-in-Case t c =
    chosen c.args.form.now (Case c.in-Case.field-0 c.in-Case.arms) _ _ _ _ _ c.in-Case.is (case_view c.in-Case.field-0 c.in-Case.arms ∙ ap (λ xs. choosing (model.Case (typed_path_view c.in-Case.field-0) (map (λ a. a.0) c.in-Case.arms.items)) (case_blocks xs)) (sym c.as_slice.ensures.value))
    c.in_ok-push_form-in-Case.ensures c.in_ok-walk_arms-in-Case.ensures

pub walk_form-walk_port_arms-requires : goal.walk_form-walk_port_arms-requires
walk_form-walk_port_arms-requires t c =
    let e = size_of c.args.form.now (Select c.in-Select.arms) _ c.in-Select.is (select_view c.in-Select.arms ∙ ap (λ xs. choosing (model.Select (map typed_arm_view c.in-Select.arms.items)) (select_blocks xs)) (sym c.as_slice-in-Select.ensures.value)) in
    omega (arith, e, c.decreases)

pub walk_form-returns-in_ok-walk_port_arms-in-Select : goal.walk_form-returns-in_ok-walk_port_arms-in-Select
walk_form-returns-in_ok-walk_port_arms-in-Select t c =
    chosen c.args.form.now (Select c.in-Select.arms) _ _ _ _ _ c.in-Select.is (select_view c.in-Select.arms ∙ ap (λ xs. choosing (model.Select (map typed_arm_view c.in-Select.arms.items)) (select_blocks xs)) (sym c.as_slice-in-Select.ensures.value))
    c.in_ok-push_form-in-Select.ensures c.in_ok-walk_port_arms-in-Select.ensures

pub walk_form-walk_all-requires : goal.walk_form-walk_all-requires
walk_form-walk_all-requires t c =
    let e = size_of c.args.form.now (If c.in-If.field-0 c.in-If.body c.in-If.other) _ c.in-If.is (if_view c.in-If.field-0 c.in-If.body c.in-If.other ∙ ap (λ xs. choosing (model.If (typed_expr_view c.in-If.field-0)) (block (typed_stmts_view xs) (block (else_block c.in-If.other) no_blocks))) (sym c.as_slice-in-If.ensures.value)) in
    omega (arith, e, c.decreases)

pub walk_form-walk_otherwise-requires : goal.walk_form-walk_otherwise-requires
walk_form-walk_otherwise-requires t c =
    let e = size_of c.args.form.now (If c.in-If.field-0 c.in-If.body c.in-If.other) _ c.in-If.is (if_view c.in-If.field-0 c.in-If.body c.in-If.other) in
    omega (arith, e, c.decreases)

pub walk_form-returns-in_ok-walk_otherwise-in-If : goal.walk_form-returns-in_ok-walk_otherwise-in-If
walk_form-returns-in_ok-walk_otherwise-in-If t c =
    chosen_twice c.args.form.now (If c.in-If.field-0 c.in-If.body c.in-If.other) _ _ _ _ _ _ _ c.in-If.is (if_view c.in-If.field-0 c.in-If.body c.in-If.other ∙ ap (λ xs. choosing (model.If (typed_expr_view c.in-If.field-0)) (block (typed_stmts_view xs) (block (else_block c.in-If.other) no_blocks))) (sym c.as_slice-in-If.ensures.value))
    c.in_ok-push_form-in-If.ensures c.in_ok-walk_all-in-If.ensures c.in_ok-walk_otherwise-in-If.ensures

pub walk_form-walk_loop-requires : goal.walk_form-walk_loop-requires
walk_form-walk_loop-requires t c =
    let e = size_of c.args.form.now (For c.in-For.field-0 c.in-For.field-1 c.in-For.body) _ c.in-For.is (for_view c.in-For.field-0 c.in-For.field-1 c.in-For.body ∙ ap (λ xs. repeating (model.For (typed_path_view c.in-For.field-0) (typed_path_view c.in-For.field-1)) (typed_stmts_view xs)) (sym c.as_slice-in-For.ensures.value)) in
    omega (arith, e, c.decreases)

pub walk_form-returns-in_ok-walk_loop-in-For : goal.walk_form-returns-in_ok-walk_loop-in-For
walk_form-returns-in_ok-walk_loop-in-For t c =
    repeated c.args.form.now (For c.in-For.field-0 c.in-For.field-1 c.in-For.body) _ _ _ _ c.in-For.is (for_view c.in-For.field-0 c.in-For.field-1 c.in-For.body ∙ ap (λ xs. repeating (model.For (typed_path_view c.in-For.field-0) (typed_path_view c.in-For.field-1)) (typed_stmts_view xs)) (sym c.as_slice-in-For.ensures.value))
    c.in_ok-walk_loop-in-For.ensures

pub walk_form-walk_loop-requires-in-While : goal.walk_form-walk_loop-requires-in-While
walk_form-walk_loop-requires-in-While t c =
    let e = size_of c.args.form.now (While c.in-While.field-0 c.in-While.body) _ c.in-While.is (while_view c.in-While.field-0 c.in-While.body ∙ ap (λ xs. repeating (model.While (typed_expr_view c.in-While.field-0)) (typed_stmts_view xs)) (sym c.as_slice-in-While.ensures.value)) in
    omega (arith, e, c.decreases)

pub walk_form-returns-in_ok-walk_loop-in-While : goal.walk_form-returns-in_ok-walk_loop-in-While
walk_form-returns-in_ok-walk_loop-in-While t c =
    repeated c.args.form.now (While c.in-While.field-0 c.in-While.body) _ _ _ _ c.in-While.is (while_view c.in-While.field-0 c.in-While.body ∙ ap (λ xs. repeating (model.While (typed_expr_view c.in-While.field-0)) (typed_stmts_view xs)) (sym c.as_slice-in-While.ensures.value))
    c.in_ok-walk_loop-in-While.ensures

pub walk_form-walk_all-requires-in-Try : goal.walk_form-walk_all-requires-in-Try
walk_form-walk_all-requires-in-Try t c =
    let e = size_of c.args.form.now (Try c.in-Try.body c.in-Try.handled) _ c.in-Try.is (try_view c.in-Try.body c.in-Try.handled ∙ ap (λ xs. trying (typed_stmts_view xs) (handlers_list c.in-Try.handled.items)) (sym c.as_slice-in-Try.ensures.value)) in
    omega (arith, e, c.decreases)

pub walk_form-walk_handled-requires : goal.walk_form-walk_handled-requires
walk_form-walk_handled-requires t c =
    let e = size_of c.args.form.now (Try c.in-Try.body c.in-Try.handled) _ c.in-Try.is (try_view c.in-Try.body c.in-Try.handled ∙ ap (λ xs. trying (typed_stmts_view c.in-Try.body.items) (handlers_list xs)) (sym c.as_slice-in-Try-2.ensures.value)) in
    omega (arith, e, c.decreases)

pub walk_form-returns-in_ok-walk_handled-in-Try : goal.walk_form-returns-in_ok-walk_handled-in-Try
walk_form-returns-in_ok-walk_handled-in-Try t c =
    tried c.args.form.now (Try c.in-Try.body c.in-Try.handled) _ _ _ _ _ _ c.in-Try.is (try_view c.in-Try.body c.in-Try.handled ∙ ap₂ (λ xs ys. trying (typed_stmts_view xs) (handlers_list ys)) (sym c.as_slice-in-Try.ensures.value) (sym c.as_slice-in-Try-2.ensures.value))
    c.in_ok-count-in-Try.ensures.counted c.in_ok-walk_all-in-Try.ensures c.in_ok-walk_handled-in-Try.ensures
