use Rattle.std.proofs.Common.{◌++◌, sym, ap, ap₂, ◌∙◌, arith, length-append}
use Rattle.herm_typed.specs.declared.statements.TypedForm.{Case, Select, For, If, While, Try}
use Rattle.herm_typed.specs.Within.{all_statements}
use Rattle.herm_words.specs.Rows.{all_in_arms, all_in_port_arms, all_otherwise}
use Rattle.herm_words.proofs.StatementsWithin.{for_within, while_within, if_within, case_within, select_within, try_within}
use Rattle.herm_words.proofs.Sizes.{within_size}
use Rattle.herm_words.proofs.Joined.{one_part, two_parts}
use Rattle.herm_words.proofs.sites.+sites.Goals as goal

pub push_within-returns-in_ok-push_arms-in-Case : goal.push_within-returns-in_ok-push_arms-in-Case
push_within-returns-in_ok-push_arms-in-Case t c = one_part c.args.form.now (Case c.in-Case.field-0 c.in-Case.arms) c.args.out.now.items c.push_arms.new.out.items _ c.in-Case.is (case_within c.in-Case.field-0 c.in-Case.arms ∙ ap all_in_arms (sym c.as_slice.ensures.value)) c.in_ok-push_arms-in-Case.ensures

pub push_within-returns-in_ok-push_all-in-For : goal.push_within-returns-in_ok-push_all-in-For
push_within-returns-in_ok-push_all-in-For t c = one_part c.args.form.now (For c.in-For.field-0 c.in-For.field-1 c.in-For.body) c.args.out.now.items c.push_all.new.out.items _ c.in-For.is (for_within c.in-For.field-0 c.in-For.field-1 c.in-For.body ∙ ap all_statements (sym c.as_slice-in-For.ensures.value)) c.in_ok-push_all-in-For.ensures

pub push_within-returns-in_ok-push_port_arms-in-Select : goal.push_within-returns-in_ok-push_port_arms-in-Select
push_within-returns-in_ok-push_port_arms-in-Select t c = one_part c.args.form.now (Select c.in-Select.arms) c.args.out.now.items c.push_port_arms.new.out.items _ c.in-Select.is (select_within c.in-Select.arms ∙ ap all_in_port_arms (sym c.as_slice-in-Select.ensures.value)) c.in_ok-push_port_arms-in-Select.ensures

pub push_within-returns-in_ok-push_otherwise-in-If : goal.push_within-returns-in_ok-push_otherwise-in-If
push_within-returns-in_ok-push_otherwise-in-If t c = two_parts c.args.form.now (If c.in-If.field-0 c.in-If.body c.in-If.other) c.args.out.now.items _ c.push_otherwise.new.out.items _ _ c.in-If.is (if_within c.in-If.field-0 c.in-If.body c.in-If.other ∙ ap (λ ts. all_statements ts ++ all_otherwise c.in-If.other) (sym c.as_slice-in-If.ensures.value)) c.in_ok-push_all-in-If.ensures c.in_ok-push_otherwise-in-If.ensures

pub push_within-returns-in_ok-push_all-in-While : goal.push_within-returns-in_ok-push_all-in-While
push_within-returns-in_ok-push_all-in-While t c = one_part c.args.form.now (While c.in-While.field-0 c.in-While.body) c.args.out.now.items c.push_all-in-While.new.out.items _ c.in-While.is (while_within c.in-While.field-0 c.in-While.body ∙ ap all_statements (sym c.as_slice-in-While.ensures.value)) c.in_ok-push_all-in-While.ensures

pub push_within-returns-in_ok-push_handlers-in-Try : goal.push_within-returns-in_ok-push_handlers-in-Try
push_within-returns-in_ok-push_handlers-in-Try t c = two_parts c.args.form.now (Try c.in-Try.body c.in-Try.handlers) c.args.out.now.items _ c.push_handlers.new.out.items _ _ c.in-Try.is (try_within c.in-Try.body c.in-Try.handlers ∙ ap₂ (λ ts us. all_statements ts ++ all_in_arms us) (sym c.as_slice-in-Try.ensures.value) (sym c.as_slice-in-Try-2.ensures.value)) c.in_ok-push_all-in-Try.ensures c.in_ok-push_handlers-in-Try.ensures

pub push_within-push_arms-requires : goal.push_within-push_arms-requires
push_within-push_arms-requires t c = let e = within_size c.args.form.now (Case c.in-Case.field-0 c.in-Case.arms) (all_in_arms c.as_slice.result.now) c.in-Case.is (case_within c.in-Case.field-0 c.in-Case.arms ∙ ap all_in_arms (sym c.as_slice.ensures.value)) in omega (arith, e, c.decreases)

pub push_within-push_all-requires : goal.push_within-push_all-requires
push_within-push_all-requires t c = let e = within_size c.args.form.now (For c.in-For.field-0 c.in-For.field-1 c.in-For.body) (all_statements c.as_slice-in-For.result.now) c.in-For.is (for_within c.in-For.field-0 c.in-For.field-1 c.in-For.body ∙ ap all_statements (sym c.as_slice-in-For.ensures.value)) in omega (arith, e, c.decreases)

pub push_within-push_all-requires-in-If : goal.push_within-push_all-requires-in-If
push_within-push_all-requires-in-If t c =
    let body = all_statements c.as_slice-in-If.result.now in
    let other = all_otherwise c.in-If.other in
    let e = within_size c.args.form.now (If c.in-If.field-0 c.in-If.body c.in-If.other) (body ++ other) c.in-If.is (if_within c.in-If.field-0 c.in-If.body c.in-If.other ∙ ap (λ ts. all_statements ts ++ other) (sym c.as_slice-in-If.ensures.value)) in
    let k = length-append body other in
    omega (arith, e, k, c.decreases)

pub push_within-push_all-requires-in-While : goal.push_within-push_all-requires-in-While
push_within-push_all-requires-in-While t c = let e = within_size c.args.form.now (While c.in-While.field-0 c.in-While.body) (all_statements c.as_slice-in-While.result.now) c.in-While.is (while_within c.in-While.field-0 c.in-While.body ∙ ap all_statements (sym c.as_slice-in-While.ensures.value)) in omega (arith, e, c.decreases)

pub push_within-push_handlers-requires : goal.push_within-push_handlers-requires
push_within-push_handlers-requires t c =
    let body = all_statements c.as_slice-in-Try.result.now in
    let handled = all_in_arms c.as_slice-in-Try-2.result.now in
    let e = within_size c.args.form.now (Try c.in-Try.body c.in-Try.handlers) (body ++ handled) c.in-Try.is (try_within c.in-Try.body c.in-Try.handlers ∙ ap₂ (λ ts us. all_statements ts ++ all_in_arms us) (sym c.as_slice-in-Try.ensures.value) (sym c.as_slice-in-Try-2.ensures.value)) in
    let k = length-append body handled in
    omega (arith, e, k, c.decreases)
