use Rattle.std.proofs.Common.{◌≡◌, ◌<◌, ◌++◌, ◌∷◌, [], map, flat_map, length, None, true, sym, ap, ap₂, ◌∙◌, arith}
use Rattle.std.proofs.lemmas.List.{length-map, map-append}
use Rattle.herm_syntax.specs.Trees as trees
use Rattle.herm_syntax.specs.ReadStatements.{arms_of, port_arms_of}
use Rattle.herm_syntax.specs.View.{path_form_view, expr_view, stmt_form_view, stmts_view}
use Rattle.herm_syntax.specs.declared.statements.Stmt.{out-Stmt}
use Rattle.herm_syntax.specs.declared.statements.StmtForm.{Case, For, If, While, Try, Select}
use Rattle.herm_naming.specs.StatementFaults.{within}
use Rattle.herm_numbers.specs.View.{scope_view}
use Rattle.herm_numbers.specs.Faults.{found_code_view, codes_found, spans_found, spans_within, body_spans}
use Rattle.herm_numbers.specs.Statements.{arm_view, port_arm_view, else_view, codes_of, body_codes, arms_codes, port_arms_codes, else_codes, all_spans, all_port_spans, else_spans}
use Rattle.herm_numbers.proofs.Written.{case_seen, case_codes, case_spans, for_seen, for_codes, for_spans, select_seen, select_codes, select_spans, if_seen, if_codes, if_spans, while_seen, while_codes, while_spans, try_seen, try_codes, try_spans}
use Rattle.herm_resolve.proofs.Meant.{case_meaning, for_meaning, select_meaning, if_meaning, while_meaning, try_meaning}
use Rattle.herm_resolve.proofs.Joined.{number_by, codes_by, spans_by}
use Rattle.herm_numbers.specs.Within.{items_of}
use Rattle.herm_resolve.specs.Entries.{written_entries}
use Rattle.herm_resolve.proofs.Entries.{case_entries, select_entries, for_entries, while_entries, if_entries, try_entries, case_texts, select_texts, for_texts, while_texts, if_texts, try_texts, entries_by}
use Rattle.herm_resolve.proofs.Placed.{coded, is_placed}
use Rattle.herm_resolve.proofs.statements.+statements.Goals as goal

pub case_form-returns-clause-meaning : goal.case_form-returns-clause-meaning
case_form-returns-clause-meaning t c = case_meaning (scope_view c.args.scope.now) c.in_ok-v.v c.in_ok-arms.arms (path_form_view c.args.v.now) c.args.arms.now c.in_ok-v.ensures.path c.in_ok-arms.ensures.meaning

pub for_form-returns-clause-meaning : goal.for_form-returns-clause-meaning
for_form-returns-clause-meaning t c = for_meaning (scope_view c.args.scope.now) c.in_ok-r.r c.in_ok-t.t c.in_ok-body.body (path_form_view c.args.r.now) (path_form_view c.args.t.now) c.args.body.now c.in_ok-r.ensures.path c.in_ok-t.ensures.path c.in_ok-body.ensures.meaning

pub select_form-returns-clause-meaning : goal.select_form-returns-clause-meaning
select_form-returns-clause-meaning t c = select_meaning (scope_view c.args.scope.now) c.in_ok-arms.arms c.args.arms.now c.in_ok-arms.ensures.meaning

pub if_form-returns-clause-meaning : goal.if_form-returns-clause-meaning
if_form-returns-clause-meaning t c = if_meaning (scope_view c.args.scope.now) c.in_ok-e.e c.in_ok-body.body c.in_ok-other.other (expr_view c.args.e.now) c.args.body.now c.args.other.now c.in_ok-e.ensures.meaning c.in_ok-body.ensures.meaning c.in_ok-other.ensures.meaning

pub while_form-returns-clause-meaning : goal.while_form-returns-clause-meaning
while_form-returns-clause-meaning t c = while_meaning (scope_view c.args.scope.now) c.in_ok-e.e c.in_ok-body.body (expr_view c.args.e.now) c.args.body.now c.in_ok-e.ensures.meaning c.in_ok-body.ensures.meaning

pub try_form-returns-clause-meaning : goal.try_form-returns-clause-meaning
try_form-returns-clause-meaning t c = try_meaning (scope_view c.args.scope.now) c.in_ok-body.body c.in_ok-handled.handled c.args.body.now c.args.handled.now c.in_ok-body.ensures.meaning c.in_ok-handled.ensures.meaning

pub form-returns-in_ok-f-in-Case-clause-meaning : goal.form-returns-in_ok-f-in-Case-clause-meaning
form-returns-in_ok-f-in-Case-clause-meaning t c = number_by (scope_view c.args.scope.now) c.args.form.now (Case c.in-Case.v c.in-Case.arms) _ _ c.in-Case.is (case_seen c.in-Case.v c.in-Case.arms ∙ ap (λ list. trees.Case (path_form_view c.in-Case.v) (arms_of (map arm_view list))) (sym c.as_slice-case_list.ensures.value)) c.in_ok-f-in-Case.ensures.meaning

pub form-returns-in_ok-f-in-Case-clause-codes : goal.form-returns-in_ok-f-in-Case-clause-codes
form-returns-in_ok-f-in-Case-clause-codes t c = codes_by (scope_view c.args.scope.now) c.args.in_loop c.args.form.now (Case c.in-Case.v c.in-Case.arms) _ _ _ c.in-Case.is (case_codes (scope_view c.args.scope.now) c.args.in_loop c.in-Case.v c.in-Case.arms ∙ ap (λ list. arms_codes (scope_view c.args.scope.now) c.args.in_loop list) (sym c.as_slice-case_list.ensures.value)) c.in_ok-f-in-Case.ensures.codes

pub form-returns-in_ok-f-in-Case-clause-spans : goal.form-returns-in_ok-f-in-Case-clause-spans
form-returns-in_ok-f-in-Case-clause-spans t c = spans_by c.args.form.now (Case c.in-Case.v c.in-Case.arms) _ _ _ c.in-Case.is (case_spans c.in-Case.v c.in-Case.arms ∙ ap (λ list. all_spans list) (sym c.as_slice-case_list.ensures.value)) c.in_ok-f-in-Case.ensures.spans

pub form-returns-in_ok-f-in-For-clause-meaning : goal.form-returns-in_ok-f-in-For-clause-meaning
form-returns-in_ok-f-in-For-clause-meaning t c = number_by (scope_view c.args.scope.now) c.args.form.now (For c.in-For.r c.in-For.t c.in-For.body) _ _ c.in-For.is (for_seen c.in-For.r c.in-For.t c.in-For.body ∙ ap (λ list. trees.For (path_form_view c.in-For.r) (path_form_view c.in-For.t) (stmts_view list)) (sym c.as_slice-for_list.ensures.value)) c.in_ok-f-in-For.ensures.meaning

pub form-returns-in_ok-f-in-For-clause-codes : goal.form-returns-in_ok-f-in-For-clause-codes
form-returns-in_ok-f-in-For-clause-codes t c = codes_by (scope_view c.args.scope.now) c.args.in_loop c.args.form.now (For c.in-For.r c.in-For.t c.in-For.body) _ _ _ c.in-For.is (for_codes (scope_view c.args.scope.now) c.args.in_loop c.in-For.r c.in-For.t c.in-For.body ∙ ap (λ list. body_codes (scope_view c.args.scope.now) true list) (sym c.as_slice-for_list.ensures.value)) c.in_ok-f-in-For.ensures.codes

pub form-returns-in_ok-f-in-For-clause-spans : goal.form-returns-in_ok-f-in-For-clause-spans
form-returns-in_ok-f-in-For-clause-spans t c = spans_by c.args.form.now (For c.in-For.r c.in-For.t c.in-For.body) _ _ _ c.in-For.is (for_spans c.in-For.r c.in-For.t c.in-For.body ∙ ap (λ list. body_spans list) (sym c.as_slice-for_list.ensures.value)) c.in_ok-f-in-For.ensures.spans

pub form-returns-in_ok-f-in-Select-clause-meaning : goal.form-returns-in_ok-f-in-Select-clause-meaning
form-returns-in_ok-f-in-Select-clause-meaning t c = number_by (scope_view c.args.scope.now) c.args.form.now (Select c.in-Select.arms) _ _ c.in-Select.is (select_seen c.in-Select.arms ∙ ap (λ list. trees.Select (port_arms_of (map port_arm_view list))) (sym c.as_slice-ports.ensures.value)) c.in_ok-f-in-Select.ensures.meaning

pub form-returns-in_ok-f-in-Select-clause-codes : goal.form-returns-in_ok-f-in-Select-clause-codes
form-returns-in_ok-f-in-Select-clause-codes t c = codes_by (scope_view c.args.scope.now) c.args.in_loop c.args.form.now (Select c.in-Select.arms) _ _ _ c.in-Select.is (select_codes (scope_view c.args.scope.now) c.args.in_loop c.in-Select.arms ∙ ap (λ list. port_arms_codes (scope_view c.args.scope.now) c.args.in_loop list) (sym c.as_slice-ports.ensures.value)) c.in_ok-f-in-Select.ensures.codes

pub form-returns-in_ok-f-in-Select-clause-spans : goal.form-returns-in_ok-f-in-Select-clause-spans
form-returns-in_ok-f-in-Select-clause-spans t c = spans_by c.args.form.now (Select c.in-Select.arms) _ _ _ c.in-Select.is (select_spans c.in-Select.arms ∙ ap (λ list. all_port_spans list) (sym c.as_slice-ports.ensures.value)) c.in_ok-f-in-Select.ensures.spans

pub form-returns-in_ok-f-in-If-clause-meaning : goal.form-returns-in_ok-f-in-If-clause-meaning
form-returns-in_ok-f-in-If-clause-meaning t c = number_by (scope_view c.args.scope.now) c.args.form.now (If c.in-If.e c.in-If.body c.in-If.other) _ _ c.in-If.is (if_seen c.in-If.e c.in-If.body c.in-If.other ∙ ap (λ list. trees.If (expr_view c.in-If.e) (stmts_view list) (else_view c.in-If.other)) (sym c.as_slice-if_list.ensures.value)) c.in_ok-f-in-If.ensures.meaning

pub form-returns-in_ok-f-in-If-clause-codes : goal.form-returns-in_ok-f-in-If-clause-codes
form-returns-in_ok-f-in-If-clause-codes t c = codes_by (scope_view c.args.scope.now) c.args.in_loop c.args.form.now (If c.in-If.e c.in-If.body c.in-If.other) _ _ _ c.in-If.is (if_codes (scope_view c.args.scope.now) c.args.in_loop c.in-If.e c.in-If.body c.in-If.other ∙ ap (λ list. body_codes (scope_view c.args.scope.now) c.args.in_loop list ++ else_codes (scope_view c.args.scope.now) c.args.in_loop c.in-If.other) (sym c.as_slice-if_list.ensures.value)) c.in_ok-f-in-If.ensures.codes

pub form-returns-in_ok-f-in-If-clause-spans : goal.form-returns-in_ok-f-in-If-clause-spans
form-returns-in_ok-f-in-If-clause-spans t c = spans_by c.args.form.now (If c.in-If.e c.in-If.body c.in-If.other) _ _ _ c.in-If.is (if_spans c.in-If.e c.in-If.body c.in-If.other ∙ ap (λ list. body_spans list ++ else_spans c.in-If.other) (sym c.as_slice-if_list.ensures.value)) c.in_ok-f-in-If.ensures.spans

pub form-returns-in_ok-f-in-While-clause-meaning : goal.form-returns-in_ok-f-in-While-clause-meaning
form-returns-in_ok-f-in-While-clause-meaning t c = number_by (scope_view c.args.scope.now) c.args.form.now (While c.in-While.e c.in-While.body) _ _ c.in-While.is (while_seen c.in-While.e c.in-While.body ∙ ap (λ list. trees.While (expr_view c.in-While.e) (stmts_view list)) (sym c.as_slice-while_list.ensures.value)) c.in_ok-f-in-While.ensures.meaning

pub form-returns-in_ok-f-in-While-clause-codes : goal.form-returns-in_ok-f-in-While-clause-codes
form-returns-in_ok-f-in-While-clause-codes t c = codes_by (scope_view c.args.scope.now) c.args.in_loop c.args.form.now (While c.in-While.e c.in-While.body) _ _ _ c.in-While.is (while_codes (scope_view c.args.scope.now) c.args.in_loop c.in-While.e c.in-While.body ∙ ap (λ list. body_codes (scope_view c.args.scope.now) true list) (sym c.as_slice-while_list.ensures.value)) c.in_ok-f-in-While.ensures.codes

pub form-returns-in_ok-f-in-While-clause-spans : goal.form-returns-in_ok-f-in-While-clause-spans
form-returns-in_ok-f-in-While-clause-spans t c = spans_by c.args.form.now (While c.in-While.e c.in-While.body) _ _ _ c.in-While.is (while_spans c.in-While.e c.in-While.body ∙ ap (λ list. body_spans list) (sym c.as_slice-while_list.ensures.value)) c.in_ok-f-in-While.ensures.spans

pub form-returns-in_ok-f-in-Try-clause-meaning : goal.form-returns-in_ok-f-in-Try-clause-meaning
form-returns-in_ok-f-in-Try-clause-meaning t c = number_by (scope_view c.args.scope.now) c.args.form.now (Try c.in-Try.body c.in-Try.handled) _ _ c.in-Try.is (try_seen c.in-Try.body c.in-Try.handled ∙ ap₂ (λ list arms. trees.Try (stmts_view list) (arms_of (map arm_view arms))) (sym c.as_slice-try_list.ensures.value) (sym c.as_slice-handlers_list.ensures.value)) c.in_ok-f-in-Try.ensures.meaning

pub form-returns-in_ok-f-in-Try-clause-codes : goal.form-returns-in_ok-f-in-Try-clause-codes
form-returns-in_ok-f-in-Try-clause-codes t c = codes_by (scope_view c.args.scope.now) c.args.in_loop c.args.form.now (Try c.in-Try.body c.in-Try.handled) _ _ _ c.in-Try.is (try_codes (scope_view c.args.scope.now) c.args.in_loop c.in-Try.body c.in-Try.handled ∙ ap₂ (λ list arms. body_codes (scope_view c.args.scope.now) c.args.in_loop list ++ arms_codes (scope_view c.args.scope.now) c.args.in_loop arms) (sym c.as_slice-try_list.ensures.value) (sym c.as_slice-handlers_list.ensures.value)) c.in_ok-f-in-Try.ensures.codes

pub form-returns-in_ok-f-in-Try-clause-spans : goal.form-returns-in_ok-f-in-Try-clause-spans
form-returns-in_ok-f-in-Try-clause-spans t c = spans_by c.args.form.now (Try c.in-Try.body c.in-Try.handled) _ _ _ c.in-Try.is (try_spans c.in-Try.body c.in-Try.handled ∙ ap₂ (λ list arms. body_spans list ++ all_spans arms) (sym c.as_slice-try_list.ensures.value) (sym c.as_slice-handlers_list.ensures.value)) c.in_ok-f-in-Try.ensures.spans

pub statement-set_code-requires : goal.statement-set_code-requires
statement-set_code-requires t c =
    let pushed : codes_found c.push.new.self.items ≡ codes_found c.args.found.now.items ++ (None ∷ []) = ap codes_found c.in_ok-push.ensures.items ∙ map-append (λ j. found_code_view j.code) c.args.found.now.items _ in
    let below : length c.args.found.now.items < length c.form.new.found.items = is_placed c.args.found.now.items c.form.new.found.items (codes_found c.push.new.self.items) _ None pushed c.in_ok-typed.ensures.codes in
    record { there = omega (arith, below, c.len-place.ensures) }

pub statement-returns-clause-codes : goal.statement-returns-clause-codes
statement-returns-clause-codes t c =
    let pushed : codes_found c.push.new.self.items ≡ codes_found c.args.found.now.items ++ (None ∷ []) = ap codes_found c.in_ok-push.ensures.items ∙ map-append (λ j. found_code_view j.code) c.args.found.now.items _ in
    coded (codes_found c.args.found.now.items) (codes_found c.push.new.self.items) (codes_found c.form.new.found.items) _ (codes_of (scope_view c.args.scope.now) (within c.args.in_loop (stmt_form_view (out-Stmt c.args.s.now).form))) c.len-place.result None (found_code_view c.in_ok-code.code)
    (let l = length-map c.args.found.now.items (λ j. found_code_view j.code) in omega (arith, c.len-place.ensures, l)) pushed c.in_ok-typed.ensures.codes c.set_code.ensures.codes
    ∙ ap (λ d. codes_found c.args.found.now.items ++ ((d ∷ codes_of (scope_view c.args.scope.now) (within c.args.in_loop (stmt_form_view (out-Stmt c.args.s.now).form))) ++ [])) c.in_ok-code.ensures.code

pub form-case_form-requires : goal.form-case_form-requires
form-case_form-requires t c =
    let e : length (spans_within c.args.form.now) ≡ length (all_spans c.as_slice-case_list.result.now) = ap (λ x. length (spans_within x)) c.in-Case.is ∙ (ap length (case_spans c.in-Case.v c.in-Case.arms) ∙ ap (λ list. length (all_spans list)) (sym c.as_slice-case_list.ensures.value)) in
    (omega (arith, e, c.decreases), c.requires.known)

pub form-for_form-requires : goal.form-for_form-requires
form-for_form-requires t c =
    let e : length (spans_within c.args.form.now) ≡ length (body_spans c.as_slice-for_list.result.now) = ap (λ x. length (spans_within x)) c.in-For.is ∙ (ap length (for_spans c.in-For.r c.in-For.t c.in-For.body) ∙ ap (λ list. length (body_spans list)) (sym c.as_slice-for_list.ensures.value)) in
    (omega (arith, e, c.decreases), c.requires.known)

pub form-while_form-requires : goal.form-while_form-requires
form-while_form-requires t c =
    let e : length (spans_within c.args.form.now) ≡ length (body_spans c.as_slice-while_list.result.now) = ap (λ x. length (spans_within x)) c.in-While.is ∙ (ap length (while_spans c.in-While.e c.in-While.body) ∙ ap (λ list. length (body_spans list)) (sym c.as_slice-while_list.ensures.value)) in
    (omega (arith, e, c.decreases), c.requires.known)

pub form-if_form-requires : goal.form-if_form-requires
form-if_form-requires t c =
    let e : length (spans_within c.args.form.now) ≡ length (body_spans c.as_slice-if_list.result.now ++ else_spans c.in-If.other) = ap (λ x. length (spans_within x)) c.in-If.is ∙ (ap length (if_spans c.in-If.e c.in-If.body c.in-If.other) ∙ ap (λ list. length (body_spans list ++ else_spans c.in-If.other)) (sym c.as_slice-if_list.ensures.value)) in
    (omega (arith, e, c.decreases), c.requires.known)

pub form-try_form-requires : goal.form-try_form-requires
form-try_form-requires t c =
    let e : length (spans_within c.args.form.now) ≡ length (body_spans c.as_slice-try_list.result.now ++ all_spans c.as_slice-handlers_list.result.now) =
    ap (λ x. length (spans_within x)) c.in-Try.is ∙ (ap length (try_spans c.in-Try.body c.in-Try.handled) ∙ ap₂ (λ list arms. length (body_spans list ++ all_spans arms)) (sym c.as_slice-try_list.ensures.value) (sym c.as_slice-handlers_list.ensures.value)) in
    (omega (arith, e, c.decreases), c.requires.known)

pub case_form-returns-clause-entries : goal.case_form-returns-clause-entries
case_form-returns-clause-entries t c = case_entries (scope_view c.args.scope.now) c.in_ok-v.v c.in_ok-arms.arms c.args.arms.now c.in_ok-arms.ensures.entries

pub select_form-returns-clause-entries : goal.select_form-returns-clause-entries
select_form-returns-clause-entries t c = select_entries (scope_view c.args.scope.now) c.in_ok-arms.arms c.args.arms.now c.in_ok-arms.ensures.entries

pub for_form-returns-clause-entries : goal.for_form-returns-clause-entries
for_form-returns-clause-entries t c = for_entries (scope_view c.args.scope.now) c.in_ok-r.r c.in_ok-t.t c.in_ok-body.body c.args.body.now c.in_ok-body.ensures.entries

pub while_form-returns-clause-entries : goal.while_form-returns-clause-entries
while_form-returns-clause-entries t c = while_entries (scope_view c.args.scope.now) c.in_ok-e.e c.in_ok-body.body c.args.body.now c.in_ok-body.ensures.entries

pub if_form-returns-clause-entries : goal.if_form-returns-clause-entries
if_form-returns-clause-entries t c = if_entries (scope_view c.args.scope.now) c.in_ok-e.e c.in_ok-body.body c.in_ok-other.other c.args.body.now c.args.other.now c.in_ok-body.ensures.entries c.in_ok-other.ensures.entries

pub try_form-returns-clause-entries : goal.try_form-returns-clause-entries
try_form-returns-clause-entries t c = try_entries (scope_view c.args.scope.now) c.in_ok-body.body c.in_ok-handled.handled c.args.body.now c.args.handled.now c.in_ok-body.ensures.entries c.in_ok-handled.ensures.entries

pub form-returns-in_ok-f-in-Case-clause-entries : goal.form-returns-in_ok-f-in-Case-clause-entries
form-returns-in_ok-f-in-Case-clause-entries t c = entries_by (scope_view c.args.scope.now) c.args.form.now (Case c.in-Case.v c.in-Case.arms) _ _ c.in-Case.is (case_texts (scope_view c.args.scope.now) c.in-Case.v c.in-Case.arms ∙ ap (flat_map (λ a. flat_map (written_entries (scope_view c.args.scope.now)) a.1.items)) (sym c.as_slice-case_list.ensures.value)) c.in_ok-f-in-Case.ensures.entries

pub form-returns-in_ok-f-in-For-clause-entries : goal.form-returns-in_ok-f-in-For-clause-entries
form-returns-in_ok-f-in-For-clause-entries t c = entries_by (scope_view c.args.scope.now) c.args.form.now (For c.in-For.r c.in-For.t c.in-For.body) _ _ c.in-For.is (for_texts (scope_view c.args.scope.now) c.in-For.r c.in-For.t c.in-For.body ∙ ap (flat_map (written_entries (scope_view c.args.scope.now))) (sym c.as_slice-for_list.ensures.value)) c.in_ok-f-in-For.ensures.entries

pub form-returns-in_ok-f-in-Select-clause-entries : goal.form-returns-in_ok-f-in-Select-clause-entries
form-returns-in_ok-f-in-Select-clause-entries t c = entries_by (scope_view c.args.scope.now) c.args.form.now (Select c.in-Select.arms) _ _ c.in-Select.is (select_texts (scope_view c.args.scope.now) c.in-Select.arms ∙ ap (flat_map (λ a. flat_map (written_entries (scope_view c.args.scope.now)) a.2.items)) (sym c.as_slice-ports.ensures.value)) c.in_ok-f-in-Select.ensures.entries

pub form-returns-in_ok-f-in-If-clause-entries : goal.form-returns-in_ok-f-in-If-clause-entries
form-returns-in_ok-f-in-If-clause-entries t c = entries_by (scope_view c.args.scope.now) c.args.form.now (If c.in-If.e c.in-If.body c.in-If.other) _ _ c.in-If.is (if_texts (scope_view c.args.scope.now) c.in-If.e c.in-If.body c.in-If.other ∙ ap (λ list. flat_map (written_entries (scope_view c.args.scope.now)) list ++ flat_map (written_entries (scope_view c.args.scope.now)) (items_of c.in-If.other)) (sym c.as_slice-if_list.ensures.value)) c.in_ok-f-in-If.ensures.entries

pub form-returns-in_ok-f-in-While-clause-entries : goal.form-returns-in_ok-f-in-While-clause-entries
form-returns-in_ok-f-in-While-clause-entries t c = entries_by (scope_view c.args.scope.now) c.args.form.now (While c.in-While.e c.in-While.body) _ _ c.in-While.is (while_texts (scope_view c.args.scope.now) c.in-While.e c.in-While.body ∙ ap (flat_map (written_entries (scope_view c.args.scope.now))) (sym c.as_slice-while_list.ensures.value)) c.in_ok-f-in-While.ensures.entries

pub form-returns-in_ok-f-in-Try-clause-entries : goal.form-returns-in_ok-f-in-Try-clause-entries
form-returns-in_ok-f-in-Try-clause-entries t c = entries_by (scope_view c.args.scope.now) c.args.form.now (Try c.in-Try.body c.in-Try.handled) _ _ c.in-Try.is (try_texts (scope_view c.args.scope.now) c.in-Try.body c.in-Try.handled ∙ ap₂ (λ list arms. flat_map (written_entries (scope_view c.args.scope.now)) list ++ flat_map (λ a. flat_map (written_entries (scope_view c.args.scope.now)) a.1.items) arms) (sym c.as_slice-try_list.ensures.value) (sym c.as_slice-handlers_list.ensures.value)) c.in_ok-f-in-Try.ensures.entries
