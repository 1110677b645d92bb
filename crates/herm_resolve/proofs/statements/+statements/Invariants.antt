use Rattle.std.proofs.Common.{◌≡◌, ◌+◌, ◌*◌, ◌++◌, ◌∷◌, [], length, map, take, drop}
use Rattle.herm_naming.specs.Numbers.{part_number, type_seen, exception_number}
use Rattle.herm_typed.specs.View.{typed_path_view}
use Rattle.herm_numbers.specs.View.{scope_view}
use Rattle.herm_numbers.specs.Faults.{codes_found, spans_found, spans_within, body_spans}
use Rattle.herm_numbers.specs.Statements.{meant, written, arms_meant, arms_written, handlers_meant, port_arms_meant, port_arms_written, body_codes, arms_codes, port_arms_codes, all_spans, all_port_spans, else_spans}
use Rattle.herm_typed.specs.Beside.{port_arm_types}
use Rattle.herm_numbers.specs.Beside.{port_arm_seen}
use Rattle.herm_resolve.specs.Entries.{typed_entries, written_entries}
use Rattle.herm_resolve.proofs.statements.+statements.Given as goal

-- Each invariant: what was numbered so far, and what was found so far joined with what is left is the whole.
abbrev pub invariant-case_arms-arms : goal.invariant-case_arms-arms
invariant-case_arms-arms l = record {
  meaning : arms_meant l.done.items ≡ arms_written (scope_view l.scope) (part_number l.scope.types.now (type_seen (scope_view l.scope) (typed_path_view l.v))) (take l.name-index l.arms);
  codes : codes_found l.found.items ++ arms_codes (scope_view l.scope) l.in_loop (drop l.name-index l.arms) ≡ codes_found l.fn.found.items ++ arms_codes (scope_view l.scope) l.in_loop l.arms;
  spans : spans_found l.found.items ++ all_spans (drop l.name-index l.arms) ≡ spans_found l.fn.found.items ++ all_spans l.arms;
  entries : map (λ a. map typed_entries a.1.items) l.done.items ≡ map (λ a. map (written_entries (scope_view l.scope)) a.1.items) (take l.name-index l.arms);
}

abbrev pub invariant-handlers-arms : goal.invariant-handlers-arms
invariant-handlers-arms l = record {
  meaning : handlers_meant l.done.items ≡ arms_written (scope_view l.scope) (exception_number l.scope.types.now) (take l.name-index l.arms);
  codes : codes_found l.found.items ++ arms_codes (scope_view l.scope) l.in_loop (drop l.name-index l.arms) ≡ codes_found l.fn.found.items ++ arms_codes (scope_view l.scope) l.in_loop l.arms;
  spans : spans_found l.found.items ++ all_spans (drop l.name-index l.arms) ≡ spans_found l.fn.found.items ++ all_spans l.arms;
  entries : map (λ a. map typed_entries a.1.items) l.done.items ≡ map (λ a. map (written_entries (scope_view l.scope)) a.1.items) (take l.name-index l.arms);
}

abbrev pub invariant-port_arms-arms : goal.invariant-port_arms-arms
invariant-port_arms-arms l = record {
  meaning : port_arms_meant l.done.items ≡ port_arms_written (scope_view l.scope) (take l.port-index l.arms);
  codes : codes_found l.found.items ++ port_arms_codes (scope_view l.scope) l.in_loop (drop l.port-index l.arms) ≡ codes_found l.fn.found.items ++ port_arms_codes (scope_view l.scope) l.in_loop l.arms;
  spans : spans_found l.found.items ++ all_port_spans (drop l.port-index l.arms) ≡ spans_found l.fn.found.items ++ all_port_spans l.arms;
  entries : map (λ a. map typed_entries a.2.items) l.done.items ≡ map (λ a. map (written_entries (scope_view l.scope)) a.2.items) (take l.port-index l.arms);
  types : map port_arm_types l.done.items ≡ map (port_arm_seen (scope_view l.scope)) l.done.items;
}

abbrev pub invariant-block-statements : goal.invariant-block-statements
invariant-block-statements l = record {
  meaning : meant l.done.items ≡ written (scope_view l.scope) (take l.s-index l.list);
  codes : codes_found l.found.items ++ body_codes (scope_view l.scope) l.in_loop (drop l.s-index l.list) ≡ codes_found l.fn.found.items ++ body_codes (scope_view l.scope) l.in_loop l.list;
  spans : spans_found l.found.items ++ body_spans (drop l.s-index l.list) ≡ spans_found l.fn.found.items ++ body_spans l.list;
  entries : map typed_entries l.done.items ≡ map (written_entries (scope_view l.scope)) (take l.s-index l.list);
}

-- The measures: statements within, and how far the call is from them.
abbrev pub decreases-case_arms : goal.decreases-case_arms
decreases-case_arms l = 6 * length (all_spans l.arms.now) + 3

abbrev pub decreases-handlers : goal.decreases-handlers
decreases-handlers l = 6 * length (all_spans l.arms.now) + 3

abbrev pub decreases-port_arms : goal.decreases-port_arms
decreases-port_arms l = 6 * length (all_port_spans l.arms.now) + 3

abbrev pub decreases-otherwise : goal.decreases-otherwise
decreases-otherwise l = 6 * length (else_spans l.other.now) + 3

abbrev pub decreases-case_form : goal.decreases-case_form
decreases-case_form l = 6 * length (all_spans l.arms.now) + 4

abbrev pub decreases-select_form : goal.decreases-select_form
decreases-select_form l = 6 * length (all_port_spans l.arms.now) + 4

abbrev pub decreases-for_form : goal.decreases-for_form
decreases-for_form l = 6 * length (body_spans l.body.now) + 4

abbrev pub decreases-while_form : goal.decreases-while_form
decreases-while_form l = 6 * length (body_spans l.body.now) + 4

abbrev pub decreases-if_form : goal.decreases-if_form
decreases-if_form l = 6 * length (body_spans l.body.now ++ else_spans l.other.now) + 4

abbrev pub decreases-try_form : goal.decreases-try_form
decreases-try_form l = 6 * length (body_spans l.body.now ++ all_spans l.handled.now) + 4

abbrev pub decreases-form : goal.decreases-form
decreases-form l = 6 * length (spans_within l.form.now) + 5

abbrev pub decreases-statement : goal.decreases-statement
decreases-statement l = 6 * length (body_spans (l.s.now ∷ []))

abbrev pub decreases-block : goal.decreases-block
decreases-block l = 6 * length (body_spans l.list.now) + 1
