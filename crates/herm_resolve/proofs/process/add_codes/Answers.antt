use Rattle.std.proofs.Common.{◌≡◌, ◌∷◌, ◌++◌, [], ◌||◌, cond, nat_lt, take, map, length, Some, None, true, sym, ap, ◌∙◌}
use Rattle.std.proofs.lemmas.List.{length-map}
use Rattle.herm_model.specs.Types.{all_parts, variable_paths}
use Rattle.herm_syntax.specs.View.{name_view, field_view}
use Rattle.herm_naming.specs.StatementFaults.{is_among, twice, too_many, declaration_code, variable_codes}
use Rattle.herm_naming.specs.RefusalsOfNames.{at_places}
use Rattle.herm_numbers.specs.Faults.{codes_found, spans_found, name_fault_view}
use Rattle.herm_resolve.proofs.Refusing.{three_parts, variable_count}
use Rattle.herm_resolve.proofs.process.add_codes.Goals as goal

pub returns : goal.returns
returns c =
    let k = c.args.known.now in
    let port = c.args.port.now in
    let vars = c.args.vars.now in
    let found = c.args.found.now in
    let large : c.is_too_large-is_large.result ≡ (nat_lt 1024 (length found) || nat_lt 4096 (length (variable_paths all_parts k.types.now.shapes (map (λ t. t.0) c.args.scope.now.of.items)))) =
    c.is_too_large-is_large.ensures.large ∙ ap (λ ts. nat_lt 1024 (length found) || nat_lt 4096 (length (variable_paths all_parts k.types.now.shapes (map (λ t. t.0) ts)))) c.as_slice.ensures.value in
    let codes = variable_codes k.types.now (name_view port.name ∷ []) (map field_view vars) in
    let count : length (map (λ d. (c.args.module_number, d.name.span)) vars) ≡ length codes = length-map vars _ ∙ (sym (length-map vars field_view) ∙ sym (variable_count k.types.now (name_view port.name ∷ []) (map field_view vars))) in
    let first = c.in_ok-add_head.ensures.added ∙ ap (λ b. map name_fault_view c.args.faults.now.items ++ at_places ((c.args.module_number, c.args.name.now.span) ∷ (c.args.module_number, port.name.span) ∷ [])
    (cond (is_among (name_view c.args.name.now) (take c.args.number k.processes)) (Some twice) (cond b (Some too_many) None) ∷ declaration_code k.types.now true [] (field_view port) ∷ [])) large in
    record {
      added = three_parts (map name_fault_view c.args.faults.now.items) _ (map name_fault_view c.add_variables.new.faults.items) (map name_fault_view c.add_found.new.faults.items) _ _ _ _
          (map (λ d. (c.args.module_number, d.name.span)) vars) (map (λ s. (c.args.module_number, s)) (spans_found found)) codes (codes_found found) count first c.in_ok-add_variables.ensures.added c.in_ok-add_found.ensures.added;
    }
