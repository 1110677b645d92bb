use Rattle.std.proofs.Common.{◌≡◌, ◌+◌, ◌∙◌, map, take, drop, ap, false}
use Rattle.herm_syntax.specs.View.{name_view, field_view}
use Rattle.herm_naming.specs.StatementFaults.{is_among, declaration_code}
use Rattle.herm_numbers.specs.Faults.{found_code_view, name_fault_view}
use Rattle.herm_numbers.proofs.Declared.{variables_next, declared_by}
use Rattle.herm_numbers.proofs.declarations.add_variables.Goals as goal

pub vars-preserved : goal.vars-preserved
vars-preserved c =
    let code : found_code_view c.declaration_code-code.result ≡ declaration_code c.args.types.now false (take (c.vars.place + 1) c.args.names.now) (field_view c.index-vars-place.result) = c.declaration_code-code.ensures.code ∙ ap (λ b. declared_by c.args.types.now (field_view c.index-vars-place.result) b) (c.is_declared-is_twice.ensures.among ∙ ap (λ n. is_among n (take (c.vars.place + 1) c.args.names.now)) c.bytes.ensures.bytes) in
    variables_next c.args.types.now c.args.module_number (name_view c.args.port.now.name) c.args.vars.now c.args.names.now c.vars.place c.index-vars-place.result (found_code_view c.declaration_code-code.result) (map name_fault_view c.vars.faults.items) (map name_fault_view c.add_fault.new.faults.items)
    c.vars-test.true c.index-vars-place.is c.requires.names code c.in_ok-add_fault.ensures.added
    ∙ c.vars.invariant
