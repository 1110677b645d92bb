use Rattle.std.proofs.Common.{List, map, length, sym, ap, subst, ◌∙◌}
use Rattle.herm_model.specs.Lists.{IsIn}
use Rattle.herm_blocks.specs.declared.checked.CheckedProcess.{CheckedProcess}
use Rattle.herm_images.proofs.GivenProcesses.{accepted-alike, given-by, given-flows, given-names, program-is}
use Rattle.herm_images.proofs.images.code_of.Goals as goal

pub checked_processes-requires-clause-flows : goal.checked_processes-requires-clause-flows
checked_processes-requires-clause-flows c = ap length c.as_slice-2.ensures.value ∙ ((accepted-alike _ _ _ _ _ c.requires.accepted).flows ∙ sym (ap length c.as_slice.ensures.value))

pub checked_processes-requires-clause-labels : goal.checked_processes-requires-clause-labels
checked_processes-requires-clause-labels c = ap length c.as_slice-3.ensures.value ∙ ((accepted-alike _ _ _ _ _ c.requires.accepted).labels ∙ sym (ap length c.as_slice.ensures.value))

pub checked_processes-requires-clause-coercions : goal.checked_processes-requires-clause-coercions
checked_processes-requires-clause-coercions c = ap length c.as_slice-4.ensures.value ∙ ((accepted-alike _ _ _ _ _ c.requires.accepted).coercions ∙ sym (ap length c.as_slice.ensures.value))

pub generate-requires : goal.generate-requires
generate-requires c =
    let are = given-by c.args.accepted.now c.in_ok-checked.ensures.processes c.as_slice.ensures.value c.in_ok-checked.ensures.flows c.as_slice-2.ensures.value
    c.in_ok-checked.ensures.labels c.as_slice-3.ensures.value c.in_ok-checked.ensures.coercions c.as_slice-4.ensures.value in
    record { flows = λ x m. given-flows c.args.types.now.shapes c.args.program.now.processes.items c.args.accepted.now c.in_ok-checked.checked.items are c.requires.accepted x (subst (λ (xs : List CheckedProcess). IsIn x xs) c.as_slice-5.ensures.value m) }

pub returns-clause-image : goal.returns-clause-image
returns-clause-image c =
    let are = given-by c.args.accepted.now c.in_ok-checked.ensures.processes c.as_slice.ensures.value c.in_ok-checked.ensures.flows c.as_slice-2.ensures.value
    c.in_ok-checked.ensures.labels c.as_slice-3.ensures.value c.in_ok-checked.ensures.coercions c.as_slice-4.ensures.value in
    program-is c.args.types.now.shapes c.args.program.now c.args.accepted.now c.in_ok-checked.checked.items c.as_slice-5.result.now are c.as_slice-5.ensures.value _ c.in_ok-code.ensures.image

pub returns-clause-names : goal.returns-clause-names
returns-clause-names c =
    let are = given-by c.args.accepted.now c.in_ok-checked.ensures.processes c.as_slice.ensures.value c.in_ok-checked.ensures.flows c.as_slice-2.ensures.value
    c.in_ok-checked.ensures.labels c.as_slice-3.ensures.value c.in_ok-checked.ensures.coercions c.as_slice-4.ensures.value in
    c.in_ok-code.ensures.names
    ∙ (ap (map (λ (x : CheckedProcess). x.process.now.name.text)) c.as_slice-5.ensures.value
    ∙ given-names c.args.program.now.processes.items c.args.accepted.now c.in_ok-checked.checked.items are)
