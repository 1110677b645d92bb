use Rattle.std.proofs.Common.{map, flat_map, drop, sym, ap, ◌+◌, ◌∙◌}
use Rattle.herm_translated.specs.Constants.{literals_in}
use Rattle.herm_fronts.specs.Shared.{shared}
use Rattle.herm_fronts.specs.View.{key_view}
use Rattle.herm_codegen.proofs.Literals.{forms_of, process_more}
use Rattle.herm_codegen.proofs.Steps.{left_is}
use Rattle.herm_codegen.proofs.program.literals_of.Goals as goal

pub processes-preserved : goal.processes-preserved
processes-preserved c =
    let left = left_is c.args.processes.now c.processes.checked-index c.checked-item.result c.processes-test.true c.checked-item.is in
    process_more (map key_view c.processes.keys.keys) (map key_view c.add_process.new.keys.keys) c.checked-item.result (drop (c.processes.checked-index + 1) c.args.processes.now) c.in_ok-add_process.ensures
    ∙ (ap (λ cs. shared (map key_view c.processes.keys.keys) (flat_map literals_in (flat_map forms_of cs))) (sym left) ∙ c.processes.invariant)
