use Rattle.std.proofs.Common.{◌≡◌, [], map, flat_map, drop}
use Rattle.herm_model.specs.Nodes.{process_nodes}
use Rattle.herm_typed.specs.View.{typed_process_view}
use Rattle.herm_translated.specs.Constants.{literals_in}
use Rattle.herm_fronts.specs.Shared.{shared}
use Rattle.herm_fronts.specs.View.{key_view}
use Rattle.herm_codegen.proofs.program.literals_of.Given as goal

abbrev pub invariant-processes : goal.invariant-processes
invariant-processes l =
    shared (map key_view l.keys.keys) (flat_map literals_in (flat_map (λ c. map (λ n. n.form) (process_nodes (typed_process_view c.process.now))) (drop l.checked-index l.processes)))
    ≡ shared [] (flat_map literals_in (flat_map (λ c. map (λ n. n.form) (process_nodes (typed_process_view c.process.now))) l.processes))
