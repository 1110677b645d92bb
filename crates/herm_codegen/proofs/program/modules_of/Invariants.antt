use Rattle.std.proofs.Common.{◌≡◌, ◌++◌, map, drop}
use Rattle.herm_translated.specs.Translated.{code_of}
use Rattle.herm_code.specs.View.{module_view}
use Rattle.herm_blocks.specs.CheckedProcesses.{checked_view}
use Rattle.herm_codegen.specs.Programs.{AllHaveFlows}
use Rattle.herm_fronts.specs.View.{key_view}
use Rattle.herm_codegen.proofs.program.modules_of.Given as goal

abbrev pub invariant-processes : goal.invariant-processes
invariant-processes l = record {
  code : map module_view l.found.items ++ map (code_of (map key_view l.keys.keys)) (map (checked_view l.types.shapes) (drop l.checked-index l.processes)) ≡ map (code_of (map key_view l.keys.keys)) (map (checked_view l.types.shapes) l.processes);
  names : map (λ m. m.name) l.found.items ++ map (λ c. c.process.now.name.text) (drop l.checked-index l.processes) ≡ map (λ c. c.process.now.name.text) l.processes;
}
