use Rattle.std.proofs.Common.{◌≡◌, map, take}
use Rattle.herm_defs.specs.View.{def_fault_view}
use Rattle.herm_compile.specs.SecondPhase.{definition_fault}
use Rattle.herm_compile.specs.View.{fault_view}
use Rattle.herm_compile.specs.Spots.{IsCursor}
use Rattle.herm_compile.proofs.definitions.definition_faults.Given as goal

abbrev pub invariant-faults : goal.invariant-faults
invariant-faults l = IsCursor (map (λ file. file.1.items) l.files) l.cursor × (map fault_view l.faults.items ≡ map (definition_fault (map (λ file. file.1.items) l.files) l.owners) (map def_fault_view (take l.fault-index l.list)))
