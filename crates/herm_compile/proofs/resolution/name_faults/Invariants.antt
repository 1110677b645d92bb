use Rattle.std.proofs.Common.{◌≡◌, ◌++◌, map, drop}
use Rattle.herm_numbers.specs.Faults.{name_fault_view}
use Rattle.herm_compile.specs.ThirdPhase.{name_fault}
use Rattle.herm_compile.specs.View.{fault_view}
use Rattle.herm_compile.specs.Spots.{IsCursor}
use Rattle.herm_compile.proofs.resolution.name_faults.Given as goal

-- the cursor stands in its file, and the faults so far, joined with those of the rest, are those of all
abbrev pub invariant-faults : goal.invariant-faults
invariant-faults l =
    IsCursor (map (λ file. file.1.items) l.files) l.cursor
    × (map fault_view l.faults.items ++ map (name_fault (map (λ file. file.1.items) l.files) l.owners) (map name_fault_view (drop l.fault-index l.list))
    ≡ map (name_fault (map (λ file. file.1.items) l.files) l.owners) (map name_fault_view l.list))
