use Rattle.std.proofs.Common.{◌≡◌, map}
use Rattle.herm_accept.specs.Lacking.{lack_view}
use Rattle.herm_compile.specs.FourthPhase.{missing_fault}
use Rattle.herm_compile.specs.Spots.{IsCursor}
use Rattle.herm_compile.specs.View.{fault_view}
use Rattle.herm_compile.proofs.acceptance.missing_faults.Given as goal

-- the cursor stands in its file, and the faults are those of what was taken
abbrev pub invariant-lacks : goal.invariant-lacks
invariant-lacks l = IsCursor (map (λ file. file.1.items) l.files) l.cursor
    × (map fault_view l.faults.items ≡ map (missing_fault (map (λ file. file.1.items) l.files) l.owners l.blocks) (map lack_view l.yielded))
