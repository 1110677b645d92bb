-- Why a row is not inserted.
use Rattle.std.specs.Prelude.{Bool, true, false, Result, Ok, Err}
use Rattle.herm_rows.specs.declared.rows.InsertFault.{InsertFault}
use Rattle.herm_rows.specs.declared.rows.InsertFault.TheVariants.{Duplicate, Full, Memory}

-- the row that is handed back
abbrev pub refused_row : {R : Type 0} → InsertFault R → R
refused_row (Duplicate row) = row
refused_row (Full row) = row
refused_row (Memory row) = row

-- whether a row with the same key is the fault
abbrev pub is_duplicate : {A R : Type 0} → Result A (InsertFault R) → Bool
is_duplicate (Ok _) = false
is_duplicate (Err (Duplicate _)) = true
is_duplicate (Err (Full _)) = false
is_duplicate (Err (Memory _)) = false

-- whether the number of rows is the fault
abbrev pub is_full : {A R : Type 0} → Result A (InsertFault R) → Bool
is_full (Ok _) = false
is_full (Err (Duplicate _)) = false
is_full (Err (Full _)) = true
is_full (Err (Memory _)) = false
