use Rattle.std.proofs.Common.{ℕ, map, drop}
use Rattle.herm_model.specs.Lists.{IsIn}
use Rattle.herm_model.specs.WellFormedTables.{IsScalarField}
use Rattle.herm_frames.proofs.columns.are_scalar_fields.Given as goal

-- Where the fields that are left are scalars, all are.
abbrev pub invariant-columns : goal.invariant-columns
invariant-columns l = ((i : ℕ) → IsIn i (drop l.column-index l.columns) → IsScalarField l.types.shapes (map (λ f. f.of.0) l.parts) i) → (i : ℕ) → IsIn i l.columns → IsScalarField l.types.shapes (map (λ f. f.of.0) l.parts) i
