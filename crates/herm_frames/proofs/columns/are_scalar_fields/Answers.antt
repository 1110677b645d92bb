use Rattle.std.proofs.Common.{◌+◌, drop, get_or, map, refl, sym, ◌∙◌}
use Rattle.herm_model.specs.WellFormedTables.{IsScalarField}
use Rattle.herm_types.specs.declared.shape.Part.{Part}
use Rattle.herm_frames.proofs.KeysOfTypes.{next-in, next-left, one-less}
use Rattle.herm_frames.proofs.columns.are_scalar_fields.Goals as goal

pub columns-preserved : goal.columns-preserved
columns-preserved c h =
    let i = c.columns.column-index in
    let columns = c.args.columns.now in
    c.columns.invariant
    (one-less (IsScalarField c.args.types.now.shapes (map (λ (f : Part). f.of.0) c.args.parts.now)) (drop i columns) (drop (i + 1) columns) _ (next-left columns i c.columns-test.true) (c.if-not-is_scalar_field.ensures.scalar refl) h)

pub returns-then-not-is_scalar_field-clause-all : goal.returns-then-not-is_scalar_field-clause-all
returns-then-not-is_scalar_field-clause-all c h =
    let i = c.columns.column-index in
    let columns = c.args.columns.now in
    sym c.if-not-is_scalar_field.true ∙ c.is_scalar_field.ensures.all (h (get_or columns i 0) (next-in columns i c.columns-test.true))
