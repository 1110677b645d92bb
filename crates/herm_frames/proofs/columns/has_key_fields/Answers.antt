use Rattle.std.proofs.Common.{List, Some, map, sym, ap, ◌∙◌}
use Rattle.herm_model.specs.Types.{fields}
use Rattle.herm_types.specs.View.{shape_view}
use Rattle.herm_types.specs.declared.shape.Part.{Part}
use Rattle.herm_types.specs.declared.shape.Shape.{Shape}
use Rattle.herm_frames.proofs.KeysOfTypes.{has_fields, fields_scalar}
use Rattle.herm_frames.proofs.columns.has_key_fields.Goals as goal

pub returns-in-Some-Fields-clause-has : goal.returns-in-Some-Fields-clause-has
returns-in-Some-Fields-clause-has c k types variables all =
    has_fields k _ _ _ (map (λ (f : Part). f.of.0) c.as_slice.result.now) _ types variables
    (sym c.in-Some-Fields.ensures.of
    ∙ ap (λ (s : Shape). Some (shape_view s)) c.in-Some-Fields.field-0-is
    ∙ ap (λ (ps : List Part). Some (fields (map (λ (f : Part). f.of.0) ps))) (sym c.as_slice.ensures.value)) (c.are_scalar_fields.ensures.scalars all)

pub returns-in-Some-Fields-clause-all : goal.returns-in-Some-Fields-clause-all
returns-in-Some-Fields-clause-all c k types variables has =
    c.are_scalar_fields.ensures.all
    (fields_scalar k _ _ _ (map (λ (f : Part). f.of.0) c.as_slice.result.now) _ types variables
    (sym c.in-Some-Fields.ensures.of
    ∙ ap (λ (s : Shape). Some (shape_view s)) c.in-Some-Fields.field-0-is
    ∙ ap (λ (ps : List Part). Some (fields (map (λ (f : Part). f.of.0) ps))) (sym c.as_slice.ensures.value)) has)
