use Rattle.std.proofs.Common.{ap, ◌∙◌, length, List, subst}
use Rattle.herm_model.specs.Types.{greatest_depth}
use Rattle.herm_types.specs.declared.shape.Shape.{Shape}
use Rattle.herm_types.specs.Table.{SayCopyable, AreDeclared, shapes_view}
use Rattle.herm_types.proofs.build.assemble.Goals as goal

pub invariant_of-result : goal.invariant_of-result
invariant_of-result c = record {
  well_named = c.requires.well_named;
  sized = c.requires.sized;
  tested = c.in_ok-copyable.ensures.each ∙ ap length c.as_slice.ensures.value;
  indexed = c.in_ok-index.ensures ∙ c.as_slice-3.ensures.value;
  copyable = subst (λ (shapes : List Shape). SayCopyable greatest_depth (shapes_view shapes) c.in_ok-copyable.copyable.items) c.as_slice.ensures.value c.in_ok-copyable.ensures.says;
  declared = subst (λ (shapes : List Shape). AreDeclared shapes c.in_ok-declared.declared.items) c.as_slice-2.ensures.value c.in_ok-declared.ensures;
}
