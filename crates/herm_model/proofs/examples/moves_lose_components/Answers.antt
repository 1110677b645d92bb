use Rattle.std.proofs.Common.{refl, [], ◌∷◌}
use Rattle.herm_model.specs.examples.RefusedVariants.{dissolve_a, missing_after_move, moves_variant, reveal_a, with_variant}
use Rattle.herm_model.proofs.ExampleRefusals.{computed}
use Rattle.herm_model.proofs.examples.moves_lose_components.Goals as goal

pub returns : goal.returns
returns c = record {
  lost = computed with_variant (moves_variant (dissolve_a ∷ [])) missing_after_move refl;
  revealed = computed with_variant (moves_variant (reveal_a ∷ dissolve_a ∷ [])) [] refl;
}
