use Rattle.std.proofs.Common.{[], ◌∷◌, refl}
use Rattle.herm_instructions.specs.examples.ExampleImages.{greeting, two_rows, denies, asks}
use Rattle.herm_instructions.proofs.JudgedCode.{judge-image}
use Rattle.herm_instructions.proofs.examples.images_are_good.Goals as goal

pub returns : goal.returns
returns c = record {
  greeting = judge-image (greeting ∷ []) refl;
  loop_over_rows = judge-image (two_rows ∷ []) refl;
  call = judge-image (denies ∷ asks ∷ []) refl;
}
