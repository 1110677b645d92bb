use Rattle.herm_good_images.proofs.CodeLengths.{code-bounded, indices-fit}
use Rattle.herm_good_images.proofs.laws.code_is_bounded.Goals as goal

pub returns : goal.returns
returns c = record { bounded = code-bounded; fit = indices-fit }
