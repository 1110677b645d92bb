use Rattle.std.specs.Prelude.{◌∷◌}
use Rattle.herm_code_machine.proofs.DoneForms.{instructions-do-forms}
use Rattle.herm_code_machine.proofs.TrimmedExcess.{trims-are_excess}
use Rattle.herm_code_machine.proofs.trims.trims_are_the_excess.Goals as goal

pub returns : goal.returns
returns c = record {
  excess = trims-are_excess;
  sends = λ name c i q o trim facts b trims exact there. (instructions-do-forms name c 0 b).send (i ∷ q) o trim (trims-are_excess c.scope i q o trim facts b trims exact there);
}
