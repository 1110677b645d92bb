-- A process that is sound within itself is so by the code that it has.
use Rattle.std.proofs.Common.{◌≡◌, Some, sym, subst, ◌∙◌}
use Rattle.herm_model.specs.Values.{Name}
use Rattle.herm_model.proofs.Options.{some-injective}
use Rattle.herm_code_machine.specs.CodeInstance.{code_at}
use Rattle.herm_code_machine.specs.CodeLocal.{IsLocallySoundCode, IsSoundCodeIn}
use Rattle.herm_code_machine.specs.CodeStates.{CodeState}
use Rattle.herm_code_machine.specs.ReadyCode.{ReadyCode, ReadyImage}

pub sound-at : (image : ReadyImage) (x : CodeState Name) (c : ReadyCode) → IsSoundCodeIn image x → code_at image x ≡ Some c → IsLocallySoundCode c x
sound-at image x c sound at = subst (λ c. IsLocallySoundCode c x) (some-injective (sym sound.1 ∙ at)) sound.2
