-- A sound process makes its local step.
use Rattle.std.proofs.Common.{◌≡◌, ℕ, suc, Bool, true, false, Some, option_map, option_and_then, refl, sym, ap, subst, ◌∙◌, arith}
use Rattle.std.proofs.lemmas.Bool.Decides.{nat_tests}
use Rattle.std.specs.Prelude.{⊤, IsTrue, nat_lt}
use Rattle.herm_model.specs.Values.{Name}
use Rattle.herm_journal.specs.Renaming.{forget_name}
use Rattle.herm_instructions.specs.Images.{Image}
use Rattle.herm_code_machine.specs.CodeInstance.{code_at, own_name, ready_if}
use Rattle.herm_code_machine.specs.CodeLocal.{IsSoundCodeIn}
use Rattle.herm_code_machine.specs.CodeRenaming.{forget_code}
use Rattle.herm_code_machine.specs.CodeStates.{CodeState}
use Rattle.herm_code_machine.specs.CodeSteps.{CodeNext, an_item, a_reply, an_action, a_local_piece, nothing, code_local_step, code_next, ready_for, within_steps}
use Rattle.herm_code_machine.specs.Pieces.{Piece}
use Rattle.herm_code_machine.specs.ReadyCode.{ReadyCode, labelled_image}
use Rattle.herm_code_machine.specs.laws.GoodImageLaws.{IsGoodOver}
use Rattle.herm_code_machine.proofs.renamed.CodeRenamed.{code_next-renamed, code_step-renamed, rename_next}
use Rattle.herm_code_machine.proofs.sound.SoundProcesses.{goes-on}
use Rattle.herm_system.specs.Machines.{is_local, local}
use Rattle.herm_steps.specs.Coming.{coming, coming_piece}
use Rattle.herm_steps.specs.SoundSteps.{SoundStepsAreMade}

-- a piece without an action is next under a limit that its step keeps
above : (n : ℕ) → nat_lt n (suc n) ≡ true
above n = grind (arith, nat_tests)

within : (has_step b : Bool) → b ≡ true → IsTrue (is_local (within_steps has_step b local))
within true b is = subst (λ b. IsTrue (is_local (within_steps true b local))) (sym is) refl
within false b is = refl

is-next : (x : CodeState Name) (n : CodeNext Name) (p : Piece) → coming (rename_next forget_name own_name n) ≡ coming_piece p → IsTrue (is_local (ready_for (suc x.frame.steps) x.frame n))
is-next x (an_item item work) p is = absurd (let k : ⊥ = cc in k)
is-next x (a_reply call i instruction) p is = absurd (let k : ⊥ = cc in k)
is-next x (an_action q m) p is = absurd (let k : ⊥ = cc in k)
is-next x (a_local_piece q) p is = within q.has_step (nat_lt x.frame.steps (suc x.frame.steps)) (above x.frame.steps)
is-next x nothing p is = absurd (let k : ⊥ = cc in k)

module _ (exceptions : ℕ) (image : Image) (main : ℕ) (good : IsGoodOver exceptions image) (c : ReadyCode) (x : CodeState Name) (p : Piece) where
  step-there : IsSoundCodeIn (labelled_image image main) x → code_at (labelled_image image main) x ≡ Some c → coming (code_next c (forget_code x)) ≡ coming_piece p → (t : CodeState ⊤) × (code_local_step forget_name c (forget_code x) ≡ Some t)
  step-there sound at is =
      let next = sym (ap coming (code_next-renamed forget_name own_name c x)) ∙ is in
      let limit = suc x.frame.steps in
      let goes = (goes-on exceptions image main good).local_steps limit x sound (subst (λ o. IsTrue (is_local (ready_if limit x o))) (sym at) (is-next x (code_next c x) p next)) in
      let made = sym (ap (option_and_then (λ c. code_local_step own_name c x)) at) ∙ goes.1 in
      (forget_code goes.0, code_step-renamed forget_name own_name c x ∙ ap (option_map forget_code) made)

pub steps-made : SoundStepsAreMade
steps-made exceptions image main good c x s p sound at is next =
    subst (λ s. coming (code_next c s) ≡ coming_piece p → (t : CodeState ⊤) × (code_local_step forget_name c s ≡ Some t)) is (step-there exceptions image main good c x p sound at) next
