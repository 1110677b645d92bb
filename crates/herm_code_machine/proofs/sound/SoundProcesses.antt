-- The processes of a good image as the laws of sound systems ask of them: they stay sound within themselves, and go on.
use Rattle.std.proofs.Common.{◌≡◌, ℕ, Option, Some, None, option_and_then, sym, subst, ◌∙◌}
use Rattle.std.specs.Prelude.{slice_get}
use Rattle.herm_model.specs.Values.{Name, an_inport, cell, no_parts}
use Rattle.herm_model.proofs.Options.{some-injective, chain-some}
use Rattle.herm_journal.specs.Messages.{CellWant, CellAction}
use Rattle.herm_system.specs.Suiting.{Answers, Suits}
use Rattle.herm_sound.specs.SoundMachines.{CallMoves, StaysSound, GoesOn}
use Rattle.herm_instructions.specs.Images.{Image}
use Rattle.herm_code_machine.specs.ReadyCode.{ReadyCode, ReadyImage, labelled_image}
use Rattle.herm_code_machine.specs.CodeStates.{CodeState, code_begin}
use Rattle.herm_code_machine.specs.CodeInstance.{own_name, code_machine}
use Rattle.herm_code_machine.specs.CodeLocal.{IsSoundCodeIn}
use Rattle.herm_code_machine.specs.laws.GoodImageLaws.{IsGoodOver}
use Rattle.herm_code_machine.proofs.sound.ItemSteps.{answers-sound}
use Rattle.herm_code_machine.proofs.sound.Processes.{steps-sound}

module _ (exceptions : ℕ) (image : Image) (main : ℕ) (good : IsGoodOver exceptions image) where
  abbrev ready : ReadyImage
  ready = labelled_image image main

  begins-sound : (code number port : ℕ) (n : Name) (x : CodeState Name) → (code_machine ready).begin code number (cell n (an_inport port) no_parts) ≡ Some x
      → IsSoundCodeIn ready x × ((code_machine ready).open_call x ≡ None)
  begins-sound code number port n x is =
      let there = chain-some (λ (c : ReadyCode). code_begin own_name c code number (cell n (an_inport port) no_parts)) (slice_get ready.codes code) x is in
      let r = (steps-sound exceptions image main good).begins code number port n there.0 there.1 in
      subst (λ x. IsSoundCodeIn ready x × ((code_machine ready).open_call x ≡ None)) (some-injective (sym r.1 ∙ is)) (r.2, r.3)

  answered-sound : (x y : CodeState Name) (want : CellWant Name) (at : ℕ) (a : CellAction Name) → IsSoundCodeIn ready x → (code_machine ready).wanted x ≡ Some want → Answers want a → Suits (code_machine ready) x at a
      → (code_machine ready).answered x at a ≡ Some y → IsSoundCodeIn ready y × CallMoves (code_machine ready) x y a
  answered-sound x y want at a sound wants answers suits is =
      let r = (answers-sound exceptions image main good).answers x want at a sound wants answers suits in
      subst (λ y. IsSoundCodeIn ready y × CallMoves (code_machine ready) x y a) (some-injective (sym r.1 ∙ is)) (r.2, r.3)

  pub stays-sound : StaysSound (code_machine ready) (IsSoundCodeIn ready)
  stays-sound = record { begins = begins-sound; local_steps = (steps-sound exceptions image main good).steps; answers = answered-sound }

  pub goes-on : GoesOn (code_machine ready) (IsSoundCodeIn ready)
  goes-on = record {
    local_steps = (steps-sound exceptions image main good).steps_there;
    wants = (answers-sound exceptions image main good).wants;
    answers = λ x want at a sound wants answers suits. let r = (answers-sound exceptions image main good).answers x want at a sound wants answers suits in (r.0, r.1);
  }
