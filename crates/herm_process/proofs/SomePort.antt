-- A sound process that wants a message looks at some port, so what it wants is told of.
use Rattle.std.proofs.Common.{◌≡◌, ℕ, [], ◌∷◌, Option, Some, None, option_and_then, refl, sym, ap, subst, ◌∙◌}
use Rattle.std.specs.Prelude.{⊤}
use Rattle.herm_model.specs.Lists.{IsIn}
use Rattle.herm_model.specs.Values.{Name}
use Rattle.herm_model.proofs.Options.{none-not_some, chain-some}
use Rattle.herm_journal.specs.Actions.{new_port, new_process, to_put, to_take, to_close, to_answer, to_hear}
use Rattle.herm_journal.specs.Messages.{CellWant}
use Rattle.herm_journal.specs.Renaming.{forget_name}
use Rattle.herm_model.specs.CellNames.{rename}
use Rattle.herm_instructions.specs.GoodCode.{processes_of}
use Rattle.herm_instructions.specs.Images.{Image, CodeModule}
use Rattle.herm_instructions.specs.Instructions.{Instruction, Select}
use Rattle.herm_instructions.specs.TypedInstructions.{IsTypedInstruction}
use Rattle.herm_code_machine.specs.CodeActions.{code_wants}
use Rattle.herm_code_machine.specs.CodeInstance.{own_name}
use Rattle.herm_code_machine.specs.CodeLocal.{IsLocallySoundCode}
use Rattle.herm_code_machine.specs.CodeRenaming.{forget_code}
use Rattle.herm_code_machine.specs.CodeStates.{CodeState}
use Rattle.herm_code_machine.specs.CodeSteps.{CodeNext, an_item, a_reply, an_action, a_local_piece, nothing, code_next, code_wanted, wanted_next}
use Rattle.herm_code_machine.specs.Pieces.{stack_before_action}
use Rattle.herm_code_machine.specs.ReadyCode.{ReadyCode, labelled_image}
use Rattle.herm_code_machine.specs.laws.GoodImageLaws.{IsGoodOver, labelled_code}
use Rattle.herm_code_machine.proofs.renamed.CodeRenamed.{code_next-renamed, rename_next}
use Rattle.herm_code_machine.proofs.sound.ActionSteps.{acting-at}
use Rattle.herm_code_machine.proofs.sound.Between.{finds-there}
use Rattle.herm_code_machine.proofs.sound.CodeThere.{sound-at}
use Rattle.herm_code_machine.proofs.sound.LocalSteps.{ComesNext, by_act, comes-next}
use Rattle.herm_code_machine.proofs.sound.Processes.{module-of}
use Rattle.herm_exchanges.specs.Told.{told}
use Rattle.herm_machine.specs.Machines.{IsSoundState, nameless}
use Rattle.herm_process.proofs.Looking.{Chooses, item-no_take, takes-some}
use Rattle.herm_process.proofs.Standings.{coded}

chooses : (image : Image) (m : CodeModule) (exceptions : ℕ) (i : Instruction) → IsTypedInstruction image.types m.variables exceptions image.constants (processes_of image.modules) i → Chooses i
chooses image m exceptions (Select choices) h = h.1
chooses image m exceptions i h = tt

module _ (exceptions : ℕ) (image : Image) (main : ℕ) (good : IsGoodOver exceptions image) where
  wants-some : (m : CodeModule) → IsIn m image.modules → (x : CodeState Name) → IsLocallySoundCode (labelled_code image m) x → code_wanted forget_name (labelled_code image m) (forget_code x) ≡ Some (to_take []) → ⊥
  wants-some m in-image x sound e =
      by (code_next (labelled_code image m) x) (comes-next (labelled_code image m) x)
      (ap (wanted_next forget_name (labelled_code image m) (forget_code x)) (sym (code_next-renamed forget_name own_name (labelled_code image m) x)) ∙ e)
    where
      by : (n : CodeNext Name) → ComesNext (labelled_code image m) x n → wanted_next forget_name (labelled_code image m) (forget_code x) (rename_next forget_name own_name n) ≡ Some (to_take []) → ⊥
      by (an_item item work) next e = item-no_take (rename forget_name item) [] e
      by (a_reply call i instruction) next e = cc
      by (an_action p met) (by_act p' met' idle closed at is) e =
          let acts = acting-at exceptions image good.good good.table m in-image own_name x p met sound idle closed at is in
          let a = acts.there in
          let finds = finds-there exceptions image good.good good.table m in-image met.index met.instruction a.label a.at a.labelled in
          let w = chain-some (λ stack. code_wants forget_name (labelled_code image m) met.instruction stack (forget_code x).frame) (stack_before_action (labelled_code image m) p (forget_code x).frame.variables x.stack) (to_take []) e in
          takes-some (labelled_code image m) met.instruction w.0 (forget_code x).frame (chooses image m exceptions met.instruction finds.typed) w.2
      by (a_local_piece p) next e = none-not_some e
      by nothing next e = none-not_some e

never-none : (image : Image) (main : ℕ) (c : ReadyCode) (s : CodeState ⊤) → IsSoundState image main c s → (nameless image main).wanted s ≡ Some (to_take []) → ⊥
never-none image main c s h e =
    let m = module-of h.exceptions image main h.good (h.named).module_number c h.code in
    let is = sym (ap (option_and_then (λ c. code_wanted forget_name c s)) (coded image main c s h)) ∙ e in
    wants-some h.exceptions image main h.good m.0 m.1 h.named (subst (λ c. IsLocallySoundCode c h.named) (sym m.2) (sound-at (labelled_image image main) h.named c h.sound h.code))
    (subst (λ c. code_wanted forget_name c (forget_code h.named) ≡ Some (to_take [])) (sym m.2) (subst (λ s. code_wanted forget_name c s ≡ Some (to_take [])) (sym h.same) is))

by-told : (o : Option (CellWant ⊤)) → None ≡ option_and_then told o → (o ≡ Some (to_take []) → ⊥) → o ≡ None
by-told None e h = refl
by-told (Some (to_take [])) e h = absurd (h refl)
by-told (Some (to_take (n ∷ ns))) e h = none-not_some e
by-told (Some new_port) e h = none-not_some e
by-told (Some (new_process code)) e h = none-not_some e
by-told (Some (to_put n m)) e h = none-not_some e
by-told (Some (to_close n)) e h = none-not_some e
by-told (Some (to_answer caller call r)) e h = none-not_some e
by-told (Some to_hear) e h = none-not_some e

-- where nothing is told, nothing is wanted
pub unwanted : (image : Image) (main : ℕ) (c : ReadyCode) (s : CodeState ⊤) → IsSoundState image main c s → None ≡ option_and_then told ((nameless image main).wanted s) → (nameless image main).wanted s ≡ None
unwanted image main c s h e = by-told ((nameless image main).wanted s) e (never-none image main c s h)

pub never-untold : {A : Type 0} (image : Image) (main : ℕ) (c : ReadyCode) (s : CodeState ⊤) (w : CellWant ⊤) → IsSoundState image main c s → None ≡ option_and_then told ((nameless image main).wanted s) → (nameless image main).wanted s ≡ Some w → A
never-untold image main c s w h e wanted = none-not_some (sym (unwanted image main c s h e) ∙ wanted)
