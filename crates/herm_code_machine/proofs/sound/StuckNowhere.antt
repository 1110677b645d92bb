-- In processes of good images no run is stuck.
use Rattle.std.proofs.Common.{◌≡◌, ℕ, suc, [], Option, Some, None, option_and_then, refl, sym, ap, subst, ◌∙◌}
use Rattle.herm_model.specs.Lists.{IsIn}
use Rattle.herm_model.specs.Values.{Name, an_inport, Cell, cell, no_parts}
use Rattle.herm_model.proofs.Options.{none-not_some, some-injective}
use Rattle.herm_journal.specs.Actions.{to_hear, hear}
use Rattle.herm_journal.specs.Messages.{CellWant, CellAction, CellReply, IsReplyTo}
use Rattle.herm_forms.specs.Frames.{counted_action}
use Rattle.herm_system.specs.Suiting.{Answers}
use Rattle.herm_instructions.specs.Images.{CodeModule, Image, instruction_at}
use Rattle.herm_instructions.specs.Instructions.{Instruction, Step}
use Rattle.herm_code_machine.specs.CodeActions.{code_settles, code_hears}
use Rattle.herm_code_machine.specs.CodeInstance.{own_name, code_at}
use Rattle.herm_code_machine.specs.CodeLocal.{IsLocallySoundCode, IsCall}
use Rattle.herm_code_machine.specs.CodeStates.{at_index, CodeState, state_behind, first_frame}
use Rattle.herm_code_machine.specs.CodeSteps.{CodeNext, an_item, a_reply, an_action, a_local_piece, nothing, code_next, code_wanted, wanted_next, met_at}
use Rattle.herm_code_machine.specs.Pieces.{Met, action_of}
use Rattle.herm_code_machine.specs.ReadyCode.{ReadyCode, labelled_image}
use Rattle.herm_code_machine.specs.laws.GoodImageLaws.{IsGoodOver, labelled_code}
use Rattle.herm_code_machine.specs.laws.OperandLaws.{IsNowhereStuck, behind_step, IsBefore, at_once, by_its_step, IsLeftBy, by_action, by_reply, RunsFindOperands}
use Rattle.herm_code_machine.specs.laws.StandingLaws.{IsAtInstruction}
use Rattle.herm_code_machine.proofs.CountedSteps.{not-both}
use Rattle.herm_code_machine.proofs.sound.ActionSteps.{acting-at}
use Rattle.herm_code_machine.proofs.sound.BehindAnswers.{left-by_action, left-by_reply}
use Rattle.herm_code_machine.proofs.sound.Between.{AreAlone, holds-at}
use Rattle.herm_code_machine.proofs.sound.CallSteps.{is-call}
use Rattle.herm_code_machine.proofs.sound.ItemSteps.{SuitsCode, call-at, takes-message, suits-in}
use Rattle.herm_code_machine.proofs.sound.LocalSteps.{ComesNext, by_work, by_call, by_act, comes-next, past-step}
use Rattle.herm_code_machine.proofs.sound.OnTheWay.{nowhere-stuck}
use Rattle.herm_code_machine.proofs.sound.Processes.{module-of}
use Rattle.herm_code_machine.proofs.sound.RunsThere.{begins-at, first_state}
use Rattle.herm_code_machine.proofs.sound.CodeThere.{sound-at}

module _ (exceptions' : ℕ) (image : Image) (main : ℕ) (good : IsGoodOver exceptions' image) (m : CodeModule) (in-image : IsIn m image.modules) where
  abbrev c : ReadyCode
  c = labelled_code image m

  begins-stuck : (code number port : ℕ) (n : Name) → IsNowhereStuck c (first_state exceptions' image good.good good.table m in-image code number port n)
  begins-stuck code number port n =
      let l = begins-at exceptions' image good.good good.table m in-image code number port n in
      nowhere-stuck exceptions' image good.good good.table m in-image (first_state exceptions' image good.good good.table m in-image code number port n) 0 l.0 l.1

  steps-stuck : (x : CodeState Name) → IsLocallySoundCode c x → (i : ℕ) → IsAtInstruction c x i Step → IsNowhereStuck c (behind_step x i)
  steps-stuck x sound i here =
      let h = holds-at c x i here.2 here.1 sound in
      let next = past-step exceptions' image good.good good.table m in-image i h.0 x (behind_step x i) here.3 h.1 h.2 h.3 (here.1, subst AreAlone (sym here.0) (λ item i. absurd i)) refl in
      nowhere-stuck exceptions' image good.good good.table m in-image (behind_step x i) (suc i) next.0 next.1

  -- before an action nothing waits to be finalised, and no call is open
  is-idle : (x t : CodeState Name) (j : ℕ) (action : Instruction) → IsBefore c x j action t → (x.frame.work ≡ []) × (x.frame.call ≡ None)
  is-idle x t j action (at_once i action' here acts) = (here.0, here.1)
  is-idle x t j action (by_its_step i j' action' t' here way position there acts) = (here.0, here.1)

  module _ (x : CodeState Name) (sound : IsLocallySoundCode c x) (want : CellWant Name) (wanted : code_wanted own_name c x ≡ Some want) (at : ℕ) (a : CellAction Name) (h : Answers want a) (suits : SuitsCode c x at a) (u : CodeState Name) where
    action-stuck : (j : ℕ) (action : Instruction) (t : CodeState Name) → IsBefore c x j action t
        → (let e = code_settles own_name c action t.stack at a (counted_action t.frame) in state_behind c t j action e.stack e.completion ≡ Some u) → (next : CodeNext Name) → ComesNext c x next → wanted_next own_name c x next ≡ Some want → IsNowhereStuck c u
    action-stuck j action t before is (an_action p met) (by_act p' m' idle closed piece found) wanted =
        left-by_action exceptions' image good.good good.table m in-image x p met (acting-at exceptions' image good.good good.table m in-image own_name x p met sound idle closed piece found) piece found want wanted at a h
        (takes-message exceptions' image main good m in-image x met at (ap (option_and_then (action_of c)) piece ∙ found) a suits) j action t u before is
    action-stuck j action t before is (an_item item work) (by_work i w front) wanted = not-both item work (sym front ∙ (is-idle x t j action before).0)
    action-stuck j action t before is (a_reply k i call) (by_call k' met idle opened there) wanted = none-not_some (sym (is-idle x t j action before).1 ∙ opened)
    action-stuck j action t before is (a_local_piece p) next wanted = none-not_some wanted
    action-stuck j action t before is nothing next wanted = none-not_some wanted

    reply-is : (k j : ℕ) (call : Instruction) → x.frame.call ≡ Some k → x.position ≡ at_index j → instruction_at c.code j ≡ Some call → (a : CellAction Name) → Answers {M = Cell Name} {R = CellReply Name} to_hear a → SuitsCode c x at a
        → state_behind c x j call x.stack (code_hears call k a (counted_action x.frame)) ≡ Some u → IsNowhereStuck c u
    reply-is k j call opened position there (hear k' r) h suits is =
        let met : Met = record { index = j; instruction = call } in
        let here : met_at c x.position ≡ Some met = ap (met_at c) position ∙ ap (λ (x : Option Instruction). elim x [ None ↦ None | Some instruction ↦ Some (record { index = j; instruction = instruction }) ]) there in
        let n = sound.call k opened in
        let same : n.0 ≡ met = some-injective (sym n.1 ∙ here) in
        let is_call : IsCall call = subst (λ (met : Met). IsCall met.instruction) same n.2 in
        let i = is-call call is_call in
        let of = call-at c x k met i.0 i.1 i.2 suits.0 opened here i.3 suits.1 in
        let number : k' ≡ k = sym suits.2 ∙ of.0 in
        let l = sound.label j position in
        left-by_reply exceptions' image good.good good.table m in-image x k j r position opened sound u call is_call l.0 there l.1
        (λ o arguments keeps e. let of' = call-at c x k met o arguments keeps suits.0 opened here e suits.1 in subst (λ t. IsReplyTo image.types t r) of'.1 suits.3)
        (subst (λ k'. state_behind c x j call x.stack (code_hears call k (hear k' r) (counted_action x.frame)) ≡ Some u) number is)
    reply-is k j call opened position there a h suits is = absurd h

    reply-stuck : (k j : ℕ) (call : Instruction) → x.frame.work ≡ [] → x.frame.call ≡ Some k → x.position ≡ at_index j → instruction_at c.code j ≡ Some call → state_behind c x j call x.stack (code_hears call k a (counted_action x.frame)) ≡ Some u
        → (next : CodeNext Name) → ComesNext c x next → wanted_next own_name c x next ≡ Some want → IsNowhereStuck c u
    reply-stuck k j call idle opened position there is (a_reply k' i call') (by_call k'' met idle' opened' there') wanted = reply-is k j call opened position there a (subst (λ w. Answers w a) (sym (some-injective wanted)) h) suits is
    reply-stuck k j call idle opened position there is (an_item item work) (by_work i w front) wanted = not-both item work (sym front ∙ idle)
    reply-stuck k j call idle opened position there is (an_action p met) (by_act p' m' idle' closed piece found) wanted = none-not_some (sym closed ∙ opened)
    reply-stuck k j call idle opened position there is (a_local_piece p) next wanted = none-not_some wanted
    reply-stuck k j call idle opened position there is nothing next wanted = none-not_some wanted

  answers-stuck : (x : CodeState Name) → IsLocallySoundCode c x → (want : CellWant Name) → code_wanted own_name c x ≡ Some want → (at : ℕ) (a : CellAction Name) → Answers want a → SuitsCode c x at a → (u : CodeState Name) → IsLeftBy c x at a u → IsNowhereStuck c u
  answers-stuck x sound want wanted at a h suits u (by_action j action t u' before is) = action-stuck x sound want wanted at a h suits u j action t before is (code_next c x) (comes-next c x) wanted
  answers-stuck x sound want wanted at a h suits u (by_reply k j call u' idle opened position there is) = reply-stuck x sound want wanted at a h suits u k j call idle opened position there is (code_next c x) (comes-next c x) wanted

pub runs-find_operands : RunsFindOperands
runs-find_operands exceptions' image main good c = record {
  begins = λ code number port n e.
      let m = module-of exceptions' image main good code c e in
      subst (λ c. IsNowhereStuck c (record { module_number = code; position = at_index 0; stack = []; frame = first_frame c.scope.variables number (cell n (an_inport port) no_parts) })) m.2
      (begins-stuck exceptions' image main good m.0 m.1 code number port n);
  steps = λ x sound coded i here.
      let m = module-of exceptions' image main good x.module_number c coded in
      subst (λ c. IsLocallySoundCode c x → (i : ℕ) → IsAtInstruction c x i Step → IsNowhereStuck c (behind_step x i)) m.2 (steps-stuck exceptions' image main good m.0 m.1 x) (sound-at (labelled_image image main) x c sound coded) i here;
  answers = λ x sound coded want at a wanted h suits u left.
      let m = module-of exceptions' image main good x.module_number c coded in
      let here : code_at (labelled_image image main) x ≡ Some (labelled_code image m.0) = coded ∙ ap Some (sym m.2) in
      let wanted' : code_wanted own_name (labelled_code image m.0) x ≡ Some want = sym (ap (option_and_then (λ c. code_wanted own_name c x)) here) ∙ wanted in
      subst (λ c. IsLeftBy c x at a u → IsNowhereStuck c u) m.2
      (answers-stuck exceptions' image main good m.0 m.1 x (sound-at (labelled_image image main) x (labelled_code image m.0) sound here) want wanted' at a h (suits-in exceptions' image main good x (labelled_code image m.0) here refl at a suits) u) left;
}
