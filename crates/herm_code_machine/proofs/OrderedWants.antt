-- What a process of code wants is for the front of its work list, for its open call, or for its next action.
use Rattle.std.proofs.Common.{◌≡◌, inl, inr, ℕ, suc, List, [], ◌∷◌, Bool, true, false, cond, Option, Some, None, option_and_then, option_map, refl, sym, ap, subst, ◌∙◌, drop}
use Rattle.herm_model.specs.Lists.{IsIn}
use Rattle.herm_model.specs.Values.{Name, a_callmessage, an_inport, Cell, cell, cell_at, no_parts, gap, part, Value}
use Rattle.herm_model.proofs.Lists.{not_true}
use Rattle.herm_model.proofs.Options.{none-not_some, some-injective, chain-some, map-some}
use Rattle.herm_journal.specs.Actions.{values, to_put, to_take}
use Rattle.herm_journal.specs.Actions
use Rattle.herm_journal.specs.Messages.{CellWant}
use Rattle.herm_forms.specs.Acts.{given_back, given_at}
use Rattle.herm_forms.specs.Callmessages.{Composed}
use Rattle.herm_forms.specs.ClosesAndAnswers.{work_wants}
use Rattle.herm_forms.specs.Exchanges.{inport_at, outport_at, ports_at}
use Rattle.herm_forms.specs.Frames
use Rattle.herm_forms.proofs.typed.WantKinds.{return-want}
use Rattle.herm_instructions.specs.Actions.{is_step, is_action}
use Rattle.herm_instructions.specs.Images.{instruction_at}
use Rattle.herm_instructions.specs.Instructions.{Instruction, New, Send, Receive, Select, Call, Return, ReturnBy, Create}
use Rattle.herm_code_machine.specs.CodeActions.{code_wants, called, kept_parameters, ports_of_choices}
use Rattle.herm_code_machine.specs.CodeInstance.{own_name}
use Rattle.herm_code_machine.specs.CodeLocal.{IsLocallySoundCode, WaitsAlone}
use Rattle.herm_code_machine.specs.CodeStates.{Position, at_index, at_end, at_end_by, CodeState}
use Rattle.herm_code_machine.specs.CodeSteps.{CodeNext, an_item, a_reply, an_action, a_local_piece, nothing, code_next, code_wanted, wanted_next}
use Rattle.herm_code_machine.specs.Pieces.{Piece, Met, piece_by, piece_at, action_from, action_of, stack_before_action}
use Rattle.herm_code_machine.specs.ReadyCode.{ReadyCode}
use Rattle.herm_code_machine.specs.laws.WantLaws.{IsNextAction, it_is_there, behind_its_step, WantsFor, WantsAreInOrder}
use Rattle.herm_code_machine.proofs.CodeLimits.{first-dropped, action-there}
use Rattle.herm_code_machine.proofs.ReadyProcesses.{found-leads}
use Rattle.herm_code_machine.proofs.sound.LocalSteps.{ComesNext, by_work, by_call, by_act, comes-next, is-step}
use Rattle.herm_code_machine.proofs.sound.CodeThere.{sound-at}

module _ (c : ReadyCode) (x : CodeState Name) where
  abbrev For : CellWant Name → Type 0
  For w = WantsFor c x w

  abbrev Next : Instruction → Type 0
  Next i = IsNextAction c x i

  -- the action of the piece at the position
  next-action : x.frame.work ≡ [] → x.frame.call ≡ None → (position : Position) → x.position ≡ position → (p : Piece) → piece_at c position ≡ Some p → (met : Met) → action_of c p ≡ Some met → Next met.instruction
  next-action idle closed at_end position p at met found = none-not_some at
  next-action idle closed (at_end_by e) position p at met found = none-not_some at
  next-action idle closed (at_index i) position p at met found = by (instruction_at c.code i) refl at
    where
      acting : (instruction : Instruction) → instruction_at c.code i ≡ Some instruction → (t : Bool) → is_action c.scope.types instruction ≡ t → cond t (Some (record { has_step = false; first = i })) None ≡ Some p → Next met.instruction
      acting instruction there false e is = none-not_some is
      acting instruction there true e is =
          let d = first-dropped c.code.code i instruction there in
          let acts : action_of c (record { has_step = false; first = i }) ≡ Some (record { index = i; instruction = instruction }) =
          ap (λ xs. action_from c.scope.types xs i) d.1 ∙ action-there c.scope.types instruction d.0 i e in
          subst (λ (m : Met). Next m.instruction) (some-injective (sym acts ∙ ap (action_of c) (some-injective is) ∙ found)) (it_is_there i (idle, closed, position, there) e)

      stepping : (instruction : Instruction) → instruction_at c.code i ≡ Some instruction → (t : Bool) → is_step instruction ≡ t
          → cond t (Some (record { has_step = true; first = suc i })) (cond (is_action c.scope.types instruction) (Some (record { has_step = false; first = i })) None) ≡ Some p → Next met.instruction
      stepping instruction there true e is =
          behind_its_step i (idle, closed, position, there ∙ ap (λ x. Some x) (is-step instruction e)) (found-leads c (drop (suc i) c.code.code) (suc i) met refl (ap (action_of c) (some-injective is) ∙ found))
      stepping instruction there false e is = acting instruction there (is_action c.scope.types instruction) refl is

      by : (o : Option Instruction) → instruction_at c.code i ≡ o → piece_by c.scope.types i o ≡ Some p → Next met.instruction
      by None there is = none-not_some is
      by (Some instruction) there is = stepping instruction there (is_step instruction) refl is

  item-for : (item : Cell Name) (work : List (Cell Name)) (w : CellWant Name) → WaitsAlone item → x.frame.work ≡ item ∷ work → work_wants item ≡ Some w → For w
  item-for (cell n (an_inport port) no_parts) work w is front e = subst For (some-injective e) (n, work, front)
  item-for (cell n (a_callmessage caller call) no_parts) work w is front e = subst For (some-injective e) (inl ((n, work, front), refl))
  item-for (cell n k no_parts) work w is front e = not_true is
  item-for (cell n k (gap ps)) work w is front e = absurd is
  item-for (cell n k (part d ps)) work w is front e = absurd is

  instruction-for : (i : Instruction) → Next i → (stack : List Value) (w : CellWant Name) → code_wants own_name c i stack x.frame ≡ Some w → For w
  instruction-for (New p t) next stack w e = subst For (some-injective e) (p, t, next)
  instruction-for (Create o n) next stack w e = subst For (some-injective e) (o, next)
  instruction-for (Send p o trim) next stack w e =
      let r = chain-some (λ port. option_map (to_put port) (cell_at p (Frames.drop trim x.frame).variables)) (outport_at o x.frame) w e in
      let q = map-some (to_put r.0) (cell_at p (Frames.drop trim x.frame).variables) w r.2 in
      subst For q.2 (Send p o trim, o, next, refl, r.1)
  instruction-for (Call o arguments keep) next stack w e =
      let r = chain-some (λ port. option_map (λ (d : Composed Name). to_put port d.message) (called own_name c arguments stack x.frame)) (outport_at o x.frame) w e in
      let q = map-some (λ (d : Composed Name). to_put r.0 d.message) (called own_name c arguments stack x.frame) w r.2 in
      subst For q.2 (Call o arguments keep, o, next, refl, r.1)
  instruction-for (Receive p i) next stack w e =
      let r = map-some (λ port. to_take (port ∷ [])) (inport_at i x.frame) w e in
      subst For r.2 (Receive p i, next, ap (option_and_then (λ (port : ℕ). Some (port ∷ []))) r.1)
  instruction-for (Select choices) next stack w e =
      let r = map-some to_take (ports_at (ports_of_choices choices) x.frame) w e in
      subst For r.2 (Select choices, next, r.1)
  instruction-for (Return p) next stack w e =
      let k = return-want own_name c.scope x.frame w values (given_back c.scope (given_at c.scope p) x.frame) p e in
      subst For k.3 (inr (Return p, next, tt))
  instruction-for (ReturnBy p y kept) next stack w e =
      let k = return-want own_name c.scope x.frame w (Actions.raised y) (given_back c.scope (kept_parameters c p kept) x.frame) p e in
      subst For k.3 (inr (ReturnBy p y kept, next, tt))
  instruction-for i next stack w e = none-not_some e

  want-for : IsLocallySoundCode c x → (w : CellWant Name) → code_wanted own_name c x ≡ Some w → For w
  want-for sound w wanted = by (code_next c x) (comes-next c x) wanted
    where
      by : (next : CodeNext Name) → ComesNext c x next → wanted_next own_name c x next ≡ Some w → For w
      by (an_item item work) (by_work i v front) wanted = item-for item work w (sound.work item (subst (IsIn item) (sym front) (inl refl))) front wanted
      by (a_reply k i instruction) (by_call k' met idle opened piece) wanted = subst For (some-injective wanted) (k, idle, opened)
      by (an_action p met) (by_act p' met' idle closed piece act) wanted =
          let r = chain-some (λ stack. code_wants own_name c met.instruction stack x.frame) (stack_before_action c p x.frame.variables x.stack) w wanted in
          instruction-for met.instruction (next-action idle closed x.position refl p piece met act) r.0 w r.2
      by (a_local_piece p) next wanted = none-not_some wanted
      by nothing next wanted = none-not_some wanted

pub wants-ordered : WantsAreInOrder
wants-ordered image x sound c coded w wanted = want-for c x (sound-at image x c sound coded) w (sym (ap (option_and_then (λ c. code_wanted own_name c x)) coded) ∙ wanted)
