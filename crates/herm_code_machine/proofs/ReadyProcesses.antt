-- How a process of code stands: as its work list, its call, its position and its limits say.
use Rattle.std.proofs.Common.{◌≡◌, ◌<◌, ◌≤◌, ℕ, suc, List, [], ◌∷◌, Bool, true, false, cond, ◌||◌, Option, Some, None, refl, sym, ap, subst, ◌∙◌, arith, drop}
use Rattle.std.specs.Prelude.{nat_lt, IsTrue}
use Rattle.std.proofs.lemmas.Bool.Decides.{nat_tests}
use mathlib.Core.Bool.{false≢true}
use Rattle.herm_model.specs.Values.{Name, Cell}
use Rattle.herm_model.proofs.Options.{none-not_some, some-injective}
use Rattle.herm_system.specs.Machines.{Standing, ended, out_of_steps, out_of_actions, waiting, local, acting, to_act, greatest_actions}
use Rattle.herm_instructions.specs.Actions.{is_step, is_action}
use Rattle.herm_instructions.specs.Images.{instruction_at}
use Rattle.herm_instructions.specs.Instructions.{Instruction, Step}
use Rattle.herm_instructions.specs.Pieces.{is_operand}
use Rattle.herm_code_machine.specs.CodeInstance.{code_machine, ready_if}
use Rattle.herm_code_machine.specs.CodeLocal.{IsLocallySoundCode}
use Rattle.herm_code_machine.specs.CodeStates.{Position, at_index, at_end, at_end_by, CodeState, begins_piece}
use Rattle.herm_code_machine.specs.CodeSteps.{met_at, by_action, by_piece, by_met, call_or_piece, item_or, within_steps, ready_for, code_ready}
use Rattle.herm_code_machine.specs.Pieces.{Piece, Met, piece_by, piece_at, action_from, action_of}
use Rattle.herm_code_machine.specs.ReadyCode.{ReadyCode}
use Rattle.herm_code_machine.specs.laws.PieceLaws.{IsAtPiece}
use Rattle.herm_code_machine.specs.laws.StandingLaws.{IsAtEnd, LeadsToAction, at_action, behind_operand, IsAtInstruction, IsActionNext, an_item_waits, a_call_is_open, an_action_is_there, a_step_leads_to_one, StandsSo, ProcessesStandSo}
use Rattle.herm_code_machine.proofs.CodeLimits.{first-dropped, action-there}
use Rattle.herm_code_machine.proofs.sound.ActionSteps.{dropped-got}
use Rattle.herm_code_machine.proofs.sound.LocalSteps.{is-step}
use Rattle.herm_code_machine.proofs.sound.CodeThere.{sound-at}

below : (m n : ℕ) → nat_lt m n ≡ true → m < n
below m n h = grind (arith, nat_tests)

not-below : (m n : ℕ) → nat_lt m n ≡ false → n ≤ m
not-below m n h = grind (arith, nat_tests)

to-below : (m n : ℕ) → m < n → nat_lt m n ≡ true
to-below m n h = grind (arith, nat_tests)

to-not_below : (m n : ℕ) → n ≤ m → nat_lt m n ≡ false
to-not_below m n h = grind (arith, nat_tests)

not-action : {A : Type 0} → IsTrue false → A
not-action h = absurd (false≢true h)

-- the first instruction behind operands, where it is an action
module _ (c : ReadyCode) where
  abbrev types : Rattle.herm_model.specs.Types.TypeTable
  types = c.scope.types

  pub found-leads : (xs : List Instruction) (i : ℕ) (met : Met) → drop i c.code.code ≡ xs → action_from (types) xs i ≡ Some met → LeadsToAction c i met.instruction
  found-leads [] i met at is = none-not_some is
  found-leads (instruction ∷ more) i met at is =
      let d = dropped-got c.code.code i instruction more at in
      by (is_operand instruction) refl d.0 (λ is. found-leads more (suc i) met d.1 is) is
    where
      acting : (t : Bool) → is_action (types) instruction ≡ t → instruction_at c.code i ≡ Some instruction → cond t (Some (record { index = i; instruction = instruction })) None ≡ Some met → LeadsToAction c i met.instruction
      acting true e there is = subst (λ (met : Met). LeadsToAction c i met.instruction) (some-injective is) (at_action i instruction there e)
      acting false e there is = none-not_some is

      by : (t : Bool) → is_operand instruction ≡ t → instruction_at c.code i ≡ Some instruction → (action_from (types) more (suc i) ≡ Some met → LeadsToAction c (suc i) met.instruction)
          → cond t (action_from (types) more (suc i)) (cond (is_action (types) instruction) (Some (record { index = i; instruction = instruction })) None) ≡ Some met → LeadsToAction c i met.instruction
      by true e there again is = behind_operand i instruction met.instruction there e (again is)
      by false e there again is = acting (is_action (types) instruction) refl there is

  pub leads-found : (i : ℕ) (action : Instruction) → LeadsToAction c i action → (met : Met) × (action_from (types) (drop i c.code.code) i ≡ Some met)
  leads-found i action (at_action j instruction there acts) =
      let d = first-dropped c.code.code j instruction there in
      (record { index = j; instruction = instruction }, ap (λ xs. action_from (types) xs j) d.1 ∙ action-there (types) instruction d.0 j acts)
  leads-found i action (behind_operand j instruction action' there is leads) =
      let d = first-dropped c.code.code j instruction there in
      let r = leads-found (suc j) action' leads in (
        r.0,
        ap (λ xs. action_from (types) xs j) d.1
            ∙ ap (λ t. cond t (action_from (types) d.0 (suc j)) (cond (is_action (types) instruction) (Some (record { index = j; instruction = instruction })) None)) is
            ∙ ap (λ xs. action_from (types) xs (suc j)) (sym (dropped-got c.code.code j instruction d.0 d.1).1) ∙ r.1,
      )

module _ (c : ReadyCode) (s : CodeState Name) (sound : IsLocallySoundCode c s) (limit : ℕ) where
  abbrev So : Standing → Type 0
  So = StandsSo c limit s

  abbrev acts : Standing
  acts = to_act (nat_lt s.frame.actions greatest_actions)

  abbrev within : Bool
  within = nat_lt s.frame.steps limit

  acts-so : IsActionNext c limit s → So (acts)
  acts-so next = by (nat_lt s.frame.actions greatest_actions) refl
    where
      by : (b : Bool) → nat_lt s.frame.actions greatest_actions ≡ b → So (to_act b)
      by true e = (next, below s.frame.actions greatest_actions e)
      by false e = (next, not-below s.frame.actions greatest_actions e)

  -- a piece that begins with a step, and one that begins with an action
  abbrev step_piece : ℕ → Piece
  step_piece i = record { has_step = true; first = suc i }

  abbrev action_piece : ℕ → Piece
  action_piece i = record { has_step = false; first = i }

  step-so : (i : ℕ) → IsAtInstruction c s i Step → (o : Option Met) → action_of c (step_piece i) ≡ o → So (ready_for limit s.frame (by_action (step_piece i) o))
  step-so i here (Some met) found = by (within) refl
    where
      by : (b : Bool) → within ≡ b → So (within_steps true b (acts))
      by true e = acts-so (a_step_leads_to_one i met.instruction here (found-leads c (drop (suc i) c.code.code) (suc i) met refl found) (below s.frame.steps limit e))
      by false e = (i, here, not-below s.frame.steps limit e)
  step-so i here None found = by (within) refl
    where
      none : (action : Instruction) → LeadsToAction c (suc i) action → ⊥
      none action h = let r = leads-found c (suc i) action h in none-not_some (sym found ∙ r.1)

      by : (b : Bool) → within ≡ b → So (within_steps true b local)
      by true e = (i, here, none, below s.frame.steps limit e)
      by false e = (i, here, not-below s.frame.steps limit e)

  -- an action that begins its piece
  action-found : (i : ℕ) (instruction : Instruction) → instruction_at c.code i ≡ Some instruction → is_action c.scope.types instruction ≡ true → action_of c (action_piece i) ≡ Some (record { index = i; instruction = instruction })
  action-found i instruction there e =
      let d = first-dropped c.code.code i instruction there in
      ap (λ xs. action_from c.scope.types xs i) d.1 ∙ action-there c.scope.types instruction d.0 i e

  action-so : (i : ℕ) (instruction : Instruction) → IsAtInstruction c s i instruction → is_action c.scope.types instruction ≡ true → So (ready_for limit s.frame (by_action (action_piece i) (action_of c (action_piece i))))
  action-so i instruction here e =
      subst (λ o. So (ready_for limit s.frame (by_action (action_piece i) o))) (sym (action-found i instruction here.3 e)) (acts-so (an_action_is_there i instruction here e))

  piece-so : (i : ℕ) (instruction : Instruction) → IsAtInstruction c s i instruction → begins_piece c instruction ≡ true → So (ready_for limit s.frame (by_piece c (piece_by c.scope.types i (Some instruction))))
  piece-so i instruction here begins = by (is_step instruction) refl begins
    where
      acting : (t : Bool) → is_action c.scope.types instruction ≡ t → t ≡ true → So (ready_for limit s.frame (by_piece c (cond t (Some (action_piece i)) None)))
      acting true e h = action-so i instruction here e
      acting false e h = absurd (false≢true h)

      by : (t : Bool) → is_step instruction ≡ t → (t || is_action c.scope.types instruction) ≡ true
          → So (ready_for limit s.frame (by_piece c (cond t (Some (step_piece i)) (cond (is_action c.scope.types instruction) (Some (action_piece i)) None))))
      by true e h = step-so i (subst (IsAtInstruction c s i) (is-step instruction e) here) (action_of c (step_piece i)) refl
      by false e h = acting (is_action c.scope.types instruction) refl h

  position-so : s.frame.work ≡ [] → s.frame.call ≡ None → (p : Position) → s.position ≡ p → So (ready_for limit s.frame (by_piece c (piece_at c p)))
  position-so front idle at_end at = (front, idle, subst IsAtEnd (sym at) tt)
  position-so front idle (at_end_by e) at = (front, idle, subst IsAtEnd (sym at) tt)
  position-so front idle (at_index i) at =
      let stands = subst (IsAtPiece c) at sound.stands in
      subst (λ o. So (ready_for limit s.frame (by_piece c (piece_by c.scope.types i o)))) (sym stands.1) (piece-so i stands.0 (front, idle, at, stands.1) stands.2)

  met-so : (k : ℕ) → s.frame.work ≡ [] → s.frame.call ≡ Some k → So (ready_for limit s.frame (by_met k (met_at c s.position)))
  met-so k front opened =
      let m = sound.call k opened in
      subst (λ o. So (ready_for limit s.frame (by_met k o))) (sym m.1) (acts-so (a_call_is_open k front opened))

  call-so : s.frame.work ≡ [] → (call : Option ℕ) → s.frame.call ≡ call → So (ready_for limit s.frame (call_or_piece c s.position call))
  call-so front None idle = position-so front idle s.position refl
  call-so front (Some k) opened = met-so k front opened

  work-so : (work : List (Cell Name)) → s.frame.work ≡ work → So (ready_for limit s.frame (item_or work (call_or_piece c s.position s.frame.call)))
  work-so (item ∷ work) front = acts-so (an_item_waits item work front)
  work-so [] front = call-so front s.frame.call refl

  pub stands-so : So (code_ready c limit s)
  stands-so = work-so s.frame.work refl

  -- and back
  ready-at : (i : ℕ) (instruction : Instruction) → IsAtInstruction c s i instruction → code_ready c limit s ≡ ready_for limit s.frame (by_piece c (piece_by c.scope.types i (Some instruction)))
  ready-at i instruction here =
      ap (λ w. ready_for limit s.frame (item_or w (call_or_piece c s.position s.frame.call))) here.0 ∙ ap (λ k. ready_for limit s.frame (call_or_piece c s.position k)) here.1
      ∙ ap (λ p. ready_for limit s.frame (by_piece c (piece_at c p))) here.2 ∙ ap (λ o. ready_for limit s.frame (by_piece c (piece_by c.scope.types i o))) here.3

  ready-step : (i : ℕ) → IsAtInstruction c s i Step → (o : Option Met) → action_of c (step_piece i) ≡ o → code_ready c limit s ≡ ready_for limit s.frame (by_action (step_piece i) o)
  ready-step i here o found = ready-at i Step here ∙ ap (λ o. ready_for limit s.frame (by_action (step_piece i) o)) found

  leads-ready : (i : ℕ) (action : Instruction) → IsAtInstruction c s i Step → LeadsToAction c (suc i) action → code_ready c limit s ≡ within_steps true (within) (acts)
  leads-ready i action here leads = let r = leads-found c (suc i) action leads in ready-step i here (Some r.0) r.1

  alone-ready : (i : ℕ) → IsAtInstruction c s i Step → ((action : Instruction) → LeadsToAction c (suc i) action → ⊥) → code_ready c limit s ≡ within_steps true (within) local
  alone-ready i here none = by (action_of c (step_piece i)) refl
    where
      by : (o : Option Met) → action_of c (step_piece i) ≡ o → code_ready c limit s ≡ within_steps true (within) local
      by None found = ready-step i here None found
      by (Some met) found = absurd (none met.instruction (found-leads c (drop (suc i) c.code.code) (suc i) met refl found))

  spent-ready : (i : ℕ) → IsAtInstruction c s i Step → within ≡ false → code_ready c limit s ≡ out_of_steps
  spent-ready i here e = by (action_of c (step_piece i)) refl
    where
      by : (o : Option Met) → action_of c (step_piece i) ≡ o → code_ready c limit s ≡ out_of_steps
      by None found = ready-step i here None found ∙ ap (λ b. within_steps true b local) e
      by (Some met) found = ready-step i here (Some met) found ∙ ap (λ b. within_steps true b (acts)) e

  call-ready : (k : ℕ) → s.frame.work ≡ [] → s.frame.call ≡ Some k → code_ready c limit s ≡ acts
  call-ready k front opened =
      let m = sound.call k opened in
      ap (λ w. ready_for limit s.frame (item_or w (call_or_piece c s.position s.frame.call))) front ∙ ap (λ o. ready_for limit s.frame (call_or_piece c s.position o)) opened ∙ ap (λ o. ready_for limit s.frame (by_met k o)) m.1

  there-ready : (i : ℕ) (instruction : Instruction) → IsAtInstruction c s i instruction → is_action c.scope.types instruction ≡ true → code_ready c limit s ≡ acts
  there-ready i instruction here e = ready-at i instruction here ∙ by (is_step instruction) refl
    where
      by : (t : Bool) → is_step instruction ≡ t → ready_for limit s.frame (by_piece c (cond t (Some (step_piece i)) (cond (is_action c.scope.types instruction) (Some (action_piece i)) None))) ≡ acts
      by true is = absurd (false≢true (subst (λ i. is_action c.scope.types i ≡ true) (is-step instruction is) e))
      by false is =
          ap (λ t. ready_for limit s.frame (by_piece c (cond t (Some (action_piece i)) None))) e ∙ ap (λ o. ready_for limit s.frame (by_action (action_piece i) o)) (action-found i instruction here.3 e)

  ready-acts : IsActionNext c limit s → code_ready c limit s ≡ acts
  ready-acts (an_item_waits item work front) = ap (λ w. ready_for limit s.frame (item_or w (call_or_piece c s.position s.frame.call))) front
  ready-acts (a_call_is_open k front opened) = call-ready k front opened
  ready-acts (an_action_is_there i instruction here e) = there-ready i instruction here e
  ready-acts (a_step_leads_to_one i action here leads few) = leads-ready i action here leads ∙ ap (λ b. within_steps true b (acts)) (to-below s.frame.steps limit few)

  end-ready : s.frame.work ≡ [] → s.frame.call ≡ None → (p : Position) → s.position ≡ p → IsAtEnd p → code_ready c limit s ≡ ended
  end-ready front idle p at is =
      ap (λ w. ready_for limit s.frame (item_or w (call_or_piece c s.position s.frame.call))) front ∙ ap (λ k. ready_for limit s.frame (call_or_piece c s.position k)) idle
      ∙ ap (λ p. ready_for limit s.frame (by_piece c (piece_at c p))) at ∙ by p is
    where
      by : (p : Position) → IsAtEnd p → ready_for limit s.frame (by_piece c (piece_at c p)) ≡ ended
      by (at_index i) is = absurd is
      by at_end is = refl
      by (at_end_by e) is = refl

  pub so-ready : (t : Standing) → So t → code_ready c limit s ≡ t
  so-ready ended h = end-ready h.0 h.1 s.position refl h.2
  so-ready out_of_steps h = spent-ready h.0 h.1 (to-not_below s.frame.steps limit h.2)
  so-ready out_of_actions h = ready-acts h.0 ∙ ap to_act (to-not_below s.frame.actions greatest_actions h.1)
  so-ready waiting h = absurd h
  so-ready local h = alone-ready h.0 h.1 h.2 ∙ ap (λ b. within_steps true b local) (to-below s.frame.steps limit h.3)
  so-ready acting h = ready-acts h.0 ∙ ap to_act (to-below s.frame.actions greatest_actions h.1)

pub processes-stand_so : ProcessesStandSo
processes-stand_so image limit x sound c at t =
    let here : (code_machine image).ready limit x ≡ code_ready c limit x = ap (ready_if limit x) at in (
      (λ e. subst (StandsSo c limit x) (sym here ∙ e) (stands-so c x (sound-at image x c sound at) limit)),
      (λ h. here ∙ so-ready c x (sound-at image x c sound at) limit t h),
    )
