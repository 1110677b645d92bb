-- Local steps of processes of good code: they are there, and leave processes sound within themselves.
use Rattle.std.proofs.Common.{◌≡◌, ℕ, suc, List, [], ◌∷◌, Bool, true, false, cond, Option, Some, None, refl, sym, ap, subst, ◌∙◌}
use Rattle.std.specs.Prelude.{IsTrue, nat_lt}
use mathlib.Core.Bool.{false≢true}
use Rattle.herm_model.specs.Lists.{IsIn}
use Rattle.herm_model.specs.Outcomes.{ok}
use Rattle.herm_model.specs.Values.{Name, Cell}
use Rattle.herm_model.specs.WellFormedTables.{IsWellFormedTable}
use Rattle.herm_model.proofs.Options.{none-not_some, some-injective}
use Rattle.herm_forms.specs.Frames.{counted_step}
use Rattle.herm_forms.proofs.forms.PlainForms.{same_facts}
use Rattle.herm_instructions.specs.Instructions.{Instruction, Step}
use Rattle.herm_instructions.specs.Labels.{Label}
use Rattle.herm_instructions.specs.Images.{CodeModule, Image, instruction_at}
use Rattle.herm_instructions.specs.Actions.{is_step, is_action}
use Rattle.herm_instructions.specs.Effects.{label_behind}
use Rattle.herm_instructions.specs.Places.{label_at}
use Rattle.herm_instructions.specs.GoodCode.{Arrives, IsGood}
use Rattle.herm_instructions.proofs.FactsBehind.{facts-held_behind}
use Rattle.herm_system.specs.Machines.{is_local, to_act, greatest_actions}
use Rattle.herm_code_machine.specs.ReadyCode.{ReadyCode, ready_code}
use Rattle.herm_code_machine.specs.CodeStates.{Position, at_index, at_end, at_end_by, CodeState}
use Rattle.herm_code_machine.specs.CodeLocal.{IsLocallySoundCode}
use Rattle.herm_code_machine.specs.Pieces.{Piece, Met, piece_by, piece_at, action_from, action_of}
use Rattle.herm_code_machine.specs.CodeSteps.{CodeNext, an_item, a_reply, an_action, a_local_piece, nothing, by_action, by_piece, by_met, call_or_piece, item_or, code_next, counted_if, step_next, code_local_step, code_ready, ready_for, within_steps, met_at}
use Rattle.herm_code_machine.proofs.CodeLimits.{first-dropped, action-there}
use Rattle.herm_code_machine.proofs.sound.AtLabels.{has_of, Holds, has_behind, holds-behind}
use Rattle.herm_code_machine.proofs.sound.Between.{IsAtRest, holds-at, arrived}
use Rattle.herm_code_machine.proofs.sound.Between as between
use Rattle.herm_code_machine.proofs.sound.CopiedStacks.{AreCopied}
use Rattle.herm_code_machine.proofs.sound.RunsThere as runs

-- What comes next in a process, by its work list, its call and its position.
pub data ComesNext (c : ReadyCode) (s : CodeState Name) : CodeNext Name → Type 0 where
  by_work : (item : Cell Name) (work : List (Cell Name)) → s.frame.work ≡ item ∷ work → ComesNext c s (an_item item work)
  by_call : (k : ℕ) (met : Met) → s.frame.work ≡ [] → s.frame.call ≡ Some k → met_at c s.position ≡ Some met → ComesNext c s (a_reply k met.index met.instruction)
  by_act : (p : Piece) (met : Met) → s.frame.work ≡ [] → s.frame.call ≡ None → piece_at c s.position ≡ Some p → action_of c p ≡ Some met → ComesNext c s (an_action p met)
  by_local : (p : Piece) → s.frame.work ≡ [] → s.frame.call ≡ None → piece_at c s.position ≡ Some p → action_of c p ≡ None → ComesNext c s (a_local_piece p)
  by_none : ComesNext c s nothing

pub comes-next : (c : ReadyCode) (s : CodeState Name) → ComesNext c s (code_next c s)
comes-next c s = by s.frame.work refl
  where
    of-action : (p : Piece) → s.frame.work ≡ [] → s.frame.call ≡ None → piece_at c s.position ≡ Some p → (o : Option Met) → action_of c p ≡ o → ComesNext c s (by_action p o)
    of-action p idle closed at None e = by_local p idle closed at e
    of-action p idle closed at (Some met) e = by_act p met idle closed at e

    of-piece : s.frame.work ≡ [] → s.frame.call ≡ None → (o : Option Piece) → piece_at c s.position ≡ o → ComesNext c s (by_piece c o)
    of-piece idle closed None e = by_none
    of-piece idle closed (Some p) e = of-action p idle closed e (action_of c p) refl

    of-met : (k : ℕ) → s.frame.work ≡ [] → s.frame.call ≡ Some k → (o : Option Met) → met_at c s.position ≡ o → ComesNext c s (by_met k o)
    of-met k idle opened None e = by_none
    of-met k idle opened (Some met) e = by_call k met idle opened e

    of-call : s.frame.work ≡ [] → (o : Option ℕ) → s.frame.call ≡ o → ComesNext c s (call_or_piece c s.position o)
    of-call idle None e = of-piece idle e (piece_at c s.position) refl
    of-call idle (Some k) e = of-met k idle e (met_at c s.position) refl

    by : (work : List (Cell Name)) → s.frame.work ≡ work → ComesNext c s (item_or work (call_or_piece c s.position s.frame.call))
    by [] e = of-call e s.frame.call refl
    by (item ∷ work) e = by_work item work e

-- a piece without an action begins with a step
pub record IsStepAt (c : ReadyCode) (p : Piece) (position : Position) : Type 0 where
  pub index : ℕ
  pub at : position ≡ at_index index
  pub step : instruction_at c.code index ≡ Some Step
  pub is : p ≡ record { has_step = true; first = suc index }

pub is-step : (i : Instruction) → is_step i ≡ true → i ≡ Step
is-step Step e = refl
is-step i e = absurd (false≢true e)

pub step-piece : (c : ReadyCode) (position : Position) (p : Piece) → piece_at c position ≡ Some p → action_of c p ≡ None → IsStepAt c p position
step-piece c at_end p at none = none-not_some at
step-piece c (at_end_by e) p at none = none-not_some at
step-piece c (at_index i) p at none = by (instruction_at c.code i) refl at
  where
    acting : (instruction : Instruction) → instruction_at c.code i ≡ Some instruction → (b : Bool) → is_action c.scope.types instruction ≡ b → cond b (Some (record { has_step = false; first = i })) None ≡ Some p → IsStepAt c p (at_index i)
    acting instruction there false e is = none-not_some is
    acting instruction there true e is =
        let rest = first-dropped c.code.code i instruction there in
        let acts : action_of c (record { has_step = false; first = i }) ≡ Some (record { index = i; instruction = instruction }) =
        ap (λ xs. action_from c.scope.types xs i) rest.1 ∙ action-there c.scope.types instruction rest.0 i e in
        none-not_some (sym none ∙ ap (action_of c) (sym (some-injective is)) ∙ acts)

    stepping : (instruction : Instruction) → instruction_at c.code i ≡ Some instruction → (b : Bool) → is_step instruction ≡ b
        → cond b (Some (record { has_step = true; first = suc i })) (cond (is_action c.scope.types instruction) (Some (record { has_step = false; first = i })) None) ≡ Some p → IsStepAt c p (at_index i)
    stepping instruction there true e is = record { index = i; at = refl; step = there ∙ ap (λ x. Some x) (is-step instruction e); is = sym (some-injective is) }
    stepping instruction there false e is = acting instruction there (is_action c.scope.types instruction) refl is

    by : (o : Option Instruction) → instruction_at c.code i ≡ o → piece_by c.scope.types i o ≡ Some p → IsStepAt c p (at_index i)
    by None there is = none-not_some is
    by (Some instruction) there is = stepping instruction there (is_step instruction) refl is

module _ (exceptions' : ℕ) (image : Image) (good : IsGood exceptions' image) (formed : IsWellFormedTable exceptions' image.types) (m : CodeModule) (in-image : IsIn m image.modules) where
  abbrev pub code : ReadyCode
  code = ready_code image (label_at image.types image.constants) m

  abbrev pub StandsAt : ℕ → Label → CodeState Name → Type 0
  StandsAt i l s = between.StandsAt exceptions' image good formed m in-image i l s

  abbrev pub Reaches : CodeState Name → CodeState Name → Type 0
  Reaches s t = runs.Reaches exceptions' image good formed m in-image s t

  -- behind a step the label behind it holds
  pub past-step : (i : ℕ) (l : Label) (s t : CodeState Name) → instruction_at m i ≡ Some Step → code.label i ≡ Some l → Holds code l s.stack s.frame → AreCopied image.types l.stack → IsAtRest s.frame
      → t ≡ record { module_number = s.module_number; position = at_index (suc i); stack = s.stack; frame = counted_step s.frame } → (next : Label) × StandsAt (suc i) next t × Arrives (label_behind image.types m.variables image.constants Step ok l) next
  past-step i l s t step labelled holds copied rest same =
      let way = (between.finds-there exceptions' image good formed m in-image i Step l step labelled).on ok refl in
      let index : way.index ≡ suc i = some-injective (sym way.leads_there) in
      let behind = holds-behind image m code Step l ok s.stack (counted_step s.frame) (same_facts code.scope (has_of l) (has_behind image m code Step l ok) s.frame.variables (λ f. sym (facts-held_behind image.types m.variables Step ok l.facts f)) holds.sound)
      holds.stack holds.slots holds.differ in
      let here : StandsAt (suc i) way.next (record { module_number = s.module_number; position = at_index (suc i); stack = s.stack; frame = counted_step s.frame }) = record {
        position = refl;
        labelled = ap code.label (sym index) ∙ way.labelled;
        holds = arrived code (label_behind image.types m.variables image.constants Step ok l) way.next s.stack (counted_step s.frame) way.arrives behind;
        copied = subst (AreCopied image.types) (sym (way.arrives).stack) copied;
        rest = rest;
      } in
      (way.next, subst (λ t. StandsAt (suc i) way.next t) (sym same) here, way.arrives)

  -- where a local piece is next, its step is there
  pub local-there : (name : Name → Name) (s : CodeState Name) (p : Piece) → IsLocallySoundCode code s → s.frame.work ≡ [] → s.frame.call ≡ None → piece_at code s.position ≡ Some p → action_of code p ≡ None
      → (t : CodeState Name) × (step_next name code s (a_local_piece p) ≡ Some t) × Reaches s t
  local-there name s p sound idle closed at none =
      let st = step-piece code s.position p at none in
      let h = holds-at code s st.index st.at closed sound in
      let first : CodeState Name = record { module_number = s.module_number; position = at_index p.first; stack = s.stack; frame = counted_if p.has_step s.frame } in
      let same : first ≡ record { module_number = s.module_number; position = at_index (suc st.index); stack = s.stack; frame = counted_step s.frame } =
      ap (λ (p : Piece). record { module_number = s.module_number; position = at_index p.first; stack = s.stack; frame = counted_if p.has_step s.frame }) st.is in
      let here = past-step st.index h.0 s first st.step h.1 h.2 h.3 (closed, subst (between.AreAlone) (sym idle) (λ item i. absurd i)) same in
      let r = runs.next-there exceptions' image good formed m in-image name (suc st.index) here.0 first here.1 in
      (r.0, r.1, r.2)

  -- a local step, if there is one
  pub local-sound : (name : Name → Name) (s t : CodeState Name) → IsLocallySoundCode code s → code_local_step name code s ≡ Some t → Reaches s t
  local-sound name s t sound is = by (code_next code s) (comes-next code s) is
    where
      by : (next : CodeNext Name) → ComesNext code s next → step_next name code s next ≡ Some t → Reaches s t
      by (a_local_piece p) (by_local p' idle closed at none) is =
          let r = local-there name s p sound idle closed at none in
          subst (Reaches s) (some-injective (sym r.1 ∙ is)) r.2
      by (an_item item work) next is = none-not_some is
      by (a_reply k i instruction) next is = none-not_some is
      by (an_action p met) next is = none-not_some is
      by nothing next is = none-not_some is

  -- where a local step is next, it is there
  pub local-goes : (name : Name → Name) (limit : ℕ) (s : CodeState Name) → IsLocallySoundCode code s → IsTrue (is_local (code_ready code limit s)) → (t : CodeState Name) × (code_local_step name code s ≡ Some t)
  local-goes name limit s sound local = by (code_next code s) (comes-next code s) local
    where
      never : {A : Type 0} (t : Bool) → IsTrue (is_local (to_act t)) → A
      never true h = absurd (false≢true h)
      never false h = absurd (false≢true h)

      never-act : {A : Type 0} (has within t : Bool) → IsTrue (is_local (within_steps has within (to_act t))) → A
      never-act true true t h = never t h
      never-act true false t h = absurd (false≢true h)
      never-act false within t h = never t h

      by : (next : CodeNext Name) → ComesNext code s next → IsTrue (is_local (ready_for limit s.frame next)) → (t : CodeState Name) × (step_next name code s next ≡ Some t)
      by (a_local_piece p) (by_local p' idle closed at none) h = let r = local-there name s p sound idle closed at none in (r.0, r.1)
      by (an_item item work) next h = never (nat_lt s.frame.actions greatest_actions) h
      by (a_reply k i instruction) next h = never (nat_lt s.frame.actions greatest_actions) h
      by (an_action p met) next h = never-act p.has_step (nat_lt s.frame.steps limit) (nat_lt s.frame.actions greatest_actions) h
      by nothing next h = absurd (false≢true h)
