-- What a run keeps of what stands at labels, from where a process of good code begins, through its local steps, and up to its actions.
use Rattle.std.proofs.Common.{◌≡◌, ◌⊎◌, inl, inr, ℕ, suc, List, [], ◌∷◌, Bool, true, false, cond, Option, Some, None, option_and_then, refl, sym, ap, subst, ◌∙◌}
use Rattle.std.specs.Prelude.{drop}
use Rattle.herm_model.specs.Lists.{IsIn}
use Rattle.herm_model.specs.Outcomes.{ok}
use Rattle.herm_model.specs.Values.{Name, Cell, cell, an_inport, no_parts, Value}
use Rattle.herm_model.specs.WellFormedTables.{IsWellFormedTable}
use Rattle.herm_model.proofs.Options.{none-not_some, some-injective}
use Rattle.herm_forms.specs.Frames.{Frame, goes, counted_step}
use Rattle.herm_forms.proofs.Counting.{recount}
use Rattle.herm_instructions.specs.Actions.{is_action}
use Rattle.herm_instructions.specs.GoodCode.{Arrives, IsGood}
use Rattle.herm_instructions.specs.Images.{CodeModule, Image, instruction_at}
use Rattle.herm_instructions.specs.Instructions.{Instruction, Step}
use Rattle.herm_instructions.specs.Labels.{Label}
use Rattle.herm_instructions.specs.Pieces.{is_operand}
use Rattle.herm_instructions.specs.Places.{label_at, label_at_start}
use Rattle.herm_code_machine.specs.CodeLocal.{IsLocallySoundCode}
use Rattle.herm_code_machine.specs.CodeSeen.{label_of}
use Rattle.herm_code_machine.specs.CodeStates.{Position, at_index, CodeState, code_begin, to_next_piece}
use Rattle.herm_code_machine.specs.CodeSteps.{CodeNext, an_item, a_reply, an_action, a_local_piece, nothing, code_next, counted_if, step_next, code_local_step}
use Rattle.herm_code_machine.specs.Effects.{effect}
use Rattle.herm_code_machine.specs.Pieces.{Piece, Met, piece_at, action_from, action_of, pushed, operand, behind_operands}
use Rattle.herm_code_machine.specs.ReadyCode.{ReadyCode, ready_code}
use Rattle.herm_code_machine.specs.Stacks.{Effect}
use Rattle.herm_code_machine.proofs.sound.ActionSteps.{dropped-got, ActionAt, Acting, operand-there, step-or-action}
use Rattle.herm_code_machine.proofs.sound.AlongRuns as runs
use Rattle.herm_code_machine.proofs.sound.AlongRuns.{KeepsAlong, behind, Comes, along-next}
use Rattle.herm_code_machine.proofs.sound.AtLabels.{Holds}
use Rattle.herm_code_machine.proofs.sound.Between.{AreAlone, IsAtRest, holds-at}
use Rattle.herm_code_machine.proofs.sound.Between as between
use Rattle.herm_code_machine.proofs.sound.CopiedStacks.{AreCopied}
use Rattle.herm_code_machine.proofs.sound.LocalSteps.{ComesNext, by_local, comes-next, step-piece, past-step}
use Rattle.herm_code_machine.proofs.sound.RunsThere.{begins-at, first_state}

module _ (exceptions' : ℕ) (image : Image) (good : IsGood exceptions' image) (formed : IsWellFormedTable exceptions' image.types) (m : CodeModule) (in-image : IsIn m image.modules) (name : Name → Name)
    (Q : Label → List Value → Frame Name → Type 0) (E : Frame Name → Type 0) (keeps : KeepsAlong exceptions' image good formed m in-image name Q E)
    (steps : (l : Label) (stack : List Value) (b : Frame Name) → Q l stack b → Q (behind exceptions' image good formed m in-image name Step ok l) stack b) (recounts : (s a : ℕ) (l : Label) (stack : List Value) (b : Frame Name) → Q l stack b → Q l stack (recount s a b)) where
  abbrev code : ReadyCode
  code = ready_code image (label_at image.types image.constants) m

  abbrev pub ComesSo : CodeState Name → Type 0
  ComesSo s = Comes exceptions' image good formed m in-image name Q E keeps s

  -- it is so at the label of the position
  abbrev pub AtLabel : CodeState Name → Type 0
  AtLabel s = (l : Label) → label_of code s.position ≡ Some l → Q l s.stack s.frame

  -- as a process begins
  pub begins-along : (number' number port : ℕ) (n : Name) (t : CodeState Name) → Q label_at_start [] (first_state exceptions' image good formed m in-image number' number port n).frame
      → code_begin name code number' number (cell n (an_inport port) no_parts) ≡ Some t → ComesSo t
  begins-along number' number port n t so is =
      let s = first_state exceptions' image good formed m in-image number' number port n in
      let l = begins-at exceptions' image good formed m in-image number' number port n in
      along-next exceptions' image good formed m in-image name Q E keeps s t (inl (record { index = 0; label = l.0; stands = l.1; so = keeps.arrives label_at_start l.0 [] s.frame l.2 so })) is

  -- behind a step
  past-so : (i : ℕ) (l next : Label) (stack : List Value) (b : Frame Name) → Arrives (behind exceptions' image good formed m in-image name Step ok l) next → Q l stack b → Q next stack b
  past-so i l next stack b a so = keeps.arrives (behind exceptions' image good formed m in-image name Step ok l) next stack b a (steps l stack b so)

  -- a local step
  pub local-along : (s t : CodeState Name) → IsLocallySoundCode code s → AtLabel s → code_local_step name code s ≡ Some t → ComesSo t
  local-along s t sound so is = by (code_next code s) (comes-next code s) is
    where
      by : (next : CodeNext Name) → ComesNext code s next → step_next name code s next ≡ Some t → ComesSo t
      by (a_local_piece p) (by_local p' idle closed at none) is =
          let st = step-piece code s.position p at none in
          let h = holds-at code s st.index st.at closed sound in
          let first : CodeState Name = record { module_number = s.module_number; position = at_index p.first; stack = s.stack; frame = counted_if p.has_step s.frame } in
          let same : first ≡ record { module_number = s.module_number; position = at_index (suc st.index); stack = s.stack; frame = counted_step s.frame } =
          ap (λ (p : Piece). record { module_number = s.module_number; position = at_index p.first; stack = s.stack; frame = counted_if p.has_step s.frame }) st.is in
          let u : CodeState Name = record { module_number = s.module_number; position = at_index (suc st.index); stack = s.stack; frame = counted_step s.frame } in
          let here = past-step exceptions' image good formed m in-image st.index h.0 s u st.step h.1 h.2 h.3 (closed, subst AreAlone (sym idle) (λ item i. absurd i)) refl in
          let now = so h.0 (ap (label_of code) st.at ∙ h.1) in
          along-next exceptions' image good formed m in-image name Q E keeps u t
          (inl (record { index = suc st.index; label = here.0; stands = here.1; so = recounts (suc s.frame.steps) s.frame.actions here.0 s.stack s.frame (past-so st.index h.0 here.0 s.stack s.frame here.2 now) }))
          (sym (ap (to_next_piece name code) same) ∙ is)
      by (an_item item work) next is = none-not_some is
      by (a_reply k i instruction) next is = none-not_some is
      by (an_action p met) next is = none-not_some is
      by nothing next is = none-not_some is

  -- behind the operands of an action
  record Before (xs : List Instruction) (stack : List Value) (b : Frame Name) (met : Met) : Type 0 where
    label : Label
    before : List Value
    operands : behind_operands code b.variables xs stack ≡ Some before
    labelled : code.label met.index ≡ Some label
    so : Q label before b

  before-there : (xs : List Instruction) (i : ℕ) (l : Label) (stack : List Value) (b : Frame Name) (met : Met) → drop i m.code ≡ xs → code.label i ≡ Some l → Holds code l stack b → AreCopied image.types l.stack → Q l stack b → action_from image.types xs i ≡ Some met → Before xs stack b met
  before-there [] i l stack b met at labelled holds copied so is = none-not_some is
  before-there (instruction ∷ more) i l stack b met at labelled holds copied so is =
      let d = dropped-got m.code i instruction more at in
      by (is_operand instruction) refl d.0 is (λ j l stack next labelled holds copied so is. before-there more j l stack b met next labelled holds copied so is) d.1
    where
      acting : (t : Bool) → is_operand instruction ≡ false → cond t (Some (record { index = i; instruction = instruction })) None ≡ Some met → Before (instruction ∷ more) stack b met
      acting false other is = none-not_some is
      acting true other is = subst (Before (instruction ∷ more) stack b) (some-injective is) (record {
        label = l;
        before = stack;
        operands = ap (λ t. cond t (option_and_then (behind_operands code b.variables more) (pushed (operand code instruction b.variables) stack)) (Some stack)) other;
        labelled = labelled;
        so = so;
      })

      by : (t : Bool) → is_operand instruction ≡ t → instruction_at m i ≡ Some instruction → cond t (action_from image.types more (suc i)) (cond (is_action image.types instruction) (Some (record { index = i; instruction = instruction })) None) ≡ Some met
          → ((j : ℕ) (l : Label) (stack : List Value) → drop j m.code ≡ more → code.label j ≡ Some l → Holds code l stack b → AreCopied image.types l.stack → Q l stack b → action_from image.types more j ≡ Some met → Before more stack b met) → drop (suc i) m.code ≡ more
          → Before (instruction ∷ more) stack b met
      by false e at is again next = acting (is_action image.types instruction) e is
      by true e at is again next =
          let p = operand-there exceptions' image good formed m in-image name i instruction l stack b at labelled holds copied e in
          let finds = between.finds-there exceptions' image good formed m in-image i instruction l at labelled in
          let pushed' : Q (behind exceptions' image good formed m in-image name instruction ok l) (p.value ∷ stack) b =
          subst (λ s. Q (behind exceptions' image good formed m in-image name instruction ok l) s b) (ap (λ (e : Effect Name). e.stack) p.does) (keeps.effects i instruction l stack b finds holds copied so ok b (ap (λ (e : Effect Name). e.completion) p.does)) in
          let r = again p.index p.next (p.value ∷ stack) (ap (λ j. drop j m.code) p.follows ∙ next) p.labelled p.holds p.copied (keeps.arrives (behind exceptions' image good formed m in-image name instruction ok l) p.next (p.value ∷ stack) b p.arrives pushed') (ap (action_from image.types more) p.follows ∙ is) in
          record {
            label = r.label;
            before = r.before;
            operands = ap (λ t. cond t (option_and_then (behind_operands code b.variables more) (pushed (operand code instruction b.variables) stack)) (Some stack)) e
                ∙ ap (λ v. option_and_then (behind_operands code b.variables more) (pushed v stack)) p.is ∙ r.operands;
            labelled = r.labelled;
            so = r.so;
          }

  -- before an action that is next
  pub acting-along : (s : CodeState Name) (p : Piece) (met : Met) → IsLocallySoundCode code s → s.frame.work ≡ [] → s.frame.call ≡ None → AtLabel s → piece_at code s.position ≡ Some p → action_of code p ≡ Some met
      → (acting : Acting exceptions' image good formed m in-image name s p met) → Q acting.there.label acting.there.before s.frame
  acting-along s p met sound idle closed so at is acting =
      let x = step-or-action exceptions' image good formed m in-image name s.position p at in
      let h = holds-at code s x.0 x.1 closed sound in
      let r = by x.0 x.2 h.0 h.1 h.2 h.3 (so h.0 (ap (label_of code) x.1 ∙ h.1)) in
      let there = acting.there in
      let label : r.label ≡ there.label = some-injective (sym r.labelled ∙ there.labelled) in
      let before : r.before ≡ there.before = some-injective (sym r.operands ∙ there.operands) in
      subst (λ l. Q l there.before s.frame) label (subst (λ v. Q r.label v s.frame) before r.so)
    where
      rest : IsAtRest s.frame
      rest = (closed, subst AreAlone (sym idle) (λ item i. absurd i))

      by : (i : ℕ) → ((instruction_at m i ≡ Some Step) × (p ≡ record { has_step = true; first = suc i })) ⊎ (p ≡ record { has_step = false; first = i }) → (l : Label) → code.label i ≡ Some l → Holds code l s.stack s.frame → AreCopied image.types l.stack → Q l s.stack s.frame
          → Before (drop p.first m.code) s.stack s.frame met
      by i (inl step) l labelled holds copied so =
          let t : CodeState Name = record { module_number = s.module_number; position = at_index (suc i); stack = s.stack; frame = counted_step s.frame } in
          let next = past-step exceptions' image good formed m in-image i l s t step.0 labelled holds copied rest refl in
          let there = next.1 in
          let first : suc i ≡ p.first = ap (λ (p : Piece). p.first) (sym step.1) in
          before-there (drop p.first m.code) p.first next.0 s.stack s.frame met refl (ap code.label (sym first) ∙ there.labelled)
          (record { sound = record { types = ((there.holds).sound).types; facts = ((there.holds).sound).facts }; stack = (there.holds).stack; slots = (there.holds).slots; differ = (there.holds).differ }) there.copied
          (past-so i l next.0 s.stack s.frame next.2 so) is
      by i (inr e) l labelled holds copied so =
          let first : i ≡ p.first = ap (λ (p : Piece). p.first) (sym e) in
          before-there (drop p.first m.code) p.first l s.stack s.frame met refl (ap code.label (sym first) ∙ labelled) holds copied so is
