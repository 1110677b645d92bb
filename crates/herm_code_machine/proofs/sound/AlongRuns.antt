-- What each instruction of good code keeps of what stands at its label, a run to the next piece keeps too.
use Rattle.std.proofs.Common.{◌≡◌, ◌⊎◌, inl, inr, ℕ, zero, suc, List, [], Bool, true, false, cond, Option, Some, None, option_and_then, option_map, refl, sym, ap, subst, ◌∙◌}
use Rattle.std.specs.Prelude.{length}
use Rattle.herm_model.specs.Lists.{IsIn}
use Rattle.herm_model.specs.Outcomes.{Outcome}
use Rattle.herm_model.specs.Targets
use Rattle.herm_model.specs.Values.{Name, Value}
use Rattle.herm_model.specs.WellFormedTables.{IsWellFormedTable}
use Rattle.herm_model.proofs.Options.{none-not_some, some-injective, chain-some}
use Rattle.herm_forms.specs.EdgeFinalising.{arrive}
use Rattle.herm_forms.specs.Frames.{Frame, Completion, goes, stays, stuck}
use Rattle.herm_instructions.specs.Effects.{label_behind}
use Rattle.herm_instructions.specs.GoodCode.{Arrives, IsGood}
use Rattle.herm_instructions.specs.Images.{CodeModule, Image, instruction_at}
use Rattle.herm_instructions.specs.Instructions.{Instruction, Step, End, EndBy}
use Rattle.herm_instructions.specs.Labels.{Label}
use Rattle.herm_instructions.specs.Places.{label_at}
use Rattle.herm_code_machine.specs.CodeStates.{Position, at_index, at_end, at_end_by, CodeState, stack_after, state_behind, ended_at, done_instruction, begins_piece, on_by, on_from, run_on, to_next_piece}
use Rattle.herm_code_machine.specs.CodeSteps.{settled}
use Rattle.herm_code_machine.specs.Effects.{effect}
use Rattle.herm_code_machine.specs.ReadyCode.{ReadyCode, ready_code}
use Rattle.herm_code_machine.specs.Stacks.{Effect, leaving}
use Rattle.herm_code_machine.specs.laws.GoodImageLaws.{IsEnd}
use Rattle.herm_code_machine.proofs.RunsKeep.{AllOf}
use Rattle.herm_code_machine.proofs.kept.KeptEffects.{keeps-effect}
use Rattle.herm_code_machine.proofs.sound.AtLabels.{Holds, Finds, GoesWell}
use Rattle.herm_code_machine.proofs.sound.Between.{IsAtRest, rest-kept, any-rest, arrived}
use Rattle.herm_code_machine.proofs.sound.Between as between
use Rattle.herm_code_machine.proofs.sound.CopiedStacks.{AreCopied, label-copied}
use Rattle.herm_code_machine.proofs.sound.EachInstruction.{each-instruction}

-- a position that is an end
abbrev pub IsEnded : Position → Type 0
IsEnded (at_index i) = ⊥
IsEnded at_end = Unit {0}
IsEnded (at_end_by e) = Unit {0}

module _ (exceptions' : ℕ) (image : Image) (good : IsGood exceptions' image) (formed : IsWellFormedTable exceptions' image.types) (m : CodeModule) (in-image : IsIn m image.modules) (name : Name → Name) where
  abbrev pub code : ReadyCode
  code = ready_code image (label_at image.types image.constants) m

  abbrev pub StandsAt : ℕ → Label → CodeState Name → Type 0
  StandsAt i l s = between.StandsAt exceptions' image good formed m in-image i l s

  abbrev pub FoundAt : ℕ → Instruction → Label → Type 0
  FoundAt i instruction l = Finds exceptions' image m (between.HasWay exceptions' image good formed m in-image i instruction l) instruction l

  abbrev pub behind : Instruction → Outcome → Label → Label
  behind i o l = label_behind image.types m.variables image.constants i o l

  -- What stays so along a run: Q of what stands at a label, behind each instruction that is neither a step nor an action nor an end, and
  -- where a label arrives; and E of the frame that an end leaves.
  pub record KeepsAlong (Q : Label → List Value → Frame Name → Type 0) (E : Frame Name → Type 0) : Type 0 where
    pub effects : (i : ℕ) (instruction : Instruction) (l : Label) (stack : List Value) (b : Frame Name) → FoundAt i instruction l → Holds code l stack b → AreCopied image.types l.stack → Q l stack b
        → (o : Outcome) (b' : Frame Name) → (effect name code instruction stack b).completion ≡ goes o b' → Q (behind instruction o l) (stack_after o (effect name code instruction stack b).stack) b'
    pub arrives : (arriving listed : Label) (stack : List Value) (b : Frame Name) → Arrives arriving listed → Q arriving stack b → Q listed stack b
    pub ends : (l : Label) (stack : List Value) (b : Frame Name) (t : Targets.Target) → Q l stack b → E (arrive code.scope t b)

  module _ (Q : Label → List Value → Frame Name → Type 0) (E : Frame Name → Type 0) (keeps : KeepsAlong Q E) where
    -- a process at a label, with what is so there
    pub record At (s : CodeState Name) : Type 0 where
      pub index : ℕ
      pub label : Label
      pub stands : StandsAt index label s
      pub so : Q label s.stack s.frame

    -- a process at an end
    pub record Ended (s : CodeState Name) : Type 0 where
      pub position : IsEnded s.position
      pub stack : s.stack ≡ []
      pub so : E s.frame

    abbrev pub Comes : CodeState Name → Type 0
    Comes s = At s ⊎ Ended s

    -- what an outcome with a way leads to
    pub led : (i : ℕ) (instruction : Instruction) (l : Label) (s u : CodeState Name) (stack : List Value) (r : Completion Name) → GoesWell exceptions' image m (between.HasWay exceptions' image good formed m in-image i instruction l) code instruction l (leaving stack r)
        → AllOf IsAtRest r → ((q : Outcome) → AreCopied image.types (behind instruction q l).stack) → ((o : Outcome) (b : Frame Name) → r ≡ goes o b → Q (behind instruction o l) (stack_after o stack) b) → state_behind code s i instruction stack r ≡ Some u → At u
    led i instruction l s u stack r g all copied so is =
        let way = g.way in
        let t : CodeState Name = record { module_number = s.module_number; position = at_index way.index; stack = stack_after g.outcome stack; frame = g.frame } in
        let same : t ≡ u = some-injective (sym (ap (state_behind code s i instruction stack) g.completes ∙ ap (option_map (λ j. record { module_number = s.module_number; position = at_index j; stack = stack_after g.outcome stack; frame = g.frame })) way.leads_there) ∙ is) in
        subst At same (record {
          index = way.index;
          label = way.next;
          stands = record {
            position = refl;
            labelled = way.labelled;
            holds = arrived code (behind instruction g.outcome l) way.next (stack_after g.outcome stack) g.frame way.arrives g.holds;
            copied = subst (AreCopied image.types) (sym (way.arrives).stack) (copied g.outcome);
            rest = between.rest-of exceptions' image good formed m in-image r g.outcome g.frame g.completes all;
          };
          so = keeps.arrives (behind instruction g.outcome l) way.next (stack_after g.outcome stack) g.frame way.arrives (so g.outcome g.frame g.completes);
        })

    -- one instruction
    by-effect : (i : ℕ) (instruction : Instruction) (s u : CodeState Name) (l : Label) → instruction_at m i ≡ Some instruction → StandsAt i l s → Q l s.stack s.frame → (IsEnd instruction → ⊥) → begins_piece code instruction ≡ false
        → state_behind code s i instruction (effect name code instruction s.stack s.frame).stack (effect name code instruction s.stack s.frame).completion ≡ Some u → At u
    by-effect i instruction s u l at here so no_end other is =
        let finds = between.finds-there exceptions' image good formed m in-image i instruction l at here.labelled in
        let W = between.HasWay exceptions' image good formed m in-image i instruction l in
        let g = each-instruction exceptions' image formed good.constants m (between.good-module exceptions' image good formed m in-image).variables_known (label_at image.types image.constants) name W l s.stack s.frame here.holds instruction no_end other finds in
        let e = effect name code instruction s.stack s.frame in
        led i instruction l s u e.stack e.completion g (keeps-effect name IsAtRest rest-kept any-rest code instruction s.stack s.frame here.rest)
        (λ q. label-copied exceptions' image formed good.constants m W instruction q l finds here.copied)
        (λ o b h. keeps.effects i instruction l s.stack s.frame finds here.holds here.copied so o b h) is

    ended : (s u : CodeState Name) (p : Position) (t : Targets.Target) (l : Label) → IsEnded p → Q l s.stack s.frame → Some (ended_at code s p t) ≡ Some u → Ended u
    ended s u p t l is so e = subst Ended (some-injective e) (record { position = is; stack = refl; so = keeps.ends l s.stack s.frame t so })

    one-done : (i : ℕ) (instruction : Instruction) (s u : CodeState Name) (l : Label) → instruction_at m i ≡ Some instruction → StandsAt i l s → Q l s.stack s.frame → begins_piece code instruction ≡ false → done_instruction name code s i instruction ≡ Some u → Comes u
    one-done i End s u l at here so other is = inr (ended s u at_end Targets.end l tt so is)
    one-done i (EndBy x) s u l at here so other is = inr (ended s u (at_end_by x) (Targets.end_by x) l tt so is)
    one-done i instruction s u l at here so other is = inl (by-effect i instruction s u l at here so (λ v. v) other is)

    abbrev Again : ℕ → Type 0
    Again n = (s t : CodeState Name) → Comes s → run_on name code n s ≡ Some t → Comes t

    on-cond : (n : ℕ) → Again n → (i : ℕ) (instruction : Instruction) (s t : CodeState Name) (l : Label) → instruction_at m i ≡ Some instruction → StandsAt i l s → Q l s.stack s.frame → (b : Bool) → begins_piece code instruction ≡ b
        → cond b (Some s) (option_and_then (run_on name code n) (done_instruction name code s i instruction)) ≡ Some t → Comes t
    on-cond n again i instruction s t l at here so true begins is = subst Comes (some-injective is) (inl (record { index = i; label = l; stands = here; so = so }))
    on-cond n again i instruction s t l at here so false begins is =
        let u = chain-some (run_on name code n) (done_instruction name code s i instruction) t is in
        again u.0 t (one-done i instruction s u.0 l at here so begins u.1) u.2

    on-there : (n : ℕ) → Again n → (i : ℕ) (s t : CodeState Name) (l : Label) → StandsAt i l s → Q l s.stack s.frame → (o : Option Instruction) → instruction_at m i ≡ o → on_by name code (run_on name code n) s i o ≡ Some t → Comes t
    on-there n again i s t l here so None at is = none-not_some is
    on-there n again i s t l here so (Some instruction) at is = on-cond n again i instruction s t l at here so (begins_piece code instruction) refl is

    at-position : (n : ℕ) (s t : CodeState Name) (p : Position) → IsEnded p → Ended s → on_from name code (run_on name code n) s p ≡ Some t → Comes t
    at-position n s t (at_index i) e h is = absurd e
    at-position n s t at_end e h is = subst Comes (some-injective is) (inr h)
    at-position n s t (at_end_by x) e h is = subst Comes (some-injective is) (inr h)

    pub along : (n : ℕ) → Again n
    along zero s t h is = none-not_some is
    along (suc n) s t (inl h) is =
        let here = h.stands in
        on-there n (along n) h.index s t h.label here h.so (instruction_at m h.index) refl (sym (ap (on_from name code (run_on name code n) s) here.position) ∙ is)
    along (suc n) s t (inr h) is = at-position n s t s.position h.position h is

    pub along-next : (s t : CodeState Name) → Comes s → to_next_piece name code s ≡ Some t → Comes t
    along-next s t h is = along (suc (length m.code)) s t h is

    -- what follows an action
    pub along-settled : (i : ℕ) (instruction : Instruction) (l : Label) (s t : CodeState Name) (stack : List Value) (r : Completion Name) → GoesWell exceptions' image m (between.HasWay exceptions' image good formed m in-image i instruction l) code instruction l (leaving stack r)
        → AllOf IsAtRest r → ((q : Outcome) → AreCopied image.types (behind instruction q l).stack) → ((o : Outcome) (b : Frame Name) → r ≡ goes o b → Q (behind instruction o l) (stack_after o stack) b) → settled name code s i instruction stack r ≡ Some t → Comes t
    along-settled i instruction l s t stack r g all copied so is =
        let u = chain-some (to_next_piece name code) (state_behind code s i instruction stack r) t is in
        along-next u.0 t (inl (led i instruction l s u.0 stack r g all copied so u.1)) u.2
