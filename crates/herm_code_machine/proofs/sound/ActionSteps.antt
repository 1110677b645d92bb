-- Actions of processes of good code, but calls: what is wanted is there, and each answer leaves the process sound within itself.
use Rattle.std.proofs.Common.{◌≡◌, ◌⊎◌, inl, inr, ℕ, zero, suc, List, [], ◌∷◌, Bool, true, false, cond, Option, Some, None, option_and_then, refl, sym, ap, subst, ◌∙◌}
use Rattle.std.specs.Prelude.{slice_get, drop}
use mathlib.Core.Bool.{false≢true}
use Rattle.herm_model.specs.Lists.{IsIn}
use Rattle.herm_model.specs.Outcomes.{Outcome, ok}
use Rattle.herm_model.specs.Values.{Name, Cell, read_at, Value}
use Rattle.herm_model.specs.WellFormedTables.{IsWellFormedTable}
use Rattle.herm_model.proofs.Options.{none-not_some, some-injective}
use Rattle.herm_journal.specs.Messages.{CellWant, CellAction}
use Rattle.herm_system.specs.Suiting.{Answers}
use Rattle.herm_forms.specs.Evaluate.{Evaluated, gives, raises, no_value, value_there}
use Rattle.herm_model.proofs.Lists.{cons-head, cons-tail}
use Rattle.herm_model.specs.Expressions.{Literal}
use Rattle.herm_model.specs.Statements.{Form}
use Rattle.herm_forms.specs.Acts.{given_back}
use Rattle.herm_forms.proofs.KeptBodies
use Rattle.herm_forms.specs.Frames.{Frame, goes, counted_action, counted_step}
use Rattle.herm_forms.proofs.Counting.{recount}
use Rattle.herm_forms.proofs.forms.PlainForms.{same_body, same_outcome_of, never}
use Rattle.herm_instructions.specs.Instructions.{Instruction, Step, Const, Load, New, Send, Receive, Select, Call, Return, ReturnBy, Create}
use Rattle.herm_instructions.specs.Labels.{Label}
use Rattle.herm_instructions.specs.Images.{CodeModule, Image, instruction_at}
use Rattle.herm_instructions.specs.Actions.{is_step, is_action}
use Rattle.herm_instructions.specs.Effects.{label_behind}
use Rattle.herm_instructions.specs.Pieces.{is_operand}
use Rattle.herm_instructions.specs.Places.{label_at}
use Rattle.herm_instructions.specs.GoodCode.{Arrives, IsGood}
use Rattle.herm_code_machine.specs.ReadyCode.{ReadyCode, ready_code}
use Rattle.herm_code_machine.specs.Stacks.{pushing, leaving}
use Rattle.herm_code_machine.specs.Effects.{effect, constant_value}
use Rattle.herm_code_machine.specs.CodeActions.{code_wants, code_settles, kept_parameters, ports_of_choices, targets_of_choices}
use Rattle.herm_code_machine.specs.CodeStates.{Position, at_index, at_end, at_end_by, CodeState, leads, stack_after, to_next_piece}
use Rattle.herm_code_machine.specs.CodeLocal.{IsLocallySoundCode, IsCall}
use Rattle.herm_code_machine.specs.Pieces.{Piece, Met, piece_by, piece_at, action_from, action_of, operand, pushed, behind_operands}
use Rattle.herm_code_machine.specs.CodeSteps.{an_action, counted_if, wanted_next, settle_next, settled, settled_action}
use Rattle.herm_code_machine.proofs.RunsKeep.{AllOf}
use Rattle.herm_code_machine.proofs.kept.KeptEffects.{as-all}
use Rattle.herm_code_machine.proofs.sound.AtLabels.{Holds, GoesWell}
use Rattle.herm_code_machine.proofs.sound.ActionEffects.{each-action, TakesMessage}
use Rattle.herm_code_machine.proofs.sound.Between.{IsAtRest, AreAlone, rest-kept, any-rest, holds-at, arrived}
use Rattle.herm_code_machine.proofs.sound.Between as between
use Rattle.herm_code_machine.proofs.sound.CopiedStacks.{AreCopied, label-copied}
use Rattle.herm_code_machine.proofs.sound.EachEffect as each
use Rattle.herm_code_machine.proofs.sound.LocalSteps as steps
use Rattle.herm_code_machine.proofs.sound.RunsThere as runs

-- a constant and a copy raise nothing
constant-raises : (c : ReadyCode) (o : Option Literal) (x : ℕ) → constant_value o ≡ raises x → ⊥
constant-raises c None x e = cc
constant-raises c (Some l) x e = cc

value-raises : (o : Option (Cell Name)) (x : ℕ) → value_there o ≡ raises x → ⊥
value-raises None x e = cc
value-raises (Some d) x e = cc

-- the list from a place on
pub dropped-got : {X : Type 0} (xs : List X) (i : ℕ) (x : X) (more : List X) → drop i xs ≡ x ∷ more → (slice_get xs i ≡ Some x) × (drop (suc i) xs ≡ more)
dropped-got [] zero x more e = cc
dropped-got [] (suc i) x more e = cc
dropped-got (y ∷ ys) zero x more e = (ap Some (cons-head e), cons-tail e)
dropped-got (y ∷ ys) (suc i) x more e = dropped-got ys i x more e

module _ (exceptions' : ℕ) (image : Image) (good : IsGood exceptions' image) (formed : IsWellFormedTable exceptions' image.types) (m : CodeModule) (in-image : IsIn m image.modules) (name : Name → Name) where
  abbrev pub code : ReadyCode
  code = ready_code image (label_at image.types image.constants) m

  abbrev pub HasWay : ℕ → Instruction → Label → Outcome → Type 0
  HasWay i instruction l o = between.HasWay exceptions' image good formed m in-image i instruction l o

  -- an operand of an action, before the action
  pub record Pushes (i : ℕ) (instruction : Instruction) (l : Label) (stack : List Value) (b : Frame Name) : Type 0 where
    pub value : Value
    pub is : operand code instruction b.variables ≡ gives value
    pub index : ℕ
    pub next : Label
    pub follows : index ≡ suc i
    pub labelled : code.label index ≡ Some next
    pub does : effect name code instruction stack b ≡ leaving (value ∷ stack) (goes ok b)
    pub arrives : Arrives (label_behind image.types m.variables image.constants instruction ok l) next
    pub holds : Holds code next (value ∷ stack) b
    pub copied : AreCopied image.types next.stack

  pushes-by : (i : ℕ) (instruction : Instruction) (l : Label) (stack : List Value) (b : Frame Name) (e : Evaluated) → ((x : ℕ) → e ≡ raises x → ⊥) → operand code instruction b.variables ≡ e → effect name code instruction stack b ≡ pushing e stack b
      → ((j : ℕ) → leads code i instruction ok ≡ Some j → j ≡ suc i) → AreCopied image.types (label_behind image.types m.variables image.constants instruction ok l).stack → GoesWell exceptions' image m (HasWay i instruction l) code instruction l (effect name code instruction stack b) → Pushes i instruction l stack b
  pushes-by i instruction l stack b e none is does onward copied g = by e none is does (subst (GoesWell exceptions' image m (HasWay i instruction l) code instruction l) does g)
    where
      of : (v : Value) → operand code instruction b.variables ≡ gives v → effect name code instruction stack b ≡ leaving (v ∷ stack) (goes ok b) → GoesWell exceptions' image m (HasWay i instruction l) code instruction l (leaving (v ∷ stack) (goes ok b)) → Pushes i instruction l stack b
      of v is does g =
          let o = same_outcome_of ok g.outcome b g.frame g.completes in
          let d = same_body ok g.outcome b g.frame g.completes in
          let way = subst (HasWay i instruction l) (sym o) g.way in
          let holds = subst (λ o. Holds code (label_behind image.types m.variables image.constants instruction o l) (stack_after o (v ∷ stack)) g.frame) (sym o) g.holds in
          record {
            value = v;
            is = is;
            index = way.index;
            next = way.next;
            follows = onward way.index way.leads_there;
            labelled = way.labelled;
            does = does;
            arrives = way.arrives;
            holds = arrived code (label_behind image.types m.variables image.constants instruction ok l) way.next (v ∷ stack) b way.arrives (subst (λ d. Holds code (label_behind image.types m.variables image.constants instruction ok l) (v ∷ stack) d) (sym d) holds);
            copied = subst (AreCopied image.types) (sym (way.arrives).stack) copied;
          }

      by : (e : Evaluated) → ((x : ℕ) → e ≡ raises x → ⊥) → operand code instruction b.variables ≡ e → effect name code instruction stack b ≡ pushing e stack b → GoesWell exceptions' image m (HasWay i instruction l) code instruction l (pushing e stack b) → Pushes i instruction l stack b
      by (gives v) none is does g = of v is does g
      by (raises x) none is does g = absurd (none x refl)
      by no_value none is does g = never g.outcome g.frame g.completes

  pub operand-there : (i : ℕ) (instruction : Instruction) (l : Label) (stack : List Value) (b : Frame Name) → instruction_at m i ≡ Some instruction → code.label i ≡ Some l → Holds code l stack b → AreCopied image.types l.stack → is_operand instruction ≡ true → Pushes i instruction l stack b
  operand-there i (Const k) l stack b at labelled holds copied is =
      let finds = between.finds-there exceptions' image good formed m in-image i (Const k) l at labelled in
      pushes-by i (Const k) l stack b (constant_value (slice_get image.constants k)) (constant-raises code (slice_get image.constants k)) refl refl (λ j e. sym (some-injective e)) (label-copied exceptions' image formed good.constants m (HasWay i (Const k) l) (Const k) ok l finds copied)
      (each.const-goes exceptions' image formed good.constants m (between.good-module exceptions' image good formed m in-image).variables_known (label_at image.types image.constants) name (HasWay i (Const k) l) l stack b holds k finds)
  operand-there i (Load p) l stack b at labelled holds copied is =
      let finds = between.finds-there exceptions' image good formed m in-image i (Load p) l at labelled in
      pushes-by i (Load p) l stack b (value_there (read_at p b.variables)) (value-raises (read_at p b.variables)) refl refl (λ j e. sym (some-injective e)) (label-copied exceptions' image formed good.constants m (HasWay i (Load p) l) (Load p) ok l finds copied)
      (each.load-goes exceptions' image formed good.constants m (between.good-module exceptions' image good formed m in-image).variables_known (label_at image.types image.constants) name (HasWay i (Load p) l) l stack b holds p finds)
  operand-there i instruction l stack b at labelled holds copied is = absurd (false≢true is)

  -- an action behind its operands
  pub record ActionAt (xs : List Instruction) (stack : List Value) (b : Frame Name) (met : Met) : Type 0 where
    pub label : Label
    pub before : List Value
    pub operands : behind_operands code b.variables xs stack ≡ Some before
    pub at : instruction_at m met.index ≡ Some met.instruction
    pub acts : is_action image.types met.instruction ≡ true
    pub labelled : code.label met.index ≡ Some label
    pub holds : Holds code label before b
    pub copied : AreCopied image.types label.stack

  pub action-there : (xs : List Instruction) (i : ℕ) (l : Label) (stack : List Value) (b : Frame Name) (met : Met) → drop i m.code ≡ xs → code.label i ≡ Some l → Holds code l stack b → AreCopied image.types l.stack → action_from image.types xs i ≡ Some met → ActionAt xs stack b met
  action-there [] i l stack b met at labelled holds copied is = none-not_some is
  action-there (instruction ∷ more) i l stack b met at labelled holds copied is =
      let d = dropped-got m.code i instruction more at in
      by (is_operand instruction) refl d.0 is (λ j l stack next labelled holds copied is. action-there more j l stack b met next labelled holds copied is) d.1
    where
      acting : (t : Bool) → is_action image.types instruction ≡ t → is_operand instruction ≡ false → instruction_at m i ≡ Some instruction → cond t (Some (record { index = i; instruction = instruction })) None ≡ Some met → ActionAt (instruction ∷ more) stack b met
      acting false e other at is = none-not_some is
      acting true e other at is = subst (ActionAt (instruction ∷ more) stack b) (some-injective is) (record {
        label = l;
        before = stack;
        operands = ap (λ t. cond t (option_and_then (behind_operands code b.variables more) (pushed (operand code instruction b.variables) stack)) (Some stack)) other;
        at = at;
        acts = e;
        labelled = labelled;
        holds = holds;
        copied = copied;
      })

      by : (t : Bool) → is_operand instruction ≡ t → instruction_at m i ≡ Some instruction → cond t (action_from image.types more (suc i)) (cond (is_action image.types instruction) (Some (record { index = i; instruction = instruction })) None) ≡ Some met
          → ((j : ℕ) (l : Label) (stack : List Value) → drop j m.code ≡ more → code.label j ≡ Some l → Holds code l stack b → AreCopied image.types l.stack → action_from image.types more j ≡ Some met → ActionAt more stack b met) → drop (suc i) m.code ≡ more → ActionAt (instruction ∷ more) stack b met
      by false e at is again next = acting (is_action image.types instruction) refl e at is
      by true e at is again next =
          let p = operand-there i instruction l stack b at labelled holds copied e in
          let r = again p.index p.next (p.value ∷ stack) (ap (λ j. drop j m.code) p.follows ∙ next) p.labelled p.holds p.copied (ap (action_from image.types more) p.follows ∙ is) in
          record {
            label = r.label;
            before = r.before;
            operands = ap (λ t. cond t (option_and_then (behind_operands code b.variables more) (pushed (operand code instruction b.variables) stack)) (Some stack)) e
                ∙ ap (λ v. option_and_then (behind_operands code b.variables more) (pushed v stack)) p.is ∙ r.operands;
            at = r.at;
            acts = r.acts;
            labelled = r.labelled;
            holds = r.holds;
            copied = r.copied;
          }

  -- a process at a piece with an action
  pub record Acting (s : CodeState Name) (p : Piece) (met : Met) : Type 0 where
    pub there : ActionAt (drop p.first m.code) s.stack s.frame met
    pub rest : IsAtRest s.frame

  pub step-or-action : (position : Position) (p : Piece) → piece_at code position ≡ Some p → (i : ℕ) × (position ≡ at_index i) × (((instruction_at m i ≡ Some Step) × (p ≡ record { has_step = true; first = suc i })) ⊎ (p ≡ record { has_step = false; first = i }))
  step-or-action at_end p e = none-not_some e
  step-or-action (at_end_by x) p e = none-not_some e
  step-or-action (at_index i) p e = by (instruction_at m i) refl e
    where
      acting : (instruction : Instruction) → (t : Bool) → cond t (Some (record { has_step = false; first = i })) None ≡ Some p → (j : ℕ) × (at_index i ≡ at_index j) × (((instruction_at m j ≡ Some Step) × (p ≡ record { has_step = true; first = suc j })) ⊎ (p ≡ record { has_step = false; first = j }))
      acting instruction true e = (i, refl, inr (sym (some-injective e)))
      acting instruction false e = none-not_some e

      stepping : (instruction : Instruction) → instruction_at m i ≡ Some instruction → (t : Bool) → is_step instruction ≡ t → cond t (Some (record { has_step = true; first = suc i })) (cond (is_action image.types instruction) (Some (record { has_step = false; first = i })) None) ≡ Some p
          → (j : ℕ) × (at_index i ≡ at_index j) × (((instruction_at m j ≡ Some Step) × (p ≡ record { has_step = true; first = suc j })) ⊎ (p ≡ record { has_step = false; first = j }))
      stepping instruction at true is e = (i, refl, inl (at ∙ ap Some (steps.is-step instruction is), sym (some-injective e)))
      stepping instruction at false is e = acting instruction (is_action image.types instruction) e

      by : (o : Option Instruction) → instruction_at m i ≡ o → piece_by image.types i o ≡ Some p → (j : ℕ) × (at_index i ≡ at_index j) × (((instruction_at m j ≡ Some Step) × (p ≡ record { has_step = true; first = suc j })) ⊎ (p ≡ record { has_step = false; first = j }))
      by None at e = none-not_some e
      by (Some instruction) at e = stepping instruction at (is_step instruction) refl e

  pub acting-at : (s : CodeState Name) (p : Piece) (met : Met) → IsLocallySoundCode code s → s.frame.work ≡ [] → s.frame.call ≡ None → piece_at code s.position ≡ Some p → action_of code p ≡ Some met → Acting s p met
  acting-at s p met sound idle closed at is =
      let x = step-or-action s.position p at in
      let h = holds-at code s x.0 x.1 closed sound in
      record { there = by x.0 x.2 h.0 h.1 h.2 h.3; rest = rest }
    where
      rest : IsAtRest s.frame
      rest = (closed, subst AreAlone (sym idle) (λ item i. absurd i))

      by : (i : ℕ) → ((instruction_at m i ≡ Some Step) × (p ≡ record { has_step = true; first = suc i })) ⊎ (p ≡ record { has_step = false; first = i }) → (l : Label) → code.label i ≡ Some l → Holds code l s.stack s.frame → AreCopied image.types l.stack → ActionAt (drop p.first m.code) s.stack s.frame met
      by i (inl step) l labelled holds copied =
          let t : CodeState Name = record { module_number = s.module_number; position = at_index (suc i); stack = s.stack; frame = counted_step s.frame } in
          let next = steps.past-step exceptions' image good formed m in-image i l s t step.0 labelled holds copied rest refl in
          let there = next.1 in
          let first : suc i ≡ p.first = ap (λ (p : Piece). p.first) (sym step.1) in
          action-there (drop p.first m.code) p.first next.0 s.stack s.frame met refl (ap code.label (sym first) ∙ there.labelled)
          (record { sound = record { types = ((there.holds).sound).types; facts = ((there.holds).sound).facts }; stack = (there.holds).stack; slots = (there.holds).slots; differ = (there.holds).differ }) there.copied is
      by i (inr e) l labelled holds copied =
          let first : i ≡ p.first = ap (λ (p : Piece). p.first) (sym e) in
          action-there (drop p.first m.code) p.first l s.stack s.frame met refl (ap code.label (sym first) ∙ labelled) holds copied is

  -- what an answer to an action but a call leaves at rest
  pub settles-rest : (i : Instruction) → is_action image.types i ≡ true → (IsCall i → ⊥) → (stack : List Value) (at : ℕ) (a : CellAction Name) (b : Frame Name) → IsAtRest b → AllOf IsAtRest (code_settles name code i stack at a b).completion
  settles-rest (New x t) acts none stack at a b h = as-all name IsAtRest rest-kept any-rest _ (KeptBodies.all-settle name IsAtRest IsAtRest rest-kept code.scope (Form.New x) at a b h (λ v. absurd v))
  settles-rest (Send x o trim) acts none stack at a b h = as-all name IsAtRest rest-kept any-rest _ (KeptBodies.all-send name IsAtRest IsAtRest rest-kept trim x a b h)
  settles-rest (Receive x i) acts none stack at a b h = as-all name IsAtRest rest-kept any-rest _ (KeptBodies.all-settle name IsAtRest IsAtRest rest-kept code.scope (Form.Receive x i) at a b h (λ v. absurd v))
  settles-rest (Select choices) acts none stack at a b h = as-all name IsAtRest rest-kept any-rest _ (KeptBodies.all-select name IsAtRest IsAtRest rest-kept (targets_of_choices choices) (ports_of_choices choices) at a b h)
  settles-rest (Call o arguments keep) acts none stack at a b h = absurd (none tt)
  settles-rest (Return x) acts none stack at a b h = as-all name IsAtRest rest-kept any-rest _ (KeptBodies.all-settle name IsAtRest IsAtRest rest-kept code.scope (Form.Return x) at a b h (λ v. absurd v))
  settles-rest (ReturnBy x e kept) acts none stack at a b h =
      as-all name IsAtRest rest-kept any-rest _ (KeptBodies.all-return name IsAtRest IsAtRest rest-kept (given_back code.scope (kept_parameters code x kept) b) x a (λ t. KeptBodies.is-given name IsAtRest IsAtRest rest-kept code.scope (kept_parameters code x kept) b t h))
  settles-rest (Create o n) acts none stack at a b h = as-all name IsAtRest rest-kept any-rest _ (KeptBodies.all-settle name IsAtRest IsAtRest rest-kept code.scope (Form.Create o n) at a b h (λ v. absurd v))
  settles-rest i acts none stack at a b h = absurd (false≢true acts)

  pub counted-is : (t : Bool) (b : Frame Name) → counted_action (counted_if t b) ≡ recount (counted_if t b).steps (suc b.actions) b
  counted-is true b = refl
  counted-is false b = refl

  -- what an action but a call wants, and what each answer to it leaves
  pub record ActionGoes (s : CodeState Name) (p : Piece) (met : Met) : Type 0 where
    pub want : CellWant Name
    pub wanted : wanted_next name code s (an_action p met) ≡ Some want
    pub answers : (at : ℕ) (a : CellAction Name) → Answers want a → TakesMessage code met.instruction s.frame at a
        → (t : CodeState Name) × (settle_next name code s at a (an_action p met) ≡ Some t) × runs.Reaches exceptions' image good formed m in-image s t

  pub action-goes : (s : CodeState Name) (p : Piece) (met : Met) → Acting s p met → (IsCall met.instruction → ⊥) → ActionGoes s p met
  action-goes s p met acting none =
      let x = acting.there in
      let finds = between.finds-there exceptions' image good formed m in-image met.index met.instruction x.label x.at x.labelled in
      let acts = each-action exceptions' image formed good.constants m (between.good-module exceptions' image good formed m in-image).variables_known (label_at image.types image.constants) name (HasWay met.index met.instruction x.label) x.label x.before s.frame x.holds met.instruction x.acts none finds in
      record {
        want = acts.want;
        wanted = ap (option_and_then (λ stack. code_wants name code met.instruction stack s.frame)) x.operands ∙ acts.wanted;
        answers = λ at a h takes. settled-there x at a (acts.answers (counted_if p.has_step s.frame).steps (suc s.frame.actions) at a h takes);
      }
    where
      settled-there : (x : ActionAt (drop p.first m.code) s.stack s.frame met) (at : ℕ) (a : CellAction Name)
          → GoesWell exceptions' image m (HasWay met.index met.instruction x.label) code met.instruction x.label (code_settles name code met.instruction x.before at a (recount (counted_if p.has_step s.frame).steps (suc s.frame.actions) s.frame))
          → (t : CodeState Name) × (settle_next name code s at a (an_action p met) ≡ Some t) × runs.Reaches exceptions' image good formed m in-image s t
      settled-there x at a g =
          let b = recount (counted_if p.has_step s.frame).steps (suc s.frame.actions) s.frame in
          let e = code_settles name code met.instruction x.before at a b in
          let rest = between.rest-of exceptions' image good formed m in-image e.completion g.outcome g.frame g.completes (settles-rest met.instruction x.acts none x.before at a b acting.rest) in
          let led = between.led-on exceptions' image good formed m in-image met.index met.instruction x.label s e.stack e.completion g.outcome g.frame g.completes g.way g.holds (label-copied exceptions' image formed good.constants m (HasWay met.index met.instruction x.label) met.instruction g.outcome x.label (between.finds-there exceptions' image good formed m in-image met.index met.instruction x.label x.at x.labelled) x.copied) rest in
          let on = led.2 in
          let r = runs.next-there exceptions' image good formed m in-image name on.index on.label led.0 on.stands in (
            r.0,
            ap (option_and_then (settled_action name code s p met at a)) x.operands
                ∙ ap (λ b. let e = code_settles name code met.instruction x.before at a b in settled name code s met.index met.instruction e.stack e.completion) (counted-is p.has_step s.frame)
                ∙ ap (option_and_then (to_next_piece name code)) led.1 ∙ r.1,
            (r.2.0, r.2.1, r.2.2 ∙ on.same),
          )
