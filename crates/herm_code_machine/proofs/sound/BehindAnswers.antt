-- Behind the answer to an action of good code, and behind the reply to its call, no instruction is stuck.
use Rattle.std.proofs.Common.{◌≡◌, ◌⊎◌, inl, inr, ℕ, suc, List, true, false, Some, None, option_and_then, option_map, refl, sym, ap, subst, ◌∙◌, drop}
use Rattle.std.specs.Prelude.{⊤}
use mathlib.Core.Bool.{false≢true}
use Rattle.herm_model.specs.Lists.{IsIn}
use Rattle.herm_model.specs.Outcomes.{Outcome}
use Rattle.herm_model.specs.Paths.{Path}
use Rattle.herm_model.specs.Types.{Raised}
use Rattle.herm_model.specs.Values.{Name, Cell, Value}
use Rattle.herm_model.specs.WellFormedTables.{IsType, IsWellFormedTable}
use Rattle.herm_model.proofs.Options.{some-injective}
use Rattle.herm_journal.specs.Actions.{to_put, put, hear}
use Rattle.herm_journal.specs.Messages.{CellWant, CellAction, CellReply}
use Rattle.herm_forms.specs.Frames.{Frame, Completion, goes, stays, stuck, counted_action}
use Rattle.herm_forms.specs.OpenCalls.{IsReply}
use Rattle.herm_system.specs.Suiting.{Answers}
use Rattle.herm_instructions.specs.Actions.{is_action}
use Rattle.herm_instructions.specs.GoodCode.{IsGood}
use Rattle.herm_instructions.specs.Images.{CodeModule, Image, instruction_at}
use Rattle.herm_instructions.specs.Instructions.{Argument, Instruction, Step, Call}
use Rattle.herm_instructions.specs.Labels.{Label}
use Rattle.herm_instructions.specs.Places.{label_at}
use Rattle.herm_code_machine.specs.CodeActions.{code_wants, code_settles, code_hears}
use Rattle.herm_code_machine.specs.CodeInstance.{own_name}
use Rattle.herm_code_machine.specs.CodeLocal.{IsLocallySoundCode, IsCall}
use Rattle.herm_code_machine.specs.CodeStates.{at_index, CodeState, leads, stack_after, state_behind}
use Rattle.herm_code_machine.specs.CodeSteps.{an_action, counted_if, wanted_next}
use Rattle.herm_code_machine.specs.Pieces.{Piece, Met, piece_by, piece_at, action_from, action_of, behind_operands}
use Rattle.herm_code_machine.specs.ReadyCode.{ReadyCode, ready_code}
use Rattle.herm_code_machine.specs.Stacks.{Effect}
use Rattle.herm_code_machine.specs.laws.EndLaws.{IsOnTheWay}
use Rattle.herm_code_machine.specs.laws.OperandLaws.{IsNowhereStuck, behind_step, IsBefore, at_once, by_its_step}
use Rattle.herm_code_machine.specs.laws.StandingLaws.{IsAtInstruction}
use Rattle.herm_code_machine.proofs.sound.ActionEffects.{TakesMessage, each-action}
use Rattle.herm_code_machine.proofs.sound.ActionSteps.{Acting, settles-rest, step-or-action, counted-is}
use Rattle.herm_code_machine.proofs.sound.AlongAnswers.{completed, counted}
use Rattle.herm_code_machine.proofs.sound.AlongRuns.{KeepsAlong, At, led}
use Rattle.herm_code_machine.proofs.sound.AtLabels.{Finds}
use Rattle.herm_code_machine.proofs.sound.Between as between
use Rattle.herm_code_machine.proofs.sound.CallEffects as calls
use Rattle.herm_code_machine.proofs.sound.CallSteps.{calling_of, found, open-sound, behind-left, call-goes, is-call, is-call-or}
use Rattle.herm_code_machine.proofs.sound.CopiedStacks.{label-copied}
use Rattle.herm_code_machine.proofs.sound.OnTheWay.{stuck-nowhere, nowhere-stuck}
use Rattle.herm_code_machine.proofs.sound.WayToAction.{same-index, IsUnderway, underway, there-at}

-- what a completion comes to depends on no more of a state than its module
pub behind-same : (c : ReadyCode) (s t : CodeState Name) (i : ℕ) (instruction : Instruction) (stack : List Value) (r : Completion Name) → t.module_number ≡ s.module_number → state_behind c t i instruction stack r ≡ state_behind c s i instruction stack r
behind-same c s t i instruction stack (goes o b) e = ap (λ (n : ℕ). option_map (λ j. record { module_number = n; position = at_index j; stack = stack_after o stack; frame = b }) (leads c i instruction o)) e
behind-same c s t i instruction stack (stays b) e = ap (λ (n : ℕ). Some (record { module_number = n; position = at_index i; stack = stack; frame = b })) e
behind-same c s t i instruction stack stuck e = refl

module _ (exceptions' : ℕ) (image : Image) (good : IsGood exceptions' image) (formed : IsWellFormedTable exceptions' image.types) (m : CodeModule) (in-image : IsIn m image.modules) where
  abbrev code : ReadyCode
  code = ready_code image (label_at image.types image.constants) m

  abbrev Way : ℕ → Instruction → Label → Outcome → Type 0
  Way i instruction l q = between.HasWay exceptions' image good formed m in-image i instruction l q

  abbrev known : (t : ℕ) → IsIn t m.variables → IsType image.types t
  known = (between.good-module exceptions' image good formed m in-image).variables_known

  -- nothing more is asked along a run
  abbrev pub Any : Label → List Value → Frame Name → Type 0
  Any l stack b = ⊤

  abbrev pub Ended : Frame Name → Type 0
  Ended b = ⊤

  pub keeps-any : KeepsAlong exceptions' image good formed m in-image own_name Any Ended
  keeps-any = record { effects = λ i instruction l stack b finds holds copied so o b' e. tt; arrives = λ arriving listed stack b a so. tt; ends = λ l stack b t so. tt }

  at-nowhere : (u : CodeState Name) → At exceptions' image good formed m in-image own_name Any Ended keeps-any u → IsNowhereStuck code u
  at-nowhere u h = nowhere-stuck exceptions' image good formed m in-image u h.index h.label h.stands

  module _ (s : CodeState Name) (p : Piece) (met : Met) (acting : Acting exceptions' image good formed m in-image own_name s p met) (at : ℕ) (a : CellAction Name) where
    abbrev pub done : Effect Name
    done = completed exceptions' image good formed m in-image own_name Any Ended keeps-any s s p met acting at a

    abbrev counted' : Frame Name
    counted' = counted exceptions' image good formed m in-image own_name Any Ended keeps-any s p

    -- the answer to an action but a call
    plain-behind : (IsCall met.instruction → ⊥) → (want : CellWant Name) → wanted_next own_name code s (an_action p met) ≡ Some want → Answers want a → TakesMessage code met.instruction s.frame at a
        → (u : CodeState Name) → state_behind code s met.index met.instruction (done).stack (done).completion ≡ Some u → IsNowhereStuck code u
    plain-behind none want wanted h takes u is =
        let x = acting.there in
        let finds = between.finds-there exceptions' image good formed m in-image met.index met.instruction x.label x.at x.labelled in
        let acts = each-action exceptions' image formed good.constants m known (label_at image.types image.constants) own_name (Way met.index met.instruction x.label) x.label x.before s.frame x.holds met.instruction x.acts none finds in
        let same : acts.want ≡ want = some-injective (sym acts.wanted ∙ sym (ap (option_and_then (λ stack. code_wants own_name code met.instruction stack s.frame)) x.operands) ∙ wanted) in
        let g = acts.answers (counted_if p.has_step s.frame).steps (suc s.frame.actions) at a (subst (λ w. Answers w a) (sym same) h) takes in
        at-nowhere u (led exceptions' image good formed m in-image own_name Any Ended keeps-any met.index met.instruction x.label s u (done).stack (done).completion g
        (settles-rest exceptions' image good formed m in-image own_name met.instruction x.acts none x.before at a (counted') acting.rest)
        (λ q. label-copied exceptions' image formed good.constants m (Way met.index met.instruction x.label) met.instruction q x.label finds x.copied) (λ o b e. tt) is)

  -- the answer to a call
  module _ (s : CodeState Name) (p : Piece) (j : ℕ) (o : Path) (arguments : List Argument) (keep : List Raised) (acting : Acting exceptions' image good formed m in-image own_name s p (record { index = j; instruction = Call o arguments keep })) (at : ℕ) (u : CodeState Name) where
    abbrev i : Instruction
    i = Call o arguments keep

    abbrev l : Label
    l = (acting.there).label

    abbrev finds : Finds exceptions' image m (Way j i l) i l
    finds = found exceptions' image good formed m in-image own_name j o arguments keep l (acting.there).at (acting.there).labelled

    abbrev called : CellAction Name → Effect Name
    called a = done s p (record { index = j; instruction = i }) acting at a

    abbrev counted_call : Frame Name
    counted_call = counted exceptions' image good formed m in-image own_name Any Ended keeps-any s p

    call-behind : (a : CellAction Name) → (port : ℕ) (message : Cell Name) → Answers {R = CellReply Name} (to_put port message) a → state_behind code s j i (called a).stack (called a).completion ≡ Some u → IsNowhereStuck code u
    call-behind (put (Some n) d) port message h is =
        let x = acting.there in
        let c = calls.call-placed exceptions' image formed good.constants m known (label_at image.types image.constants) own_name (Way j i l) l o arguments keep finds x.before (counted_call) (x.holds).sound (x.holds).stack at n d in
        let v : CodeState Name = record { module_number = s.module_number; position = at_index j; stack = c.rest; frame = c.frame } in
        let here : v ≡ u = some-injective (sym (ap (λ (e : Effect Name). state_behind code s j i e.stack e.completion) c.completes) ∙ is) in
        subst (IsNowhereStuck code) here (stuck-nowhere code v j i refl x.at refl)
    call-behind (put None d) port message h is =
        let x = acting.there in
        let c = calls.call-back exceptions' image formed good.constants m known (label_at image.types image.constants) own_name (Way j i l) l o arguments keep finds x.before (counted_call) (x.holds).sound (x.holds).stack (x.holds).slots (x.holds).differ acting.rest at d in
        let on = c.on in
        at-nowhere u (led exceptions' image good formed m in-image own_name Any Ended keeps-any j i l s u c.rest c.completion on.goes on.at_rest
        (λ q. label-copied exceptions' image formed good.constants m (Way j i l) i q l finds x.copied) (λ o b e. tt)
        (sym (ap (λ (e : Effect Name). state_behind code s j i e.stack e.completion) c.settles) ∙ is))
    call-behind a port message h is = absurd h

  -- the answer to any action
  module _ (s : CodeState Name) (p : Piece) (at : ℕ) (a : CellAction Name) (want : CellWant Name) (h : Answers want a) (u : CodeState Name) where
    abbrev LeftSo : Met → Type 0
    LeftSo met = (acting : Acting exceptions' image good formed m in-image own_name s p met) → wanted_next own_name code s (an_action p met) ≡ Some want → TakesMessage code met.instruction s.frame at a
        → state_behind code s met.index met.instruction (done s p met acting at a).stack (done s p met acting at a).completion ≡ Some u → IsNowhereStuck code u

    call-left : (j : ℕ) (o : Path) (arguments : List Argument) (keep : List Raised) → LeftSo (record { index = j; instruction = Call o arguments keep })
    call-left j o arguments keep acting wanted takes is =
        let g = call-goes exceptions' image good formed m in-image own_name s p (record { index = j; instruction = Call o arguments keep }) acting tt in
        call-behind s p j o arguments keep acting at u a g.port g.message (subst (λ w. Answers w a) (sym (some-injective (sym g.wanted ∙ wanted))) h) is

    pub action-left : (met : Met) → LeftSo met
    action-left met = by (is-call-or met.instruction)
      where
        by : IsCall met.instruction ⊎ (IsCall met.instruction → ⊥) → LeftSo met
        by (inl call) =
            let c = is-call met.instruction call in
            subst LeftSo (ap (λ (i : Instruction). record { index = met.index; instruction = i }) (sym c.3)) (call-left met.index c.0 c.1 c.2)
        by (inr none) = λ acting wanted takes is. plain-behind s p met acting at a none want wanted h takes u is

  -- before an action its operands are those that it finds
  module _ (s : CodeState Name) (p : Piece) (met : Met) (piece : piece_at code s.position ≡ Some p) (is : action_of code p ≡ Some met) (before : List Value) (operands : behind_operands code s.frame.variables (drop p.first m.code) s.stack ≡ Some before) where
    pub record IsReady (j : ℕ) (action : Instruction) (t : CodeState Name) : Type 0 where
      pub met_is : met ≡ record { index = j; instruction = action }
      pub stack : t.stack ≡ before
      pub frame : t.frame ≡ counted_if p.has_step s.frame
      pub same : t.module_number ≡ s.module_number

    step-is-no_action : (i : ℕ) (action : Instruction) → instruction_at m i ≡ Some action → is_action image.types action ≡ true → instruction_at m i ≡ Some Step → ⊥
    step-is-no_action i action there acts step = false≢true (subst (λ i. is_action image.types i ≡ true) (some-injective (sym there ∙ step)) acts)

    once : (i : ℕ) (action : Instruction) → IsAtInstruction code s i action → is_action image.types action ≡ true → (k : ℕ) → s.position ≡ at_index k → ((instruction_at m k ≡ Some Step) × (p ≡ record { has_step = true; first = suc k })) ⊎ (p ≡ record { has_step = false; first = k }) → IsReady i action s
    once i action here acts k position (inl step) =
        absurd (step-is-no_action i action here.3 acts (ap (instruction_at m) (same-index i k s.position here.2 position) ∙ step.0))
    once i action here acts k position (inr e) =
        let index : k ≡ i = same-index k i s.position position here.2 in
        let first : p.first ≡ i = ap (λ (p : Piece). p.first) e ∙ index in
        let under : IsUnderway code s before met s = record {
          index = i;
          position = here.2;
          operands = subst (λ k. behind_operands code s.frame.variables (drop k m.code) s.stack ≡ Some before) first operands;
          found = subst (λ k. action_from image.types (drop k m.code) k ≡ Some met) first is;
          frame = refl;
          same = refl;
        } in
        let r = there-at code s before met s i action under here.2 here.3 acts in
        record { met_is = r.met_is; stack = r.stack; frame = ap (λ (p : Piece). counted_if p.has_step s.frame) (sym e); same = refl }

    behind : (i j : ℕ) (action : Instruction) (t : CodeState Name) → IsAtInstruction code s i Step → IsOnTheWay own_name code (behind_step s i) t → t.position ≡ at_index j → instruction_at m j ≡ Some action → is_action image.types action ≡ true
        → (k : ℕ) → s.position ≡ at_index k → p ≡ record { has_step = true; first = suc k } → IsReady j action t
    behind i j action t here way position there acts k at e =
        let index : k ≡ i = same-index k i s.position at here.2 in
        let first : p.first ≡ suc i = ap (λ (p : Piece). p.first) e ∙ ap suc index in
        let under : IsUnderway code (behind_step s i) before met (behind_step s i) = record {
          index = suc i;
          position = refl;
          operands = subst (λ k. behind_operands code s.frame.variables (drop k m.code) s.stack ≡ Some before) first operands;
          found = subst (λ k. action_from image.types (drop k m.code) k ≡ Some met) first is;
          frame = refl;
          same = refl;
        } in
        let r = there-at code (behind_step s i) before met t j action (underway code (behind_step s i) before met t under way) position there acts in
        record { met_is = r.met_is; stack = r.stack; frame = r.frame ∙ ap (λ (p : Piece). counted_if p.has_step s.frame) (sym e); same = r.same }

    step-piece : (i : ℕ) → IsAtInstruction code s i Step → p ≡ record { has_step = true; first = suc i }
    step-piece i here = some-injective (sym piece ∙ ap (piece_at code) here.2 ∙ ap (piece_by image.types i) here.3)

    pub ready-before : (j : ℕ) (action : Instruction) (t : CodeState Name) → IsBefore code s j action t → IsReady j action t
    ready-before j action t (at_once i action' here acts) = let x = step-or-action exceptions' image good formed m in-image own_name s.position p piece in once i action' here acts x.0 x.1 x.2
    ready-before j action t (by_its_step i j' action' t' here way position there acts) = behind i j' action' t' here way position there acts i here.2 (step-piece i here)

  -- behind the answer to the action that is next
  pub left-by_action : (s : CodeState Name) (p : Piece) (met : Met) (acting : Acting exceptions' image good formed m in-image own_name s p met) → piece_at code s.position ≡ Some p → action_of code p ≡ Some met
      → (want : CellWant Name) → wanted_next own_name code s (an_action p met) ≡ Some want → (at : ℕ) (a : CellAction Name) → Answers want a → TakesMessage code met.instruction s.frame at a
      → (j : ℕ) (action : Instruction) (t u : CodeState Name) → IsBefore code s j action t → (let e = code_settles own_name code action t.stack at a (counted_action t.frame) in state_behind code t j action e.stack e.completion ≡ Some u) → IsNowhereStuck code u
  left-by_action s p met acting piece is want wanted at a h takes j action t u before behind_is =
      let r = ready-before s p met piece is (acting.there).before (acting.there).operands j action t before in
      let frames : counted_action t.frame ≡ counted exceptions' image good formed m in-image own_name Any Ended keeps-any s p = ap counted_action r.frame ∙ counted-is exceptions' image good formed m in-image own_name p.has_step s.frame in
      let e = code_settles own_name code action t.stack at a (counted_action t.frame) in
      let effects : e ≡ code_settles own_name code action (acting.there).before at a (counted exceptions' image good formed m in-image own_name Any Ended keeps-any s p) =
      ap (λ stack. code_settles own_name code action stack at a (counted_action t.frame)) r.stack ∙ ap (λ b. code_settles own_name code action (acting.there).before at a b) frames in
      let moved : state_behind code s j action e.stack e.completion ≡ Some u = sym (behind-same code s t j action e.stack e.completion r.same) ∙ behind_is in
      let settled' : (let f = code_settles own_name code action (acting.there).before at a (counted exceptions' image good formed m in-image own_name Any Ended keeps-any s p) in state_behind code s j action f.stack f.completion ≡ Some u) =
      subst (λ (f : Effect Name). state_behind code s j action f.stack f.completion ≡ Some u) effects moved in
      action-left s p at a want h u met acting wanted takes
      (subst (λ (n : Met). let f = code_settles own_name code n.instruction (acting.there).before at a (counted exceptions' image good formed m in-image own_name Any Ended keeps-any s p) in state_behind code s n.index n.instruction f.stack f.completion ≡ Some u) (sym r.met_is) settled')

  -- behind the reply to the open call
  module _ (s : CodeState Name) (k index : ℕ) (r : CellReply Name) (position : s.position ≡ at_index index) (opened : s.frame.call ≡ Some k) (sound : IsLocallySoundCode code s) (u : CodeState Name) where
    abbrev heard : Instruction → Completion Name
    heard i = code_hears i k (hear k r) (counted_action s.frame)

    abbrev RepliesSo : Instruction → Type 0
    RepliesSo i = (l : Label) → instruction_at m index ≡ Some i → code.label index ≡ Some l → ((o : Path) (arguments : List Argument) (keep : List Raised) → i ≡ Call o arguments keep → IsReply code.scope (calling_of exceptions' image good formed m in-image o arguments) r)
        → state_behind code s index i s.stack (heard i) ≡ Some u → IsNowhereStuck code u

    replies-call : (o : Path) (arguments : List Argument) (keep : List Raised) → RepliesSo (Call o arguments keep)
    replies-call o arguments keep l at labelled reply is =
        let i = Call o arguments keep in
        let h = open-sound exceptions' image good formed m in-image own_name index o arguments keep l at labelled s position k opened sound in
        let g = calls.reply-goes exceptions' image formed good.constants m known (label_at image.types image.constants) own_name (Way index i l) l o arguments keep (found exceptions' image good formed m in-image own_name index o arguments keep l at labelled) k r s.stack (counted_action s.frame) (reply o arguments keep refl) h.sound h.stack h.slots h.differ h.alone in
        at-nowhere u (led exceptions' image good formed m in-image own_name Any Ended keeps-any index i l s u s.stack (heard i) g.goes g.at_rest (behind-left exceptions' image good formed m in-image o arguments keep l h.copied) (λ o b e. tt) is)

    pub left-by_reply : (i : Instruction) → IsCall i → RepliesSo i
    left-by_reply i call = let c = is-call i call in subst RepliesSo (sym c.3) (replies-call c.0 c.1 c.2)
