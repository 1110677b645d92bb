-- What a run keeps of what stands at labels, behind the answer to an action of a process of good code, and behind the reply to its call.
use Rattle.std.proofs.Common.{◌≡◌, ◌⊎◌, inl, inr, ℕ, suc, List, [], Bool, Option, Some, None, option_and_then, refl, sym, ap, subst, ◌∙◌}
use Rattle.std.specs.Prelude.{length}
use Rattle.herm_model.specs.Lists.{IsIn}
use Rattle.herm_model.specs.Outcomes.{Outcome}
use Rattle.herm_model.specs.Paths.{Path}
use Rattle.herm_model.specs.Types.{Raised}
use Rattle.herm_model.specs.Values.{Name, Cell, Value}
use Rattle.herm_model.specs.WellFormedTables.{IsType, IsWellFormedTable}
use Rattle.herm_model.proofs.Options.{some-injective}
use Rattle.herm_journal.specs.Actions.{to_put, put, hear}
use Rattle.herm_journal.specs.Messages.{CellWant, CellAction, CellReply}
use Rattle.herm_system.specs.Suiting.{Answers}
use Rattle.herm_forms.specs.Frames.{Frame, Completion, goes, stays, counted_action}
use Rattle.herm_forms.specs.OpenCalls.{IsReply}
use Rattle.herm_forms.proofs.Counting.{recount}
use Rattle.herm_instructions.specs.GoodCode.{IsGood}
use Rattle.herm_instructions.specs.Images.{CodeModule, Image, instruction_at}
use Rattle.herm_instructions.specs.Instructions.{Argument, Instruction, Call}
use Rattle.herm_instructions.specs.Labels.{Label}
use Rattle.herm_instructions.specs.Places.{label_at}
use Rattle.herm_code_machine.specs.CodeActions.{code_wants, code_settles, code_hears}
use Rattle.herm_code_machine.specs.CodeLocal.{IsLocallySoundCode, IsCall}
use Rattle.herm_code_machine.specs.CodeStates.{at_index, CodeState, stack_after, on_by, run_on}
use Rattle.herm_code_machine.specs.CodeSteps.{an_action, a_reply, counted_if, met_at, settled, settled_action, settle_next, wanted_next}
use Rattle.herm_code_machine.specs.Pieces.{Piece, Met}
use Rattle.herm_code_machine.specs.ReadyCode.{ReadyCode, ready_code}
use Rattle.herm_code_machine.specs.Stacks.{Effect, leaving}
use Rattle.herm_code_machine.proofs.sound.ActionEffects.{TakesMessage, each-action}
use Rattle.herm_code_machine.proofs.sound.ActionSteps.{Acting, settles-rest, counted-is}
use Rattle.herm_code_machine.proofs.sound.AlongRuns.{KeepsAlong, behind, Comes, along-settled}
use Rattle.herm_code_machine.proofs.sound.AtLabels.{Finds}
use Rattle.herm_code_machine.proofs.sound.Between as between
use Rattle.herm_code_machine.proofs.sound.CallEffects as calls
use Rattle.herm_code_machine.proofs.sound.CallSteps.{calling_of, found, open-sound, behind-left, call-goes, is-call, is-call-or, met-index}
use Rattle.herm_code_machine.proofs.sound.CopiedStacks.{label-copied}
use Rattle.herm_code_machine.proofs.sound.EachEffect as each

module _ (exceptions' : ℕ) (image : Image) (good : IsGood exceptions' image) (formed : IsWellFormedTable exceptions' image.types) (m : CodeModule) (in-image : IsIn m image.modules) (name : Name → Name)
    (Q : Label → List Value → Frame Name → Type 0) (E : Frame Name → Type 0) (keeps : KeepsAlong exceptions' image good formed m in-image name Q E) where
  abbrev code : ReadyCode
  code = ready_code image (label_at image.types image.constants) m

  abbrev ComesSo : CodeState Name → Type 0
  ComesSo s = Comes exceptions' image good formed m in-image name Q E keeps s

  abbrev Way : ℕ → Instruction → Label → Outcome → Type 0
  Way i instruction l q = between.HasWay exceptions' image good formed m in-image i instruction l q

  abbrev known : (t : ℕ) → IsIn t m.variables → IsType image.types t
  known = (between.good-module exceptions' image good formed m in-image).variables_known

  -- a call whose callmessage was placed stays at its index
  pub record Stayed (s t : CodeState Name) (index : ℕ) (e : Effect Name) : Type 0 where
    pub frame : Frame Name
    pub completes : e.completion ≡ stays frame
    pub is : t ≡ record { module_number = s.module_number; position = at_index index; stack = e.stack; frame = frame }

  -- so of what goes on
  abbrev pub GoesSo : Instruction → Label → List Value → Completion Name → Type 0
  GoesSo i l stack r = (o : Outcome) (b : Frame Name) → r ≡ goes o b → Q (behind exceptions' image good formed m in-image name i o l) (stack_after o stack) b

  abbrev pub counted : CodeState Name → Piece → Frame Name
  counted s p = recount (counted_if p.has_step s.frame).steps (suc s.frame.actions) s.frame

  module _ (s t : CodeState Name) (p : Piece) (met : Met) (acting : Acting exceptions' image good formed m in-image name s p met) (at : ℕ) (a : CellAction Name) where
    abbrev pub completed : Effect Name
    completed = code_settles name code met.instruction acting.there.before at a (counted s p)

    pub settles : settle_next name code s at a (an_action p met) ≡ Some t → settled name code s met.index met.instruction (completed).stack (completed).completion ≡ Some t
    settles is =
        sym (ap (option_and_then (settled_action name code s p met at a)) (acting.there).operands
        ∙ ap (λ b. let e = code_settles name code met.instruction (acting.there).before at a b in settled name code s met.index met.instruction e.stack e.completion) (counted-is exceptions' image good formed m in-image name p.has_step s.frame)) ∙ is

    -- the answer to an action but a call
    pub plain-along : (IsCall met.instruction → ⊥) → (want : CellWant Name) → wanted_next name code s (an_action p met) ≡ Some want → Answers want a → TakesMessage code met.instruction s.frame at a
        → GoesSo met.instruction (acting.there).label (completed).stack (completed).completion → settle_next name code s at a (an_action p met) ≡ Some t → ComesSo t
    plain-along none want wanted h takes so is =
        let x = acting.there in
        let finds = between.finds-there exceptions' image good formed m in-image met.index met.instruction x.label x.at x.labelled in
        let acts = each-action exceptions' image formed good.constants m known (label_at image.types image.constants) name (Way met.index met.instruction x.label) x.label x.before s.frame x.holds met.instruction x.acts none finds in
        let same : acts.want ≡ want = some-injective (sym acts.wanted ∙ sym (ap (option_and_then (λ stack. code_wants name code met.instruction stack s.frame)) x.operands) ∙ wanted) in
        let g = acts.answers (counted_if p.has_step s.frame).steps (suc s.frame.actions) at a (subst (λ w. Answers w a) (sym same) h) takes in
        along-settled exceptions' image good formed m in-image name Q E keeps met.index met.instruction x.label s t (completed).stack (completed).completion g
        (settles-rest exceptions' image good formed m in-image name met.instruction x.acts none x.before at a (counted s p) acting.rest)
        (λ q. label-copied exceptions' image formed good.constants m (Way met.index met.instruction x.label) met.instruction q x.label finds x.copied) so (settles is)

  -- the answer to a call
  module _ (s t : CodeState Name) (p : Piece) (j : ℕ) (o : Path) (arguments : List Argument) (keep : List Raised) (acting : Acting exceptions' image good formed m in-image name s p (record { index = j; instruction = Call o arguments keep })) (at : ℕ) where
    abbrev i : Instruction
    i = Call o arguments keep

    abbrev l : Label
    l = (acting.there).label

    abbrev finds : Finds exceptions' image m (Way j i l) i l
    finds = found exceptions' image good formed m in-image name j o arguments keep l (acting.there).at (acting.there).labelled

    abbrev done : CellAction Name → Effect Name
    done a = code_settles name code i (acting.there).before at a (counted s p)

    call-along : (a : CellAction Name) → (port : ℕ) (message : Cell Name) → Answers {R = CellReply Name} (to_put port message) a → GoesSo i l (done a).stack (done a).completion
        → settle_next name code s at a (an_action p (record { index = j; instruction = i })) ≡ Some t → ComesSo t ⊎ Stayed s t j (done a)
    call-along (put (Some n) d) port message h so is =
        let x = acting.there in
        let c = calls.call-placed exceptions' image formed good.constants m known (label_at image.types image.constants) name (Way j i l) l o arguments keep finds x.before (counted s p) (x.holds).sound (x.holds).stack at n d in
        let u : CodeState Name = record { module_number = s.module_number; position = at_index j; stack = c.rest; frame = c.frame } in
        let is' = settles s t p (record { index = j; instruction = i }) acting at (put (Some n) d) is in
        let here : u ≡ t = some-injective (sym (ap (λ (e : Effect Name). settled name code s j i e.stack e.completion) c.completes ∙ ap (on_by name code (run_on name code (length m.code)) u j) x.at) ∙ is') in
        inr (record {
          frame = c.frame;
          completes = ap (λ (e : Effect Name). e.completion) c.completes;
          is = sym here ∙ ap (λ stack. record { module_number = s.module_number; position = at_index j; stack = stack; frame = c.frame }) (sym (ap (λ (e : Effect Name). e.stack) c.completes));
        })
    call-along (put None d) port message h so is =
        let x = acting.there in
        let c = calls.call-back exceptions' image formed good.constants m known (label_at image.types image.constants) name (Way j i l) l o arguments keep finds x.before (counted s p) (x.holds).sound (x.holds).stack (x.holds).slots (x.holds).differ acting.rest at d in
        let on = c.on in
        let is' = settles s t p (record { index = j; instruction = i }) acting at (put None d) is in
        inl (along-settled exceptions' image good formed m in-image name Q E keeps j i l s t c.rest c.completion on.goes on.at_rest
        (λ q. label-copied exceptions' image formed good.constants m (Way j i l) i q l finds x.copied)
        (subst (λ (e : Effect Name). GoesSo i l e.stack e.completion) c.settles so)
        (sym (ap (λ (e : Effect Name). settled name code s j i e.stack e.completion) c.settles) ∙ is'))
    call-along a port message h so is = absurd h

  -- the answer to any action
  module _ (s t : CodeState Name) (p : Piece) (at : ℕ) (a : CellAction Name) (want : CellWant Name) (h : Answers want a) where
    abbrev AnswersSo : Met → Type 0
    AnswersSo met = (acting : Acting exceptions' image good formed m in-image name s p met) → wanted_next name code s (an_action p met) ≡ Some want → TakesMessage code met.instruction s.frame at a
        → GoesSo met.instruction (acting.there).label (completed s t p met acting at a).stack (completed s t p met acting at a).completion → settle_next name code s at a (an_action p met) ≡ Some t
        → ComesSo t ⊎ Stayed s t met.index (completed s t p met acting at a)

    call-so : (j : ℕ) (o : Path) (arguments : List Argument) (keep : List Raised) → AnswersSo (record { index = j; instruction = Call o arguments keep })
    call-so j o arguments keep acting wanted takes so is =
        let g = call-goes exceptions' image good formed m in-image name s p (record { index = j; instruction = Call o arguments keep }) acting tt in
        call-along s t p j o arguments keep acting at a g.port g.message (subst (λ w. Answers w a) (sym (some-injective (sym g.wanted ∙ wanted))) h) so is

    pub answered-along : (met : Met) → AnswersSo met
    answered-along met = by (is-call-or met.instruction)
      where
        by : IsCall met.instruction ⊎ (IsCall met.instruction → ⊥) → AnswersSo met
        by (inl call) =
            let c = is-call met.instruction call in
            subst AnswersSo (ap (λ (i : Instruction). record { index = met.index; instruction = i }) (sym c.3)) (call-so met.index c.0 c.1 c.2)
        by (inr none) = λ acting wanted takes so is. inl (plain-along s t p met acting at a none want wanted h takes so is)

  -- the reply to the open call
  module _ (s t : CodeState Name) (k index : ℕ) (r : CellReply Name) (position : s.position ≡ at_index index) (opened : s.frame.call ≡ Some k) (sound : IsLocallySoundCode code s) where
    abbrev heard : Instruction → Completion Name
    heard i = code_hears i k (hear k r) (counted_action s.frame)

    abbrev RepliesSo : Instruction → Type 0
    RepliesSo i = (l : Label) → instruction_at m index ≡ Some i → code.label index ≡ Some l → ((o : Path) (arguments : List Argument) (keep : List Raised) → i ≡ Call o arguments keep → IsReply code.scope (calling_of exceptions' image good formed m in-image o arguments) r)
        → GoesSo i l s.stack (heard i) → settled name code s index i s.stack (heard i) ≡ Some t → ComesSo t

    replies-call : (o : Path) (arguments : List Argument) (keep : List Raised) → RepliesSo (Call o arguments keep)
    replies-call o arguments keep l at labelled reply so is =
        let i = Call o arguments keep in
        let h = open-sound exceptions' image good formed m in-image name index o arguments keep l at labelled s position k opened sound in
        let g = calls.reply-goes exceptions' image formed good.constants m known (label_at image.types image.constants) name (Way index i l) l o arguments keep (found exceptions' image good formed m in-image name index o arguments keep l at labelled) k r s.stack (counted_action s.frame) (reply o arguments keep refl) h.sound h.stack h.slots h.differ h.alone in
        along-settled exceptions' image good formed m in-image name Q E keeps index i l s t s.stack (heard i) g.goes g.at_rest (behind-left exceptions' image good formed m in-image o arguments keep l h.copied) so is

    replied : (i : Instruction) → IsCall i → RepliesSo i
    replied i call = let c = is-call i call in subst RepliesSo (sym c.3) (replies-call c.0 c.1 c.2)

  pub reply-along : (s t : CodeState Name) (k : ℕ) (met : Met) → IsLocallySoundCode code s → s.frame.call ≡ Some k → met_at code s.position ≡ Some met → (r : CellReply Name)
      → ((o : Path) (arguments : List Argument) (keep : List Raised) → met.instruction ≡ Call o arguments keep → IsReply code.scope (calling_of exceptions' image good formed m in-image o arguments) r) → (at : ℕ)
      → ((l : Label) → code.label met.index ≡ Some l → GoesSo met.instruction l s.stack (code_hears met.instruction k (hear k r) (counted_action s.frame))) → settle_next name code s at (hear k r) (a_reply k met.index met.instruction) ≡ Some t → ComesSo t
  reply-along s t k met sound opened there r reply at so is =
      let n = sound.call k opened in
      let same : n.0 ≡ met = some-injective (sym n.1 ∙ there) in
      let call = subst (λ (met : Met). IsCall met.instruction) same n.2 in
      let p = met-index exceptions' image good formed m in-image name s.position met there in
      let l = sound.label met.index p.0 in
      replied s t k met.index r p.0 opened sound met.instruction call l.0 p.1 l.1 reply (so l.0 l.1) is
