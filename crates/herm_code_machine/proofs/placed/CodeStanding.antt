-- Processes of a good image keep inports, outports and callmessages at places of their types, and send them so.
use Rattle.std.proofs.Common.{◌≡◌, ◌⊎◌, inl, inr, ℕ, suc, List, [], ◌∷◌, find, drop, Bool, true, false, Option, Some, None, option_and_then, option_map, refl, sym, ap, subst, ◌∙◌, true≢false}
use Rattle.std.specs.Prelude.{pred, length, slice_get, IsTrue, ⊤}
use Rattle.herm_model.specs.Calls.{message_type}
use Rattle.herm_model.specs.Lists.{IsIn, list_of}
use Rattle.herm_model.specs.Outcomes.{Outcome}
use Rattle.herm_model.specs.Paths.{Path}
use Rattle.herm_model.specs.TypedStatements
use Rattle.herm_model.specs.Types.{Raised, type_at}
use Rattle.herm_model.specs.Values.{Name, Kind, a_callmessage, an_inport, Cell, cell, no_parts, gaps, part, Value}
use Rattle.herm_model.specs.WellFormedTables.{IsType}
use Rattle.herm_model.proofs.Options.{none-not_some, some-injective, chain-some}
use Rattle.herm_model.proofs.TypedCalls.{inport-is}
use Rattle.herm_journal.specs.Actions.{to_put, to_hear, make_port, make_process, put, take, close, answer, hear}
use Rattle.herm_journal.specs.Messages.{CellReply, CellWant, CellAction, message_of_port, types_of_reply, cells_in, IsReplyTo}
use Rattle.herm_journal.specs.PartTypes.{PartTypes, each, all_of, part_types_at, is_kind_at, IsPlaced, ArePlaced}
use Rattle.herm_forms.specs.ClosesAndAnswers
use Rattle.herm_forms.specs.ClosesAndAnswers.{work_wants}
use Rattle.herm_forms.specs.Exchanges.{outport_at}
use Rattle.herm_forms.specs.Frames.{Frame, Completion, goes, stays, stuck, counted_action}
use Rattle.herm_forms.specs.Incoming.{leads_from}
use Rattle.herm_forms.specs.OpenCalls.{call_type}
use Rattle.herm_forms.proofs.Counting.{recount}
use Rattle.herm_forms.proofs.placed.PlacedActions.{work-is}
use Rattle.herm_forms.proofs.placed.PlacedForms as placed
use Rattle.herm_forms.proofs.placed.PlacedParts.{gaps-placed}
use Rattle.herm_sound.specs.Standing.{StandsAt, at_type, typed_going}
use Rattle.herm_system.specs.Kinds.{typed_of, typed_list}
use Rattle.herm_system.specs.Machines.{OpenCall}
use Rattle.herm_system.specs.Suiting.{Answers}
use Rattle.herm_instructions.specs.GoodCode.{processes_of}
use Rattle.herm_instructions.specs.Images.{CodeModule, Image, instruction_at}
use Rattle.herm_instructions.specs.Instructions.{Argument, Instruction, Call}
use Rattle.herm_instructions.specs.Labels.{Slot, Label}
use Rattle.herm_instructions.specs.Operands.{count_inputs}
use Rattle.herm_instructions.specs.Places.{label_at}
use Rattle.herm_code_machine.specs.CodeActions.{code_wants, code_settles, code_hears}
use Rattle.herm_code_machine.specs.CodeInstance.{own_name}
use Rattle.herm_code_machine.specs.CodeLocal.{IsCall, inputs_of, slots_at, stack_at, stack_types, IsLocallySoundCode}
use Rattle.herm_code_machine.specs.CodeSeen.{label_of, type_of_call, code_open_call, code_port_type, action_at, ports_of}
use Rattle.herm_code_machine.specs.CodeStates.{Position, at_index, at_end, at_end_by, CodeState, code_begin, on_by, run_on}
use Rattle.herm_code_machine.specs.CodeSteps.{CodeNext, an_item, a_reply, an_action, a_local_piece, nothing, code_next, met_at, counted_if, worked, wanted_next, settled, settle_next, code_wanted, code_local_step, code_answered}
use Rattle.herm_code_machine.specs.CodeTypes.{type_made}
use Rattle.herm_code_machine.specs.Pieces.{Piece, Met, piece_at, action_of}
use Rattle.herm_code_machine.specs.ReadyCode.{ReadyCode}
use Rattle.herm_code_machine.specs.Stacks.{Effect}
use Rattle.herm_code_machine.specs.laws.GoodImageLaws.{IsGoodOver, labelled_code}
use Rattle.herm_code_machine.proofs.kept.CodeNumbers.{code-answer-stays}
use Rattle.herm_code_machine.proofs.placed.ActionsStand.{in-some, at-type, StandsBehind, Coming, ArePorts, action-stands, action-going, gone-stands}
use Rattle.herm_code_machine.proofs.placed.CallsStand.{same-number, is_called, Calls, calls-there, call-stands, call-going, reply-stands}
use Rattle.herm_code_machine.proofs.placed.RowsOfSlots.{row_in}
use Rattle.herm_code_machine.proofs.placed.StandEffects.{Stands, stands-agrees, BodyStands, ValuesStand, StandAt, keeps-standing}
use Rattle.herm_held.proofs.TypedPlaces.{AllAre}
use Rattle.herm_code_machine.proofs.sound.ActionEffects.{TakesMessage, each-action}
use Rattle.herm_code_machine.proofs.sound.ActionSteps.{Acting, acting-at}
use Rattle.herm_code_machine.proofs.sound.AlongAnswers.{settles, Stayed, plain-along, answered-along, reply-along}
use Rattle.herm_code_machine.proofs.sound.AlongRuns.{IsEnded, Comes}
use Rattle.herm_code_machine.proofs.sound.AlongSteps.{begins-along, local-along, acting-along}
use Rattle.herm_code_machine.proofs.sound.AtLabels.{Finds}
use Rattle.herm_code_machine.proofs.sound.Between as between
use Rattle.herm_code_machine.proofs.sound.CallSteps.{is-call, is-call-or, found, met-index}
use Rattle.herm_code_machine.proofs.sound.ItemSteps.{SuitsCode, call-at, takes-message, worked-sound}
use Rattle.herm_code_machine.proofs.sound.LocalSteps.{ComesNext, by_work, by_call, by_act, comes-next}
use Rattle.herm_code_machine.proofs.sound.Processes.{idle-before}

abbrev is_staying : Completion Name → Bool
is_staying (stays b) = true
is_staying r = false

module _ (exceptions' : ℕ) (image : Image) (main : ℕ) (good : IsGoodOver exceptions' image) (m : CodeModule) (in-image : IsIn m image.modules) (ports : List ℕ) (calls' : ℕ → ℕ → Option ℕ) where
  abbrev c : ReadyCode
  c = labelled_code image m

  abbrev P : ℕ → Kind → Type 0
  P = Stands image.types ports calls'

  abbrev All : List (ℕ × Kind) → Type 0
  All xs = AllAre image.types (StandsAt image.types ports calls') xs

  abbrev Body : List Slot → Frame Name → Type 0
  Body slots b = BodyStands exceptions' image good.good good.table m in-image ports calls' slots b

  abbrev Values : List ℕ → List Value → Type 0
  Values ts stack = ValuesStand exceptions' image good.good good.table m in-image ports calls' ts stack

  abbrev Q : Label → List Value → Frame Name → Type 0
  Q l stack b = StandAt exceptions' image good.good good.table m in-image ports calls' l stack b

  abbrev E : Frame Name → Type 0
  E b = BodyStands exceptions' image good.good good.table m in-image ports calls' [] b

  abbrev ComesSo : CodeState Name → Type 0
  ComesSo t = Comes exceptions' image good.good good.table m in-image own_name (λ l stack b. StandAt exceptions' image good.good good.table m in-image ports calls' l stack b) (λ b. BodyStands exceptions' image good.good good.table m in-image ports calls' [] b)
      (keeps-standing exceptions' image good.good good.table m in-image ports calls') t

  -- what stands now, at the label of the position
  abbrev pub Now : CodeState Name → Type 0
  Now s = BodyStands exceptions' image good.good good.table m in-image ports calls' (slots_at (labelled_code image m) s) s.frame × ValuesStand exceptions' image good.good good.table m in-image ports calls' (stack_types (labelled_code image m) s) s.stack

  abbrev met_open : Option ℕ → Position → Option Met
  met_open call p = elim call [ None ↦ None | Some k ↦ met_at (labelled_code image m) p ]

  abbrev types_of : Option ℕ → Position → List ℕ
  types_of call p = elim (met_open call p) [ None ↦ list_of (λ (l : Label). l.stack) (label_of (labelled_code image m) p) | Some met ↦ drop (inputs_of met.instruction) (list_of (λ (l : Label). l.stack) (label_of (labelled_code image m) p)) ]

  abbrev slots_of : Position → List Slot
  slots_of p = list_of (λ (l : Label). l.slots) (label_of (labelled_code image m) p)

  closed-types : (s : CodeState Name) (l : Label) → s.frame.call ≡ None → label_of c s.position ≡ Some l → stack_types c s ≡ l.stack
  closed-types s l closed label = ap (λ k. types_of k s.position) closed ∙ ap (list_of (λ (l : Label). l.stack)) label

  at-label : (s : CodeState Name) → s.frame.call ≡ None → Now s → (l : Label) → label_of c s.position ≡ Some l → Q l s.stack s.frame
  at-label s closed now l label = (
    subst (λ slots. Body slots s.frame) (ap (list_of (λ (l : Label). l.slots)) label) now.0,
    subst (λ ts. Values ts s.stack) (closed-types s l closed label) now.1,
  )

  ended-label : (p : Position) → IsEnded p → label_of c p ≡ None
  ended-label (at_index i) h = absurd h
  ended-label at_end h = refl
  ended-label (at_end_by e) h = refl

  none-values : (ts : List ℕ) → Values ts []
  none-values [] = tt
  none-values (t ∷ ts) = tt

  now-of : (t : CodeState Name) → ComesSo t → Now t
  now-of t (inl at) =
      let here = at.stands in
      let label = ap (label_of c) here.position ∙ here.labelled in (
        subst (λ slots. Body slots t.frame) (sym (ap (list_of (λ (l : Label). l.slots)) label)) at.so.0,
        subst (λ ts. Values ts t.stack) (sym (closed-types t at.label (here.rest).0 label)) at.so.1,
      )
  now-of t (inr ended) = (
    subst (λ slots. Body slots t.frame) (sym (ap (list_of (λ (l : Label). l.slots)) (ended-label t.position ended.position))) ended.so,
    subst (Values (stack_types c t)) (sym ended.stack) (none-values (stack_types c t)),
  )

  -- as a process begins
  no-parts-placed : (ts : PartTypes) → ArePlaced image.types P {N = Name} ts no_parts
  no-parts-placed (each []) = tt
  no-parts-placed (each (t ∷ ts)) = tt
  no-parts-placed (all_of t) = tt

  pub begins-stand : (number' number port : ℕ) (n : Name) (t : CodeState Name) → code_begin own_name c number' number (cell n (an_inport port) no_parts) ≡ Some t → All (at_type (an_inport port) (slice_get m.variables 0)) → Now t
  begins-stand number' number port n t is all =
      let port' = (between.good-module exceptions' image good.good good.table m in-image).port in
      let stood = all port'.0 (an_inport port) (at-type (an_inport port) (slice_get m.variables 0) port'.0 port'.3) in
      let kind = subst (λ s. IsTrue (is_kind_at s (an_inport port))) (sym port'.4) refl in
      now-of t (begins-along exceptions' image good.good good.table m in-image own_name Q E (keeps-standing exceptions' image good.good good.table m in-image ports calls') (λ l stack b so. so) (λ s a l stack b so. so) number' number port n t
      ((by port'.0 (stood, kind) m.variables port'.3, tt), tt) is)
    where
      by : (t : ℕ) → P t (an_inport port) → (ts : List ℕ) → slice_get ts 0 ≡ Some t → ArePlaced image.types P (each ts) (part (cell n (an_inport port) no_parts) (gaps (pred (length ts))))
      by t h [] e = none-not_some e
      by t h (u ∷ ts) e = (subst (λ t. IsPlaced image.types P t (cell n (an_inport port) no_parts)) (sym (some-injective e)) (h, no-parts-placed (part_types_at (slice_get image.types t) (an_inport port))), gaps-placed image.types P (stands-agrees image.types ports calls') Name ts (length ts))

  -- a local step
  pub step-stands : (s t : CodeState Name) → IsLocallySoundCode c s → Now s → code_local_step own_name c s ≡ Some t → Now t
  step-stands s t sound now is =
      now-of t (local-along exceptions' image good.good good.table m in-image own_name Q E (keeps-standing exceptions' image good.good good.table m in-image ports calls') (λ l stack b so. so) (λ s a l stack b so. so) s t sound
      (at-label s (idle-before exceptions' image main good c s t is) now) is)

  -- the front of the work list
  pub item-stands : (s t : CodeState Name) (item : Cell Name) (work : List (Cell Name)) (a : CellAction Name) → IsLocallySoundCode c s → Now s → s.frame.work ≡ item ∷ work → worked s (ClosesAndAnswers.work_done item a (counted_action (record (s.frame) { work = work }))) ≡ Some t → Now t
  item-stands s t item work a sound now front is =
      let b : Frame Name = counted_action (record (s.frame) { work = work }) in
      let r = worked-sound c s t item work a sound front is in
      let h = by (ClosesAndAnswers.work_done item a b) (work-is own_name (c).scope P (stands-agrees image.types ports calls') (row_in (slots_at c s)) item a b now.0) is in (
        subst (λ slots. Body slots t.frame) (sym (ap slots_of r.3)) h.0,
        subst (λ stack. Values (stack_types c t) stack) (sym h.1) (subst (λ ts. Values ts s.stack) (sym (ap (λ k. types_of k t.position) r.1 ∙ ap (types_of s.frame.call) r.3)) now.1),
      )
    where
      by : (r : Completion Name) → placed.AllAre own_name (c).scope P (stands-agrees image.types ports calls') (row_in (slots_at c s)) r → worked s r ≡ Some t → Body (slots_at c s) t.frame × (t.stack ≡ s.stack)
      by (stays b) h is = subst (λ (t : CodeState Name). Body (slots_at c s) t.frame × (t.stack ≡ s.stack)) (some-injective is) (h, refl)
      by (goes o b) h is = none-not_some is
      by stuck h is = none-not_some is

  item-going : (item : Cell Name) (want : CellWant Name) (a : CellAction Name) → work_wants item ≡ Some want → All (typed_going image.types ports calls' want a)
  item-going (cell k (an_inport port) ps) want a is = subst (λ w. All (typed_going image.types ports calls' w a)) (some-injective is) (λ t i h. absurd h)
  item-going (cell k (a_callmessage caller call) ps) want a is = subst (λ w. All (typed_going image.types ports calls' w a)) (some-injective is) (gone-stands exceptions' image good.good good.table m in-image ports calls' (calls' caller call))
  item-going (cell k kind ps) want a is = none-not_some is

  -- what an answer leaves, and what goes out with it
  abbrev pub Stood : CodeState Name → CellWant Name → CellAction Name → Type 0
  Stood t want a = Now t × All (typed_going image.types ports calls' want a)

  abbrev known : (t : ℕ) → IsIn t m.variables → IsType image.types t
  known = (between.good-module exceptions' image good.good good.table m in-image).variables_known

  -- an action but a call
  plain-stood : ArePorts exceptions' image good.good good.table m in-image ports calls' → (s t : CodeState Name) (p : Piece) (met : Met) (want : CellWant Name) (at : ℕ) (a : CellAction Name) (acting : Acting exceptions' image good.good good.table m in-image own_name s p met)
      → (IsCall met.instruction → ⊥) → Q (acting.there).label (acting.there).before s.frame → wanted_next own_name c s (an_action p met) ≡ Some want → Answers want a → action_at c s.position ≡ Some met → SuitsCode c s at a
      → Coming exceptions' image good.good good.table m in-image ports calls' met.instruction s.frame at a → settle_next own_name c s at a (an_action p met) ≡ Some t → Stood t want a
  plain-stood inports s t p met want at a acting none q wanted h here suits comes is =
      let x = acting.there in
      let W = between.HasWay exceptions' image good.good good.table m in-image met.index met.instruction x.label in
      let finds = between.finds-there exceptions' image good.good good.table m in-image met.index met.instruction x.label x.at x.labelled in
      let acts = each-action exceptions' image good.table (good.good).constants m known (label_at image.types image.constants) own_name W x.label x.before s.frame x.holds met.instruction x.acts none finds in
      let wants' = sym (ap (option_and_then (λ stack. code_wants own_name c met.instruction stack s.frame)) x.operands) ∙ wanted in
      let takes = takes-message exceptions' image main good m in-image s met at here a suits in
      let stands = action-stands exceptions' image good.good good.table m in-image ports calls' inports W met.instruction x.label x.before s.frame x.holds acts q.0 q.1 (counted_if p.has_step s.frame).steps (suc s.frame.actions) at a want wants' h takes comes in (
        now-of t (plain-along exceptions' image good.good good.table m in-image own_name Q E (keeps-standing exceptions' image good.good good.table m in-image ports calls') s t p met acting at a none want wanted h takes stands is),
        action-going exceptions' image good.good good.table m in-image ports calls' inports W met.instruction x.label x.before s.frame x.holds acts q.0 q.1 want a wants' h,
      )

  -- a call: its callmessage is placed and it stays open, or it comes back
  module _ (s t : CodeState Name) (p : Piece) (j : ℕ) (o : Path) (arguments : List Argument) (keep : List Raised) (acting : Acting exceptions' image good.good good.table m in-image own_name s p (record { index = j; instruction = Call o arguments keep }))
      (q : Q (acting.there).label (acting.there).before s.frame) (at : ℕ) where
    abbrev i : Instruction
    i = Call o arguments keep

    abbrev met_call : Met
    met_call = record { index = j; instruction = i }

    abbrev l : Label
    l = (acting.there).label

    abbrev W : Outcome → Type 0
    W = between.HasWay exceptions' image good.good good.table m in-image j i l

    abbrev counted : Frame Name
    counted = recount (counted_if p.has_step s.frame).steps (suc s.frame.actions) s.frame

    abbrev finds : Finds exceptions' image m W i l
    finds = found exceptions' image good.good good.table m in-image own_name j o arguments keep l (acting.there).at (acting.there).labelled

    there : Calls exceptions' image good.good good.table m in-image ports calls' W l o arguments keep finds (acting.there).before s.frame
    there = calls-there exceptions' image good.good good.table m in-image ports calls' W l o arguments keep finds (acting.there).before s.frame ((acting.there).holds).sound ((acting.there).holds).stack q.0 q.1

    there-counted : Calls exceptions' image good.good good.table m in-image ports calls' W l o arguments keep finds (acting.there).before counted
    there-counted = calls-there exceptions' image good.good good.table m in-image ports calls' W l o arguments keep finds (acting.there).before counted ((acting.there).holds).sound ((acting.there).holds).stack q.0 q.1

    -- the state with the call open
    abbrev opened : CodeState Name
    opened = record { module_number = s.module_number; position = at_index j; stack = (there-counted).rest; frame = record ((there-counted).composed.frame) { call = Some (there-counted).composed.call } }

    is-opened : (n : ℕ) (d : Cell Name) → settle_next own_name c s at (put (Some n) d) (an_action p met_call) ≡ Some t → opened ≡ t
    is-opened n d is =
        let settled' = settles exceptions' image good.good good.table m in-image own_name Q E (keeps-standing exceptions' image good.good good.table m in-image ports calls') s t p met_call acting at (put (Some n) d) is in
        some-injective (sym (ap (λ (e : Effect Name). settled own_name c s j i e.stack e.completion) ((there-counted).settles at (put (Some n) d)) ∙ ap (on_by own_name c (run_on own_name c (length m.code)) opened j) (acting.there).at) ∙ settled')

    met-there : met_at c (at_index j) ≡ Some met_call
    met-there = ap (λ (x : Option Instruction). elim x [ None ↦ None | Some instruction ↦ Some (record { index = j; instruction = instruction }) ]) (acting.there).at

    opened-now : Now opened
    opened-now =
        let label : label_of c (at_index j) ≡ Some l = (acting.there).labelled in (
          subst (λ slots. Body slots opened.frame) (sym (ap (list_of (λ (l : Label). l.slots)) label)) (there-counted).body,
          subst (λ ts. Values ts (there-counted).rest)
              (sym (ap (λ (x : Option Met). elim x [ None ↦ list_of (λ (l : Label). l.stack) (label_of c (at_index j)) | Some met ↦ drop (inputs_of met.instruction) (list_of (λ (l : Label). l.stack) (label_of c (at_index j))) ]) met-there ∙ ap (λ o. drop (count_inputs arguments) (list_of (λ (l : Label). l.stack) o)) label))
              (there-counted).values,
        )

    -- the call that is open then
    opened-call : code_open_call c opened ≡ Some (record { number = (there).composed.call; call_type = call_type (c).scope (record { port = o; arguments = [] }) })
    opened-call =
        ap (option_and_then (λ (met : Met). option_map (λ t. record { number = (there-counted).composed.call; call_type = t }) (type_of_call c met.instruction))) met-there
        ∙ ap (λ n. Some (record { number = n; call_type = call_type (c).scope (record { port = o; arguments = [] }) })) (same-number (counted_if p.has_step s.frame).steps (suc s.frame.actions) c arguments (acting.there).before s.frame (there).composed (there-counted).composed (there).is (there-counted).is)

    calls-type : call_type (c).scope (record { port = o; arguments = [] }) ≡ Some (is_called exceptions' image good.good good.table m in-image ports calls' W l o arguments keep finds).message
    calls-type =
        let k = is_called exceptions' image good.good good.table m in-image ports calls' W l o arguments keep finds in
        ap (λ p. option_and_then message_type (option_and_then (slice_get image.types) p)) (inport-is image.types m.variables o k.message k.goes) ∙ ap (option_and_then message_type) k.goes.5

    call-stood : (want : CellWant Name) (a : CellAction Name) → wanted_next own_name c s (an_action p met_call) ≡ Some want → Answers want a → action_at c s.position ≡ Some met_call → SuitsCode c s at a
        → ((n : ℕ) (d : Cell Name) → a ≡ put (Some n) d → All (list_of (λ (call : OpenCall). at_type (a_callmessage s.frame.number call.number) call.call_type) (code_open_call c t)))
        → settle_next own_name c s at a (an_action p met_call) ≡ Some t → Stood t want a
    call-stood want a wanted h here suits makes is = by a h (takes-message exceptions' image main good m in-image s met_call at here a suits) makes is
      where
        wants' : code_wants own_name c i (acting.there).before s.frame ≡ Some want
        wants' = sym (ap (option_and_then (λ stack. code_wants own_name c i stack s.frame)) (acting.there).operands) ∙ wanted

        want-is : (port : ℕ) × (to_put port (there).composed.message ≡ want)
        want-is = let r = chain-some (λ port. Some (to_put port (there).composed.message)) (outport_at o s.frame) want (sym (there).wants ∙ wants') in (r.0, some-injective r.2)

        never : {A : Type 0} (a : CellAction Name) → ((port : ℕ) (d : Cell Name) → Answers {R = CellReply Name} (to_put port d) a → ⊥) → Answers want a → A
        never a none h = absurd (none want-is.0 (there).composed.message (subst (λ w. Answers w a) (sym want-is.1) h))

        none-going : (d : Cell Name) → All (typed_going image.types ports calls' want (put None d))
        none-going d = subst (λ w. All (typed_going image.types ports calls' w (put None d))) want-is.1 (λ t i h. absurd h)

        by : (a : CellAction Name) → Answers want a → TakesMessage c i s.frame at a → ((n : ℕ) (d : Cell Name) → a ≡ put (Some n) d → All (list_of (λ (call : OpenCall). at_type (a_callmessage s.frame.number call.number) call.call_type) (code_open_call c t)))
            → settle_next own_name c s at a (an_action p met_call) ≡ Some t → Stood t want a
        by (put (Some n) d) h takes makes is =
            let same = is-opened n d is in
            let message = (is_called exceptions' image good.good good.table m in-image ports calls' W l o arguments keep finds).message in
            let made = makes n d refl message (a_callmessage s.frame.number (there).composed.call)
            (in-some (λ (call : OpenCall). at_type (a_callmessage s.frame.number call.number) call.call_type) (message, a_callmessage s.frame.number (there).composed.call) (code_open_call c t) (record { number = (there).composed.call; call_type = call_type (c).scope (record { port = o; arguments = [] }) }) (ap (λ t. code_open_call c t) (sym same) ∙ opened-call)
            (at-type (a_callmessage s.frame.number (there).composed.call) (call_type (c).scope (record { port = o; arguments = [] })) message calls-type)) in (
              subst Now same opened-now,
              call-going exceptions' image good.good good.table m in-image ports calls' W l o arguments keep finds (acting.there).before s.frame there q.0 made want n d wants',
            )
        by (put None d) h takes makes is = (
          came (answered-along exceptions' image good.good good.table m in-image own_name Q E (keeps-standing exceptions' image good.good good.table m in-image ports calls') s t p at (put None d) want h met_call acting wanted takes
              (call-stands exceptions' image good.good good.table m in-image ports calls' W l o arguments keep finds (acting.there).before counted there-counted at (put None d)) is),
          none-going d,
        )
          where
            came : ComesSo t ⊎ Stayed exceptions' image good.good good.table m in-image own_name Q E (keeps-standing exceptions' image good.good good.table m in-image ports calls') s t j (code_settles own_name c i (acting.there).before at (put None d) counted) → Now t
            came (inl comes) = now-of t comes
            came (inr stayed) = absurd (true≢false (sym (ap is_staying (sym (ap (λ (e : Effect Name). e.completion) ((there-counted).settles at (put None d))) ∙ stayed.completes))))
        by (make_port made) h takes makes is = never (make_port made) (λ port d h. h) h
        by (make_process code made) h takes makes is = never (make_process code made) (λ port d h. h) h
        by (take k d) h takes makes is = never (take k d) (λ port d h. h) h
        by (close count left) h takes makes is = never (close count left) (λ port d h. h) h
        by (answer call r) h takes makes is = never (answer call r) (λ port d h. h) h
        by (hear call r) h takes makes is = never (hear call r) (λ port d h. h) h

  -- the reply to the open call
  heard-stood : (s t : CodeState Name) (k : ℕ) (met : Met) (at : ℕ) (r : CellReply Name) → IsLocallySoundCode c s → Now s → s.frame.call ≡ Some k → met_at c s.position ≡ Some met → (call : OpenCall) → code_open_call c s ≡ Some call → IsReplyTo image.types call.call_type r
      → All (typed_list image.types (types_of_reply image.types call.call_type r) (cells_in r)) → settle_next own_name c s at (hear k r) (a_reply k met.index met.instruction) ≡ Some t → Now t
  heard-stood s t k met at r sound now opened piece call open-call reply all is =
      now-of t (reply-along exceptions' image good.good good.table m in-image own_name Q E (keeps-standing exceptions' image good.good good.table m in-image ports calls') s t k met sound opened piece r
      (λ o arguments keeps same. subst (λ t. IsReplyTo image.types t r) (call-at c s k met o arguments keeps call opened piece same open-call).1 reply) at
      (λ l labelled. by l labelled) is)
    where
      place : (s.position ≡ at_index met.index) × (instruction_at m met.index ≡ Some met.instruction)
      place = met-index exceptions' image good.good good.table m in-image own_name s.position met piece

      there' : (n : Met) × (met_at c s.position ≡ Some n) × IsCall n.instruction
      there' = sound.call k opened

      is_call : IsCall met.instruction
      is_call = subst (λ (met : Met). IsCall met.instruction) (some-injective (sym there'.1 ∙ piece)) there'.2

      by : (l : Label) → (c).label met.index ≡ Some l → StandsBehind exceptions' image good.good good.table m in-image ports calls' met.instruction l s.stack (code_hears met.instruction k (hear k r) (counted_action s.frame))
      by l labelled =
          let i = is-call met.instruction is_call in
          let label : label_of c s.position ≡ Some l = ap (label_of c) place.0 ∙ labelled in
          let types : stack_types c s ≡ drop (inputs_of met.instruction) l.stack =
          ap (λ k. types_of k s.position) opened ∙ ap (λ (x : Option Met). elim x [ None ↦ stack_at c s | Some met ↦ drop (inputs_of met.instruction) (stack_at c s) ]) piece ∙ ap (λ o. drop (inputs_of met.instruction) (list_of (λ (l : Label). l.stack) o)) label in
          let body = subst (λ slots. Body slots s.frame) (ap (list_of (λ (l : Label). l.slots)) label) now.0 in
          let values = subst (λ ts. Values ts s.stack) (types ∙ ap (λ i. drop (inputs_of i) l.stack) i.3) now.1 in
          let type = (call-at c s k met i.0 i.1 i.2 call opened piece i.3 open-call).1 in
          subst (λ x. StandsBehind exceptions' image good.good good.table m in-image ports calls' x l s.stack (code_hears x k (hear k r) (counted_action s.frame))) (sym i.3)
          (reply-stands exceptions' image good.good good.table m in-image ports calls' (between.HasWay exceptions' image good.good good.table m in-image met.index (Call i.0 i.1 i.2) l) l i.0 i.1 i.2
          (found exceptions' image good.good good.table m in-image own_name met.index i.0 i.1 i.2 l (place.1 ∙ ap Some i.3) labelled) k r s.stack (counted_action s.frame)
          (subst (λ t. IsReplyTo image.types t r) type reply) (subst (λ t. All (typed_list image.types (types_of_reply image.types t r) (cells_in r))) type all) body values)

  -- what comes in and what is made, by the code
  abbrev pub CameIn : CodeState Name → (at : ℕ) → CellAction Name → Type 0
  CameIn s at (take k d) = All (list_of (λ t. typed_of image.types t d) (option_and_then (message_of_port image.types) (code_port_type c s at)))
  CameIn s at (hear k r) = All (list_of (λ (call : OpenCall). typed_list image.types (types_of_reply image.types call.call_type r) (cells_in r)) (code_open_call c s))
  CameIn s at a = ⊤

  abbrev pub WasMade : (before behind : CodeState Name) → CellAction Name → Type 0
  WasMade s t (make_port (Some n)) = All (at_type (an_inport n) (option_and_then (λ (met : Met). type_made met.instruction) (action_at c s.position)))
  WasMade s t (make_process code (Some made)) = All (at_type (an_inport made.1) (TypedStatements.port_type (processes_of image.modules) code))
  WasMade s t (put (Some n) d) = All (list_of (λ (call : OpenCall). at_type (a_callmessage t.frame.number call.number) call.call_type) (code_open_call c t))
  WasMade s t a = ⊤

  comes-with : (s t : CodeState Name) (met : Met) (at : ℕ) (a : CellAction Name) → action_at c s.position ≡ Some met → CameIn s at a → WasMade s t a → Coming exceptions' image good.good good.table m in-image ports calls' met.instruction s.frame at a
  comes-with s t met at (take k d) here came made = λ v u looked takes w j i.
      came w j (in-some (λ t. typed_of image.types t d) (w, j) (option_and_then (message_of_port image.types) (code_port_type c s at)) u
      (ap (option_and_then (message_of_port image.types)) (ap (option_and_then (λ (met : Met). option_and_then (type_at image.types m.variables) (find (leads_from at s.frame) (ports_of met.instruction)))) here ∙ looked) ∙ takes) i)
  comes-with s t met at (make_port (Some n)) here came made = subst (λ o. All (at_type (an_inport n) o)) (ap (option_and_then (λ (met : Met). type_made met.instruction)) here) made
  comes-with s t met at (make_port None) here came made = tt
  comes-with s t met at (make_process code (Some born)) here came made = made
  comes-with s t met at (make_process code None) here came made = tt
  comes-with s t met at (put n d) here came made = tt
  comes-with s t met at (close count left) here came made = tt
  comes-with s t met at (answer call r) here came made = tt
  comes-with s t met at (hear call r) here came made = tt

  call-made : (s t : CodeState Name) (a : CellAction Name) → t.frame.number ≡ s.frame.number → WasMade s t a → (n : ℕ) (d : Cell Name) → a ≡ put (Some n) d → All (list_of (λ (call : OpenCall). at_type (a_callmessage s.frame.number call.number) call.call_type) (code_open_call c t))
  call-made s t a number made n d is =
      subst (λ k. All (list_of (λ (call : OpenCall). at_type (a_callmessage k call.number) call.call_type) (code_open_call c t))) number (subst (WasMade s t) is made)

  pub answer-stood : ArePorts exceptions' image good.good good.table m in-image ports calls' → (s t : CodeState Name) (want : CellWant Name) (at : ℕ) (a : CellAction Name) → IsLocallySoundCode c s → Now s → code_wanted own_name c s ≡ Some want → Answers want a → SuitsCode c s at a
      → CameIn s at a → WasMade s t a → code_answered own_name c s at a ≡ Some t → Stood t want a
  answer-stood inports s t want at a sound now wanted h suits came made is = by (code_next c s) (comes-next c s) wanted is
    where
      number : t.frame.number ≡ s.frame.number
      number = (code-answer-stays own_name c s t at a is).0

      heard : (k : ℕ) (met : Met) → s.frame.call ≡ Some k → met_at c s.position ≡ Some met → (a : CellAction Name) → Answers {M = Cell Name} {R = CellReply Name} to_hear a → SuitsCode c s at a → CameIn s at a
          → settle_next own_name c s at a (a_reply k met.index met.instruction) ≡ Some t → Stood t to_hear a
      heard k met opened piece (hear k' r) h suits came is =
          let there' = sound.call k opened in
          let same : there'.0 ≡ met = some-injective (sym there'.1 ∙ piece) in
          let i = is-call met.instruction (subst (λ (met : Met). IsCall met.instruction) same there'.2) in
          let heard-number : k' ≡ k = sym suits.2 ∙ (call-at c s k met i.0 i.1 i.2 suits.0 opened piece i.3 suits.1).0 in
          let all : All (typed_list image.types (types_of_reply image.types (suits.0).call_type r) (cells_in r)) =
          λ v j i. came v j (in-some (λ (call : OpenCall). typed_list image.types (types_of_reply image.types call.call_type r) (cells_in r)) (v, j) (code_open_call c s) suits.0 suits.1 i) in (
            heard-stood s t k met at r sound now opened piece suits.0 suits.1 suits.3 all (subst (λ k'. settle_next own_name c s at (hear k' r) (a_reply k met.index met.instruction) ≡ Some t) heard-number is),
            λ v j i. absurd i,
          )
      heard k met opened piece a h suits came is = absurd h

      acted : (p : Piece) (met : Met) → s.frame.work ≡ [] → s.frame.call ≡ None → piece_at c s.position ≡ Some p → action_of c p ≡ Some met → wanted_next own_name c s (an_action p met) ≡ Some want
          → settle_next own_name c s at a (an_action p met) ≡ Some t → Stood t want a
      acted p met idle closed piece act wanted is = either (is-call-or met.instruction)
        where
          here : action_at c s.position ≡ Some met
          here = ap (option_and_then (action_of c)) piece ∙ act

          acting : Acting exceptions' image good.good good.table m in-image own_name s p met
          acting = acting-at exceptions' image good.good good.table m in-image own_name s p met sound idle closed piece act

          q : Q (acting.there).label (acting.there).before s.frame
          q = acting-along exceptions' image good.good good.table m in-image own_name Q E (keeps-standing exceptions' image good.good good.table m in-image ports calls') (λ l stack b so. so) (λ s a l stack b so. so) s p met sound idle closed (at-label s closed now) piece act acting

          OfCall : Met → Type 0
          OfCall met = (acting : Acting exceptions' image good.good good.table m in-image own_name s p met) → Q (acting.there).label (acting.there).before s.frame → action_at c s.position ≡ Some met → wanted_next own_name c s (an_action p met) ≡ Some want
              → settle_next own_name c s at a (an_action p met) ≡ Some t → Stood t want a

          either : IsCall met.instruction ⊎ (IsCall met.instruction → ⊥) → Stood t want a
          either (inl call) =
              let i = is-call met.instruction call in
              subst OfCall (ap (λ (i : Instruction). record { index = met.index; instruction = i }) (sym i.3))
              (λ acting q here wanted is. call-stood s t p met.index i.0 i.1 i.2 acting q at want a wanted h here suits (call-made s t a number made) is) acting q here wanted is
          either (inr none) = plain-stood inports s t p met want at a acting none q wanted h here suits (comes-with s t met at a here came made) is

      by : (next : CodeNext Name) → ComesNext c s next → wanted_next own_name c s next ≡ Some want → settle_next own_name c s at a next ≡ Some t → Stood t want a
      by (an_item item work) (by_work i w front) wanted is = (item-stands s t item work a sound now front is, item-going item want a wanted)
      by (an_action p met) (by_act p' met' idle closed piece act) wanted is = acted p met idle closed piece act wanted is
      by (a_reply k i instruction) (by_call k' met idle opened piece) wanted is =
          subst (λ w. Answers w a → Stood t w a) (some-injective wanted) (λ h. heard k met opened piece a h suits came is) h
      by (a_local_piece p) next wanted is = none-not_some wanted
      by nothing next wanted is = none-not_some wanted
