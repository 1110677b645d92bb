-- What waits to be finalised: it wants what a process has, and each answer leaves the process sound within itself.
use Rattle.std.proofs.Common.{◌≡◌, ◌⊎◌, inl, inr, ℕ, List, [], ◌∷◌, map, Bool, true, false, Option, Some, None, option_and_then, option_map, refl, sym, ap, subst, ◌∙◌}
use Rattle.std.specs.Prelude.{slice_get, find, drop, IsTrue, nat_lt, ⊤}
use Rattle.herm_model.specs.Lists.{IsIn, list_of, any_pass}
use Rattle.herm_model.specs.Paths.{Path, Fact, init, case, path_of, is_at_or_below}
use Rattle.herm_model.specs.FactsOfValues.{HasExactly}
use Rattle.herm_model.specs.Finalising.{pending, pending_in}
use Rattle.herm_model.specs.Statements.{Differ}
use Rattle.herm_model.specs.Typed.{HaveTypes}
use Rattle.herm_model.specs.Types.{Raised, type_at}
use Rattle.herm_model.specs.Values.{Name, a_callmessage, an_inport, Cell, cell, no_parts, gap, part}
use Rattle.herm_model.proofs.Lists.{not_true}
use Rattle.herm_model.proofs.Options.{none-not_some, some-injective, chain-some}
use Rattle.herm_journal.specs.Actions.{gone, to_put, to_hear, to_close, to_answer, make_port, make_process, put, take, close, answer, hear}
use Rattle.herm_journal.specs.Messages.{CellWant, CellAction, CellReply, AreFull, IsMessage, IsReplyTo}
use Rattle.herm_system.specs.Machines.{OpenCall, is_acting, local}
use Rattle.herm_system.specs.Suiting.{Answers, Suits}
use Rattle.herm_forms.specs.ClosesAndAnswers
use Rattle.herm_forms.specs.Frames.{Frame, Completion, goes, stays, stuck, counted_action}
use Rattle.herm_forms.specs.Incoming.{leads_from}
use Rattle.herm_forms.proofs.KeptBodies.{LetsGo, All, stayed, all-work}
use Rattle.herm_sound.specs.SoundMachines.{CallMoves}
use Rattle.herm_forms.specs.OpenCalls.{call_type}
use Rattle.herm_instructions.specs.Effects.{atom_of}
use Rattle.herm_instructions.specs.Instructions.{Argument, Instruction, Call}
use Rattle.herm_instructions.specs.Images.{CodeModule, Image}
use Rattle.herm_code_machine.specs.ReadyCode.{ReadyCode, ReadyImage, labelled_image}
use Rattle.herm_code_machine.specs.CodeInstance.{code_machine, own_name, code_at, ready_if}
use Rattle.herm_code_machine.specs.CodeLocal.{AreSlots, HasFactOfLabel, lent_by, met_while_open, stack_at, inputs_of, slots_at, IsCall, WaitsAlone, IsLocallySoundCode, IsSoundCodeIn}
use Rattle.herm_code_machine.specs.CodeSeen.{type_of_call, code_open_call, code_port_type, action_at, ports_of}
use Rattle.herm_code_machine.specs.CodeStates.{Position, CodeState}
use Rattle.herm_code_machine.specs.CodeSteps.{CodeNext, an_item, a_reply, an_action, a_local_piece, nothing, code_next, met_at, worked, wanted_next, settle_next, code_wanted, code_answered, code_ready, ready_for, within_steps}
use Rattle.herm_code_machine.specs.Pieces.{Piece, Met, piece_at, action_of}
use Rattle.herm_code_machine.specs.laws.GoodImageLaws.{IsGoodOver, AnswersAreSound, labelled_code}
use Rattle.herm_code_machine.proofs.sound.ActionEffects.{TakesMessage}
use Rattle.herm_code_machine.proofs.sound.ActionSteps.{Acting, acting-at, action-goes}
use Rattle.herm_code_machine.proofs.sound.CallSteps.{is-call, is-call-or, LeftBy, Answered, call-goes, reply-heard}
use Rattle.herm_code_machine.proofs.sound.AtLabels.{numbers}
use Rattle.herm_code_machine.proofs.sound.Between.{AreAlone, pending-alone, pending-alone-in, both-alone}
use Rattle.herm_code_machine.proofs.sound.CopiedStacks.{AreCopied}
use Rattle.herm_code_machine.proofs.sound.LocalSteps.{ComesNext, by_work, by_call, by_act, comes-next}
use Rattle.herm_code_machine.proofs.sound.Processes.{module-of, sound-in}
use Rattle.herm_code_machine.proofs.sound.CodeThere.{sound-at}

-- as the rest of a frame changes
pub same-sound : (c : ReadyCode) (s : CodeState Name) (b : Frame Name) → b.variables ≡ s.frame.variables → b.loops ≡ s.frame.loops → b.call ≡ s.frame.call → AreAlone b.work → IsLocallySoundCode c s → IsLocallySoundCode c (record s { frame = b })
same-sound c s b variables loops call work sound =
    let t : CodeState Name = record s { frame = b } in
    let opened : met_while_open c t ≡ met_while_open c s = ap (λ k. elim k [ None ↦ None | Some k ↦ met_at c s.position ]) call in
    let free : (f : Fact) → any_pass (λ p. is_at_or_below p (path_of f)) (list_of (λ (m : Met). lent_by m.instruction) (met_while_open c t)) ≡ any_pass (λ p. is_at_or_below p (path_of f)) (list_of (λ (m : Met). lent_by m.instruction) (met_while_open c s)) =
    λ f. ap (λ (o : Option Met). any_pass (λ p. is_at_or_below p (path_of f)) (list_of (λ (m : Met). lent_by m.instruction) o)) opened in
    let values : HasExactly s.frame.variables (HasFactOfLabel c t) = record {
      values = λ p. ((λ v. let h = (sound.values.values p).0 v in (h.0, free (init p) ∙ h.1)), (λ f. (sound.values.values p).1 (f.0, sym (free (init p)) ∙ f.1)));
      components = λ p k f. sound.values.components p k (f.0, sym (free (case p k)) ∙ f.1);
    } in
    record {
      stands = sound.stands;
      label = sound.label;
      values = subst (λ ps. HasExactly ps (HasFactOfLabel c t)) (sym variables) values;
      types = subst (HaveTypes c.scope.types c.scope.variables) (sym variables) sound.types;
      stack = subst (λ (o : Option Met). AreFull c.scope.types (elim o [ None ↦ stack_at c s | Some m ↦ drop (inputs_of m.instruction) (stack_at c s) ]) s.stack) (sym opened) sound.stack;
      copies = subst (λ (o : Option Met). AreCopied c.scope.types (elim o [ None ↦ stack_at c s | Some m ↦ drop (inputs_of m.instruction) (stack_at c s) ])) (sym opened) sound.copies;
      slots = subst (AreSlots c.scope.types (slots_at c s)) (sym loops) sound.slots;
      slots_differ = subst (λ loops. Differ (numbers loops)) (sym loops) sound.slots_differ;
      call = λ k e. sound.call k (sym call ∙ e);
      work = work;
    }

-- a frame of which only the work list and what is finalised change
module _ (b : Frame Name) where
  abbrev OnlyWorks : Frame Name → Type 0
  OnlyWorks d = AreAlone d.work × (d.variables ≡ b.variables) × (d.loops ≡ b.loops) × (d.call ≡ b.call)

  only-lets : LetsGo OnlyWorks
  only-lets = record {
    value = λ d e h. (both-alone e.work (pending d) h.0 (pending-alone d), h.1, h.2, h.3);
    parts = λ ps e h. (both-alone e.work (pending_in ps) h.0 (pending-alone-in ps), h.1, h.2, h.3);
    name = λ n e h. h;
  }

pub worked-sound : (c : ReadyCode) (s t : CodeState Name) (item : Cell Name) (work : List (Cell Name)) (a : CellAction Name) → IsLocallySoundCode c s → s.frame.work ≡ item ∷ work
    → worked s (ClosesAndAnswers.work_done item a (counted_action (record (s.frame) { work = work }))) ≡ Some t → IsLocallySoundCode c t × (t.frame.call ≡ s.frame.call) × (t.module_number ≡ s.module_number) × (t.position ≡ s.position)
worked-sound c s t item work a sound front is =
    by (ClosesAndAnswers.work_done item a (counted_action (record (s.frame) { work = work })))
    (all-work (OnlyWorks s.frame) (only-lets s.frame) item a (counted_action (record (s.frame) { work = work })) ((λ x h. sound.work x (subst (IsIn x) (sym front) (inr h))), refl, refl, refl)) is
  where
    by : (r : Completion Name) → All (OnlyWorks s.frame) (OnlyWorks s.frame) r → worked s r ≡ Some t → IsLocallySoundCode c t × (t.frame.call ≡ s.frame.call) × (t.module_number ≡ s.module_number) × (t.position ≡ s.position)
    by (goes o b) h is = none-not_some is
    by (stays b) (stayed b' h) is =
        subst (λ (t : CodeState Name). IsLocallySoundCode c t × (t.frame.call ≡ s.frame.call) × (t.module_number ≡ s.module_number) × (t.position ≡ s.position)) (some-injective is) (same-sound c s b h.1 h.2 h.3 h.0 sound, h.3, refl, refl)
    by stuck h is = none-not_some is

-- the front of a work list wants to be finalised, and takes the answer
pub item-wants : (item : Cell Name) → WaitsAlone item → (w : CellWant Name) × (ClosesAndAnswers.work_wants item ≡ Some w)
item-wants (cell n (an_inport port) no_parts) h = (to_close port, refl)
item-wants (cell n (a_callmessage caller call) no_parts) h = (to_answer caller call gone, refl)
item-wants (cell n k no_parts) h = not_true h
item-wants (cell n k (gap ps)) h = absurd h
item-wants (cell n k (part d ps)) h = absurd h

abbrev IsThere : CodeState Name → Completion Name → Type 0
IsThere s r = (t : CodeState Name) × (worked s r ≡ Some t)

closing : (s : CodeState Name) (item : Cell Name) (port : ℕ) (a : CellAction Name) (b : Frame Name) → Answers {M = Cell Name} {R = CellReply Name} (to_close port) a → IsThere s (ClosesAndAnswers.work_done item a b)
closing s item port (close count left) b h = (_, refl)
closing s item port a b h = absurd h

answering : (s : CodeState Name) (item : Cell Name) (caller call : ℕ) (r : CellReply Name) (a : CellAction Name) (b : Frame Name) → Answers {M = Cell Name} (to_answer caller call r) a → IsThere s (ClosesAndAnswers.work_done item a b)
answering s item caller call r (answer k v) b h = (_, refl)
answering s item caller call r a b h = absurd h

pub item-answered : (s : CodeState Name) (item : Cell Name) (w : CellWant Name) (a : CellAction Name) (b : Frame Name) → ClosesAndAnswers.work_wants item ≡ Some w → Answers w a → IsThere s (ClosesAndAnswers.work_done item a b)
item-answered s (cell n (an_inport port) ps) w a b e h = closing s (cell n (an_inport port) ps) port a b (subst (λ w. Answers w a) (sym (some-injective e)) h)
item-answered s (cell n (a_callmessage caller call) ps) w a b e h = answering s (cell n (a_callmessage caller call) ps) caller call gone a b (subst (λ w. Answers w a) (sym (some-injective e)) h)
item-answered s (cell n k ps) w a b e h = none-not_some e

-- a call is opened by a message that is placed, and closed by a reply that is heard
abbrev pub MovesCall : ReadyCode → CodeState Name → CodeState Name → CellAction Name → Type 0
MovesCall c s t (put (Some n) message) = code_open_call c s ≡ None
MovesCall c s t (hear k r) = code_open_call c t ≡ None
MovesCall c s t a = code_open_call c t ≡ code_open_call c s

moves-closed : (c : ReadyCode) (s t : CodeState Name) (a : CellAction Name) → code_open_call c s ≡ None → code_open_call c t ≡ None → MovesCall c s t a
moves-closed c s t (put (Some n) message) h k = h
moves-closed c s t (put None message) h k = k ∙ sym h
moves-closed c s t (hear i r) h k = k
moves-closed c s t (make_port made) h k = k ∙ sym h
moves-closed c s t (make_process code made) h k = k ∙ sym h
moves-closed c s t (take i message) h k = k ∙ sym h
moves-closed c s t (close count left) h k = k ∙ sym h
moves-closed c s t (answer i r) h k = k ∙ sym h

moves-item : (c : ReadyCode) (s t : CodeState Name) (item : Cell Name) (w : CellWant Name) (a : CellAction Name) → ClosesAndAnswers.work_wants item ≡ Some w → Answers w a → code_open_call c t ≡ code_open_call c s → MovesCall c s t a
moves-item c s t (cell n (an_inport port) ps) w a is h same = by a (subst (λ w. Answers w a) (sym (some-injective is)) h)
  where
    by : (a : CellAction Name) → Answers {M = Cell Name} {R = CellReply Name} (to_close port) a → MovesCall c s t a
    by (close count left) h = same
    by a h = absurd h
moves-item c s t (cell n (a_callmessage caller call) ps) w a is h same = by a (subst (λ w. Answers w a) (sym (some-injective is)) h)
  where
    by : (a : CellAction Name) → Answers {M = Cell Name} {R = CellReply Name} (to_answer caller call gone) a → MovesCall c s t a
    by (answer k r) h = same
    by a h = absurd h
moves-item c s t (cell n k ps) w a is h same = none-not_some is

-- what comes in with an action suits a process of a code
abbrev pub SuitsCode : ReadyCode → CodeState Name → (at : ℕ) → CellAction Name → Type 0
SuitsCode c s at (take k message) = (t : ℕ) × (code_port_type c s at ≡ Some t) × IsMessage c.scope.types t message
SuitsCode c s at (hear k r) = (call : OpenCall) × (code_open_call c s ≡ Some call) × (call.number ≡ k) × IsReplyTo c.scope.types call.call_type r
SuitsCode c s at a = ⊤

-- the open call of a process at a call
pub call-at : (c : ReadyCode) (s : CodeState Name) (k : ℕ) (met : Met) (o : Path) (arguments : List Argument) (keeps : List Raised) (call : OpenCall) → s.frame.call ≡ Some k → met_at c s.position ≡ Some met → met.instruction ≡ Call o arguments keeps
    → code_open_call c s ≡ Some call → (call.number ≡ k) × (call.call_type ≡ call_type c.scope (record { port = o; arguments = map atom_of arguments }))
call-at c s k met o arguments keeps call opened there is e =
    let same : record { number = k; call_type = call_type c.scope (record { port = o; arguments = [] }) } ≡ call =
    some-injective (sym (ap (option_and_then (λ k. option_and_then (λ (m : Met). option_map (λ t. record { number = k; call_type = t }) (type_of_call c m.instruction)) (met_at c s.position))) opened
    ∙ ap (option_and_then (λ (m : Met). option_map (λ t. record { number = k; call_type = t }) (type_of_call c m.instruction))) there ∙ ap (λ i. option_map (λ t. record { number = k; call_type = t }) (type_of_call c i)) is) ∙ e) in
    (ap (λ (x : OpenCall). x.number) (sym same), ap (λ (x : OpenCall). x.call_type) (sym same))

module _ (exceptions' : ℕ) (image : Image) (main : ℕ) (good : IsGoodOver exceptions' image) (m : CodeModule) (in-image : IsIn m image.modules) where
  abbrev c : ReadyCode
  c = labelled_code image m

  -- the call of this number at a position
  abbrev pub call_there : ℕ → Position → Option OpenCall
  call_there k p = option_and_then (λ (m : Met). option_map (λ t. record { number = k; call_type = t }) (type_of_call c m.instruction)) (met_at c p)

  closed-there : (s : CodeState Name) → s.frame.call ≡ None → code_open_call c s ≡ None
  closed-there s e = ap (option_and_then (λ k. call_there k s.position)) e

  abbrev acting_at : (s : CodeState Name) (p : Piece) (met : Met) → IsLocallySoundCode c s → s.frame.work ≡ [] → s.frame.call ≡ None → piece_at c s.position ≡ Some p → action_of c p ≡ Some met → Acting exceptions' image good.good good.table m in-image own_name s p met
  acting_at s p met sound idle closed at is = acting-at exceptions' image good.good good.table m in-image own_name s p met sound idle closed at is

  -- what comes in with an action that suits is a message of the port at which the action looks
  pub takes-message : (s : CodeState Name) (met : Met) (at : ℕ) → action_at c s.position ≡ Some met → (a : CellAction Name) → SuitsCode c s at a → TakesMessage c met.instruction s.frame at a
  takes-message s met at here (take k message) suits = (suits.0, sym (ap (option_and_then (λ (m : Met). option_and_then (type_at c.scope.types c.scope.variables) (find (leads_from at s.frame) (ports_of m.instruction)))) here) ∙ suits.1, suits.2)
  takes-message s met at here (make_port made) suits = tt
  takes-message s met at here (make_process code made) suits = tt
  takes-message s met at here (put k message) suits = tt
  takes-message s met at here (close count left) suits = tt
  takes-message s met at here (answer k r) suits = tt
  takes-message s met at here (hear k r) suits = tt

  -- what comes next wants something, where it is an action
  wants-there : (limit : ℕ) (s : CodeState Name) → IsLocallySoundCode c s → IsTrue (is_acting (code_ready c limit s)) → (w : CellWant Name) × (code_wanted own_name c s ≡ Some w)
  wants-there limit s sound acting = by (code_next c s) (comes-next c s) acting
    where
      never-local : {A : Type 0} (has within : Bool) → IsTrue (is_acting (within_steps has within local)) → A
      never-local true true h = not_true h
      never-local true false h = not_true h
      never-local false within h = not_true h

      by : (next : CodeNext Name) → ComesNext c s next → IsTrue (is_acting (ready_for limit s.frame next)) → (w : CellWant Name) × (wanted_next own_name c s next ≡ Some w)
      by (an_item item work) (by_work i w front) acting = item-wants item (sound.work item (subst (IsIn item) (sym front) (inl refl)))
      by (an_action p met) (by_act p' met' idle closed at is) acting = either (is-call-or met.instruction)
        where
          either : IsCall met.instruction ⊎ (IsCall met.instruction → ⊥) → (w : CellWant Name) × (wanted_next own_name c s (an_action p met) ≡ Some w)
          either (inl call) = let g = call-goes exceptions' image good.good good.table m in-image own_name s p met (acting_at s p met sound idle closed at is) call in (to_put g.port g.message, g.wanted)
          either (inr other) = let g = action-goes exceptions' image good.good good.table m in-image own_name s p met (acting_at s p met sound idle closed at is) other in (g.want, g.wanted)
      by (a_reply k i instruction) next acting = (to_hear, refl)
      by (a_local_piece p) next acting = never-local p.has_step (nat_lt s.frame.steps limit) acting
      by nothing next acting = not_true acting

  -- what an answer leaves
  pub record Leaves (s : CodeState Name) (a : CellAction Name) (o : Option (CodeState Name)) : Type 0 where
    pub behind : CodeState Name
    pub is : o ≡ Some behind
    pub sound : IsLocallySoundCode c behind
    pub same : behind.module_number ≡ s.module_number
    pub moves : MovesCall c s behind a

  -- it takes each answer, with which what suits comes in
  answers-there : (s : CodeState Name) (want : CellWant Name) (at : ℕ) (a : CellAction Name) → IsLocallySoundCode c s → code_wanted own_name c s ≡ Some want → Answers want a → SuitsCode c s at a → Leaves s a (code_answered own_name c s at a)
  answers-there s want at a sound wanted h suits = by (code_next c s) (comes-next c s) wanted
    where
      -- an answer to a call
      by-call : (a : CellAction Name) (o : Option (CodeState Name)) → s.frame.call ≡ None → Answered exceptions' image good.good good.table m in-image s a o → Leaves s a o
      by-call a o closed r = record { behind = r.behind; is = r.is; sound = r.sound; same = r.same; moves = left a r.behind r.left }
        where
          left : (a : CellAction Name) (t : CodeState Name) → LeftBy exceptions' image good.good good.table m in-image a t → MovesCall c s t a
          left (put (Some n) message) t h = closed-there s closed
          left (put None message) t h = moves-closed c s t (put None message) (closed-there s closed) (closed-there t h.0)
          left (hear k r) t h = moves-closed c s t (hear k r) (closed-there s closed) (closed-there t h.0)
          left (make_port made) t h = moves-closed c s t (make_port made) (closed-there s closed) (closed-there t h.0)
          left (make_process code made) t h = moves-closed c s t (make_process code made) (closed-there s closed) (closed-there t h.0)
          left (take k message) t h = moves-closed c s t (take k message) (closed-there s closed) (closed-there t h.0)
          left (close count rest) t h = moves-closed c s t (close count rest) (closed-there s closed) (closed-there t h.0)
          left (answer k r) t h = moves-closed c s t (answer k r) (closed-there s closed) (closed-there t h.0)

      heard : (k : ℕ) (met : Met) → s.frame.call ≡ Some k → met_at c s.position ≡ Some met → (a : CellAction Name) → Answers {M = Cell Name} {R = CellReply Name} to_hear a → SuitsCode c s at a → Leaves s a (settle_next own_name c s at a (a_reply k met.index met.instruction))
      heard k met opened there (hear k' r) h suits =
          let there' = sound.call k opened in
          let same : there'.0 ≡ met = some-injective (sym there'.1 ∙ there) in
          let i = is-call met.instruction (subst (λ (met : Met). IsCall met.instruction) same there'.2) in
          let of = call-at c s k met i.0 i.1 i.2 suits.0 opened there i.3 suits.1 in
          let number : k' ≡ k = sym suits.2 ∙ of.0 in
          let answered = reply-heard exceptions' image good.good good.table m in-image own_name s k met sound opened there r
          (λ o arguments keeps is. let of' = call-at c s k met o arguments keeps suits.0 opened there is suits.1 in subst (λ t. IsReplyTo image.types t r) of'.1 suits.3) at in
          subst (λ k'. Leaves s (hear k' r) (settle_next own_name c s at (hear k' r) (a_reply k met.index met.instruction))) (sym number)
          (record { behind = answered.behind; is = answered.is; sound = answered.sound; same = answered.same; moves = closed-there answered.behind (answered.left).0 })
      heard k met opened there a h suits = absurd h

      by : (next : CodeNext Name) → ComesNext c s next → wanted_next own_name c s next ≡ Some want → Leaves s a (settle_next own_name c s at a next)
      by (an_item item work) (by_work i w front) wanted =
          let t = item-answered s item want a (counted_action (record (s.frame) { work = work })) wanted h in
          let r = worked-sound c s t.0 item work a sound front t.1 in
          let same : code_open_call c t.0 ≡ code_open_call c s = ap (option_and_then (λ k. call_there k (t.0).position)) r.1 ∙ ap (λ p. option_and_then (λ k. call_there k p) s.frame.call) r.3 in
          record { behind = t.0; is = t.1; sound = r.0; same = r.2; moves = moves-item c s t.0 item want a wanted h same }
      by (an_action p met) (by_act p' met' idle closed piece is) wanted = either (is-call-or met.instruction)
        where
          either : IsCall met.instruction ⊎ (IsCall met.instruction → ⊥) → Leaves s a (settle_next own_name c s at a (an_action p met))
          either (inl call) =
              let g = call-goes exceptions' image good.good good.table m in-image own_name s p met (acting_at s p met sound idle closed piece is) call in
              by-call a (settle_next own_name c s at a (an_action p met)) closed (g.answers at a (subst (λ w. Answers w a) (sym (some-injective (sym g.wanted ∙ wanted))) h))
          either (inr other) =
              let g = action-goes exceptions' image good.good good.table m in-image own_name s p met (acting_at s p met sound idle closed piece is) other in
              let same : g.want ≡ want = some-injective (sym g.wanted ∙ wanted) in
              let r = g.answers at a (subst (λ w. Answers w a) (sym same) h) (takes-message s met at (ap (option_and_then (action_of c)) piece ∙ is) a suits) in
              record { behind = r.0; is = r.1; sound = r.2.0; same = r.2.2; moves = moves-closed c s r.0 a (closed-there s closed) (closed-there r.0 (r.2.1).0) }
      by (a_reply k i instruction) (by_call k' met idle opened there) wanted = heard k met opened there a (subst (λ w. Answers w a) (sym (some-injective wanted)) h) suits
      by (a_local_piece p) next wanted = none-not_some wanted
      by nothing next wanted = none-not_some wanted

module _ (exceptions' : ℕ) (image : Image) (main : ℕ) (good : IsGoodOver exceptions' image) where
  abbrev ready : ReadyImage
  ready = labelled_image image main

  wants-in : (limit : ℕ) (x : CodeState Name) → IsSoundCodeIn ready x → (o : Option ReadyCode) → code_at ready x ≡ o → IsTrue (is_acting (ready_if limit x o)) → (w : CellWant Name) × (option_and_then (λ c. code_wanted own_name c x) o ≡ Some w)
  wants-in limit x sound None at acting = not_true acting
  wants-in limit x sound (Some c) at acting =
      let m = module-of exceptions' image main good x.module_number c at in
      subst (λ c. IsLocallySoundCode c x → IsTrue (is_acting (code_ready c limit x)) → (w : CellWant Name) × (code_wanted own_name c x ≡ Some w)) m.2
      (λ sound acting. wants-there exceptions' image main good m.0 m.1 limit x sound acting) (sound-at ready x c sound at) acting

  -- by the code of the process
  pub suits-in : (x : CodeState Name) (c : ReadyCode) → code_at ready x ≡ Some c → c.scope.types ≡ image.types → (at : ℕ) (a : CellAction Name) → Suits (code_machine ready) x at a → SuitsCode c x at a
  suits-in x c here types at (take k message) suits =
      (suits.0, sym (ap (option_and_then (λ c. code_port_type c x at)) here) ∙ suits.1, subst (λ types. IsMessage types suits.0 message) (sym types) suits.2)
  suits-in x c here types at (hear k r) suits =
      let call = suits.0 in
      (call, sym (ap (option_and_then (λ c. code_open_call c x)) here) ∙ suits.1, suits.2, subst (λ types. IsReplyTo types call.call_type r) (sym types) suits.3)
  suits-in x c here types at (make_port made) suits = tt
  suits-in x c here types at (make_process code made) suits = tt
  suits-in x c here types at (put k message) suits = tt
  suits-in x c here types at (close count left) suits = tt
  suits-in x c here types at (answer k r) suits = tt

  abbrev open_call_in : CodeState Name → Option OpenCall
  open_call_in y = (code_machine ready).open_call y

  moves-in : (c : ReadyCode) (x y : CodeState Name) → code_at ready x ≡ Some c → code_at ready y ≡ Some c → (a : CellAction Name) → MovesCall c x y a → CallMoves (code_machine ready) x y a
  moves-in c x y here there a h = by a h
    where
      of : (z : CodeState Name) → code_at ready z ≡ Some c → (code_machine ready).open_call z ≡ code_open_call c z
      of z e = ap (option_and_then (λ c. code_open_call c z)) e

      by : (a : CellAction Name) → MovesCall c x y a → CallMoves (code_machine ready) x y a
      by (put (Some n) message) h = of x here ∙ h
      by (put None message) h = of y there ∙ h ∙ sym (of x here)
      by (hear k r) h = of y there ∙ h
      by (make_port made) h = of y there ∙ h ∙ sym (of x here)
      by (make_process code made) h = of y there ∙ h ∙ sym (of x here)
      by (take k message) h = of y there ∙ h ∙ sym (of x here)
      by (close count left) h = of y there ∙ h ∙ sym (of x here)
      by (answer k r) h = of y there ∙ h ∙ sym (of x here)

  answers-in : (x : CodeState Name) (want : CellWant Name) (at : ℕ) (a : CellAction Name) → IsSoundCodeIn ready x → (code_machine ready).wanted x ≡ Some want → Answers want a → Suits (code_machine ready) x at a
      → (y : CodeState Name) × ((code_machine ready).answered x at a ≡ Some y) × IsSoundCodeIn ready y × CallMoves (code_machine ready) x y a
  answers-in x want at a sound wanted h suits =
      let c = chain-some (λ c. code_wanted own_name c x) (code_at ready x) want wanted in
      let m = module-of exceptions' image main good x.module_number c.0 c.1 in
      let here : code_at ready x ≡ Some (labelled_code image m.0) = c.1 ∙ ap Some (sym m.2) in
      let wanted' = subst (λ c. code_wanted own_name c x ≡ Some want) (sym m.2) c.2 in
      let r = answers-there exceptions' image main good m.0 m.1 x want at a (sound-at ready x (labelled_code image m.0) sound here) wanted' h (suits-in x (labelled_code image m.0) here refl at a suits) in
      let there : code_at ready r.behind ≡ Some (labelled_code image m.0) = ap (slice_get ready.codes) r.same ∙ here in (
        r.behind,
        ap (option_and_then (λ c. code_answered own_name c x at a)) here ∙ r.is,
        sound-in exceptions' image main good r.behind (labelled_code image m.0) there r.sound,
        moves-in (labelled_code image m.0) x r.behind here there a r.moves,
      )

pub answers-sound : AnswersAreSound
answers-sound exceptions' image main good = record {
  wants = λ limit x sound acting. wants-in exceptions' image main good limit x sound (code_at (labelled_image image main) x) refl acting;
  answers = λ x want at a sound wanted h suits. answers-in exceptions' image main good x want at a sound wanted h suits;
}
