-- Whether what came in is what a process waits for.
use Rattle.std.proofs.Common.{◌≡◌, ◌↔◌, ℕ, List, [], ◌∷◌, map, length, Bool, true, false, ◌&&◌, Option, Some, None, option_map, option_and_then, refl, sym, ap, subst, ◌∙◌, true≢false}
use Rattle.std.proofs.lemmas.List.Elements.{recursion_from_All}
use Rattle.std.specs.List.{All, AllByRecursion}
use Rattle.std.specs.Prelude.{slice_get, find, IsTrue, ⊤}
use Rattle.herm_model.specs.Lists.{all_pass}
use Rattle.herm_model.specs.Paths.{Path}
use Rattle.herm_model.specs.Types.{Raised, TypeTable, type_at}
use Rattle.herm_model.specs.Values.{Value}
use Rattle.herm_model.specs.WellMade.{is_well_made}
use Rattle.herm_model.proofs.Lists.{both-and}
use Rattle.herm_model.proofs.Options.{none-not_some, some-injective, chain-some, map-some}
use Rattle.herm_journal.specs.Actions.{close, hear}
use Rattle.herm_journal.specs.Messages.{CellAction, CellReply, IsMessage, IsReplyTo}
use Rattle.herm_forms.specs.Frames.{Frame}
use Rattle.herm_forms.specs.Incoming.{leads_from}
use Rattle.herm_forms.specs.OpenCalls.{call_type}
use Rattle.herm_system.specs.Machines.{OpenCall}
use Rattle.herm_system.specs.Suiting.{Suits}
use Rattle.herm_instructions.specs.Images.{Image, instruction_at}
use Rattle.herm_instructions.specs.Instructions.{Argument, Instruction, Send, Call, Return, ReturnBy}
use Rattle.herm_code_machine.specs.CodeInstance.{code_at}
use Rattle.herm_code_machine.specs.CodeSeen.{action_at, code_open_call, code_port_type, ports_of, type_of_call}
use Rattle.herm_code_machine.specs.CodeStates.{CodeState, Position, at_index}
use Rattle.herm_code_machine.specs.CodeSteps.{CodeNext, an_action, code_next, met_at}
use Rattle.herm_code_machine.specs.Pieces.{Met, Piece, action_of, piece_at}
use Rattle.herm_code_machine.specs.ReadyCode.{ReadyCode, labelled_image}
use Rattle.herm_code_machine.proofs.sound.Processes.{module-of}
use Rattle.herm_frames.specs.HeldFrames.{HeldFrame}
use Rattle.herm_values.specs.View.{value_view}
use Rattle.herm_letters.specs.Letters.{IsParcel}
use Rattle.herm_letters.specs.LettersInOrder.{QueueState}
use Rattle.herm_letters.specs.View.{reply_view}
use Rattle.herm_letters.specs.declared.parcel.Parcel.{Parcel}
use Rattle.herm_letters.specs.declared.reply.Reply.{Reply}
use Rattle.herm_base.specs.declared.numbers.PortNo.{PortNo}
use Rattle.herm_suits.proofs.Made.{whole-made}
use Rattle.herm_steps.specs.HeldStates.{HeldState}
use Rattle.herm_steps.specs.StandingAt.{StandsAt}
use Rattle.herm_answers.specs.Incomings.{message_taken}
use Rattle.herm_answers.specs.Orders.{HoldsOrder, IsLeft}
use Rattle.herm_answers.proofs.Comes.{ComesNext, by_act, comes_next}
use Rattle.herm_machine.specs.Awaited.{IsAwaited, IsHeard, IsHeardAt, IsHeardBy}
use Rattle.herm_machine.specs.Gots.{IsWholeGot, TellsGot}
use Rattle.herm_machine.specs.Machines.{IsAt, IsSoundState, MachineState, code_of, nameless}
use Rattle.herm_machine.specs.declared.order.Got.{Got}
use Rattle.herm_machine.specs.declared.order.Got.TheVariants as gots
use Rattle.herm_machine.proofs.SoundStates.{code-here}
use Rattle.herm_machine.proofs.Standing.{sound-at_it}

-- a reply to a call, by the type of its callmessage
pub heard-by : (c : ReadyCode) (i : Instruction) (o : Path) (arguments : List Argument) (keeps : List Raised) (t : Option ℕ) (r : CellReply ⊤) (b : Bool) → i ≡ Call o arguments keeps → t ≡ call_type c.scope (record { port = o; arguments = [] }) → IsTrue b ↔ IsReplyTo c.scope.types t r → IsTrue b ↔ IsHeardBy c i r
heard-by c i o arguments keeps t r b is type h =
    let of : type_of_call c i ≡ Some t = ap (type_of_call c) is ∙ ap (λ t. Some t) (sym type) in
    ((λ k. (t, of, h.0 k)), (λ x. h.1 (subst (λ t. IsReplyTo c.scope.types t r) (some-injective (sym x.1 ∙ of)) x.2)))

abbrev met_of : ℕ → Option Instruction → Option Met
met_of i o = elim o [ None ↦ None | Some instruction ↦ Some (record { index = i; instruction = instruction }) ]

pub heard-at : (c : ReadyCode) (p : Position) (i : ℕ) (instruction : Instruction) (r : CellReply ⊤) (b : Bool) → p ≡ at_index i → Some instruction ≡ instruction_at c.code i → IsTrue b ↔ IsHeardBy c instruction r → IsTrue b ↔ IsHeardAt c p r
heard-at c p i instruction r b is there h =
    let m : Met = record { index = i; instruction = instruction } in
    let met : met_at c p ≡ Some m = ap (met_at c) is ∙ ap (met_of i) (sym there) in
    ((λ k. (m, met, h.0 k)), (λ x. h.1 (subst (λ (m : Met). IsHeardBy c m.instruction r) (some-injective (sym x.1 ∙ met)) x.2)))

-- the call that is open at an instruction
abbrev call_of : ReadyCode → ℕ → Met → Option OpenCall
call_of c k m = option_map (λ t. record { number = k; call_type = t }) (type_of_call c m.instruction)

pub heard : (c : ReadyCode) (s : CodeState ⊤) (p : Position) (call : ℕ) (r : CellReply ⊤) (b : Bool) → s.frame.call ≡ Some call → s.position ≡ p → IsTrue b ↔ IsHeardAt c p r → IsTrue b ↔ IsHeard c s call r
heard c s p call r b opened at h = ((λ k. forth (h.0 k)), (λ x. h.1 (back x)))
  where
    forth : IsHeardAt c p r → IsHeard c s call r
    forth x =
        let m = x.0 in
        let t = (x.2).0 in
        let is : code_open_call c s ≡ Some (record { number = call; call_type = t }) =
        ap (option_and_then (λ k. option_and_then (call_of c k) (met_at c s.position))) opened ∙ ap (option_and_then (call_of c call)) (ap (met_at c) at ∙ x.1) ∙ ap (option_map (λ t. record { number = call; call_type = t })) (x.2).1 in
        (record { number = call; call_type = t }, is, refl, (x.2).2)

    back : IsHeard c s call r → IsHeardAt c p r
    back x =
        let k = chain-some (λ k. option_and_then (call_of c k) (met_at c s.position)) s.frame.call x.0 x.1 in
        let m = chain-some (call_of c k.0) (met_at c s.position) x.0 k.2 in
        let t = map-some (λ t. record { number = k.0; call_type = t }) (type_of_call c (m.0).instruction) x.0 m.2 in
        let type : t.0 ≡ (x.0).call_type = ap (λ (k : OpenCall). k.call_type) t.2 in
        (m.0, ap (met_at c) (sym at) ∙ m.1, (t.0, t.1, subst (λ t. IsReplyTo c.scope.types t r) (sym type) x.3))

-- with an order out no message and no reply suits
no-ports : (i : Instruction) (c : ReadyCode) (before : List Value) (b : Frame ⊤) (stack : List Value) (f : HeldFrame) → IsLeft c i before b stack f → ports_of i ≡ []
no-ports (Send x o trim) c before b stack f h = refl
no-ports (Call o arguments keeps) c before b stack f h = refl
no-ports (Return m) c before b stack f h = refl
no-ports (ReturnBy m e kept) c before b stack f h = refl
no-ports i c before b stack f h = absurd h

record AtAction (c : ReadyCode) (s : CodeState ⊤) (met : Met) : Type 0 where
  closed : s.frame.call ≡ None
  action : action_at c s.position ≡ Some met

at-action : (c : ReadyCode) (s : CodeState ⊤) (piece : Piece) (met : Met) → ComesNext c s (an_action piece met) → AtAction c s met
at-action c s piece met (by_act p m idle closed at is) = record { closed = closed; action = ap (option_and_then (action_of c)) at ∙ is }

pub gave-no_message : {A : Type 0} (c : ReadyCode) (p : HeldState) (s : CodeState ⊤) (port : ℕ) (m : Value) → HoldsOrder c p s → IsAwaited c s port m → A
gave-no_message c p s port m h x =
    let a = at-action c s h.piece h.met (subst (ComesNext c s) h.next (comes_next c s)) in
    let none : code_port_type c s port ≡ None =
    ap (option_and_then (λ (m : Met). option_and_then (type_at c.scope.types c.scope.variables) (find (leads_from port s.frame) (ports_of m.instruction)))) a.action
    ∙ ap (λ ps. option_and_then (type_at c.scope.types c.scope.variables) (find (leads_from port s.frame) ps)) (no-ports (h.met).instruction c h.before _ _ p.frame h.left) in
    none-not_some (sym none ∙ x.1)

pub gave-no_reply : {A : Type 0} (c : ReadyCode) (p : HeldState) (s : CodeState ⊤) (call : ℕ) (r : CellReply ⊤) → HoldsOrder c p s → IsHeard c s call r → A
gave-no_reply c p s call r h x =
    let a = at-action c s h.piece h.met (subst (ComesNext c s) h.next (comes_next c s)) in
    let none : code_open_call c s ≡ None = ap (option_and_then (λ k. option_and_then (call_of c k) (met_at c s.position))) a.closed in
    none-not_some (sym none ∙ x.1)

-- messages that are left are well made
parcels-made : (ps : List Parcel) → AllByRecursion IsParcel ps → IsTrue (all_pass is_well_made (map (λ p. value_view p.value) ps))
parcels-made [] h = refl
parcels-made (p ∷ ps) h = both-and (is_well_made (value_view p.value)) (all_pass is_well_made (map (λ p. value_view p.value) ps)) (whole-made p.value (h.0).whole) (parcels-made ps h.1)

module _ (image : Image) (main : ℕ) where
  types-here : (c : ReadyCode) (s : CodeState ⊤) → IsSoundState image main c s → c.scope.types ≡ image.types
  types-here c s h = let m = module-of h.exceptions image main h.good (h.named).module_number c h.code in ap (λ (c : ReadyCode). c.scope.types) (sym m.2)

  awaits : (c : ReadyCode) (s : CodeState ⊤) (at : ℕ) (parcel : Parcel) → IsSoundState image main c s → Suits (nameless image main) s at (message_taken parcel) → IsAwaited c s at (value_view parcel.value)
  awaits c s at parcel h x =
      (x.0, sym (ap (option_and_then (λ c. code_port_type c s at)) (code-here image main c s h)) ∙ x.1, subst (λ types. IsMessage types x.0 (value_view parcel.value)) (sym (types-here c s h)) x.2)

  suits-awaited : (c : ReadyCode) (s : CodeState ⊤) (at : ℕ) (parcel : Parcel) → IsSoundState image main c s → IsAwaited c s at (value_view parcel.value) → Suits (nameless image main) s at (message_taken parcel)
  suits-awaited c s at parcel h x =
      (x.0, ap (option_and_then (λ c. code_port_type c s at)) (code-here image main c s h) ∙ x.1, subst (λ types. IsMessage types x.0 (value_view parcel.value)) (types-here c s h) x.2)

  hears : (c : ReadyCode) (s : CodeState ⊤) (at call : ℕ) (r : CellReply ⊤) → IsSoundState image main c s → Suits (nameless image main) s at (hear call r) → IsHeard c s call r
  hears c s at call r h x =
      (x.0, sym (ap (option_and_then (λ c. code_open_call c s)) (code-here image main c s h)) ∙ x.1, x.2, subst (λ types. IsReplyTo types (x.0).call_type r) (sym (types-here c s h)) x.3)

  suits-heard : (c : ReadyCode) (s : CodeState ⊤) (at call : ℕ) (r : CellReply ⊤) → IsSoundState image main c s → IsHeard c s call r → Suits (nameless image main) s at (hear call r)
  suits-heard c s at call r h x =
      (x.0, ap (option_and_then (λ c. code_open_call c s)) (code-here image main c s h) ∙ x.1, x.2, subst (λ types. IsReplyTo types (x.0).call_type r) (types-here c s h) x.3)

  abbrev pub Exactly : (b : Bool) → CodeState ⊤ → (at : ℕ) → CellAction ⊤ → Type 0
  Exactly b s at a = (b ≡ true → Suits (nameless image main) s at a) × (Suits (nameless image main) s at a → b ≡ true)

  pub message-out : (m : MachineState) (s : CodeState ⊤) (at : ℕ) (a : CellAction ⊤) (got : Got) (port : PortNo) (parcel : Parcel) → got ≡ gots.Message port parcel → IsAt image main m s → HoldsOrder (code_of m) m.held s → TellsGot got at a → Exactly false s at a
  message-out m s at a got port parcel is here h tells =
      let told : TellsGot (gots.Message port parcel) at a = subst (λ g. TellsGot g at a) is tells in
      ((λ e. absurd (true≢false (sym e))), (λ x. gave-no_message (code_of m) m.held s at (value_view parcel.value) h (awaits (code_of m) s at parcel (sound-at_it image main m s here) (subst (Suits (nameless image main) s at) told.1 x))))

  pub message-suits : (m : MachineState) (s : CodeState ⊤) (at : ℕ) (a : CellAction ⊤) (got : Got) (port : PortNo) (parcel : Parcel) (b : Bool) → got ≡ gots.Message port parcel → IsAt image main m s → IsTrue b ↔ IsAwaited (code_of m) s port.number (value_view parcel.value) → TellsGot got at a → Exactly b s at a
  message-suits m s at a got port parcel b is here h tells =
      let told : TellsGot (gots.Message port parcel) at a = subst (λ g. TellsGot g at a) is tells in
      let sound = sound-at_it image main m s here in
      let exact : IsTrue b ↔ IsAwaited (code_of m) s at (value_view parcel.value) = subst (λ n. IsTrue b ↔ IsAwaited (code_of m) s n (value_view parcel.value)) (sym told.0) h in
      ((λ e. subst (Suits (nameless image main) s at) (sym told.1) (suits-awaited (code_of m) s at parcel sound (exact.0 e))), (λ x. exact.1 (awaits (code_of m) s at parcel sound (subst (Suits (nameless image main) s at) told.1 x))))

  pub reply-out : (m : MachineState) (s : CodeState ⊤) (at : ℕ) (a : CellAction ⊤) (got : Got) (call : ℕ) (reply : Reply) (trace : _) → got ≡ gots.Heard call reply trace → IsAt image main m s → HoldsOrder (code_of m) m.held s → TellsGot got at a → Exactly false s at a
  reply-out m s at a got call reply trace is here h tells =
      let told : TellsGot (gots.Heard call reply trace) at a = subst (λ g. TellsGot g at a) is tells in
      ((λ e. absurd (true≢false (sym e))), (λ x. gave-no_reply (code_of m) m.held s call (reply_view reply) h (hears (code_of m) s at call (reply_view reply) (sound-at_it image main m s here) (subst (Suits (nameless image main) s at) told x))))

  pub reply-suits : (m : MachineState) (s : CodeState ⊤) (at : ℕ) (a : CellAction ⊤) (got : Got) (call : ℕ) (reply : Reply) (trace : _) (b : Bool) → got ≡ gots.Heard call reply trace → IsAt image main m s → IsTrue b ↔ IsHeard (code_of m) s call (reply_view reply) → TellsGot got at a → Exactly b s at a
  reply-suits m s at a got call reply trace b is here h tells =
      let told : TellsGot (gots.Heard call reply trace) at a = subst (λ g. TellsGot g at a) is tells in
      let sound = sound-at_it image main m s here in
      ((λ e. subst (Suits (nameless image main) s at) (sym told) (suits-heard (code_of m) s at call (reply_view reply) sound (h.0 e))), (λ x. h.1 (hears (code_of m) s at call (reply_view reply) sound (subst (Suits (nameless image main) s at) told x))))

  pub left-suits : (s : CodeState ⊤) (at : ℕ) (a : CellAction ⊤) (got : Got) (left : QueueState) → got ≡ gots.Left left → IsWholeGot got → TellsGot got at a → Exactly true s at a
  left-suits s at a got left is whole tells =
      let told : TellsGot (gots.Left left) at a = subst (λ g. TellsGot g at a) is tells in
      let all : All IsParcel left.parcels = subst IsWholeGot is whole in
      ((λ e. subst (Suits (nameless image main) s at) (sym told) (parcels-made left.parcels (recursion_from_All IsParcel left.parcels all))), (λ x. refl))
