-- What the answers to a put leave whose message is out.
use Rattle.std.proofs.Common.{◌≡◌, ◌<◌, ℕ, List, length, map, Bool, true, false, Option, Some, None, option_map, option_and_then, refl, sym, ap, ap₂, subst, ◌∙◌}
use Rattle.std.specs.Prelude.{flat_map, ⊤}
use Rattle.herm_model.specs.Outcomes.{ok, raised, disconnected}
use Rattle.herm_model.specs.Outcomes as model
use Rattle.herm_model.specs.Paths.{Path}
use Rattle.herm_model.specs.Types.{Raised}
use Rattle.herm_model.specs.Values.{Value}
use Rattle.herm_model.proofs.Options.{some-injective}
use Rattle.herm_journal.specs.Actions.{put}
use Rattle.herm_journal.specs.Messages.{CellAction, CellWant}
use Rattle.herm_journal.specs.Renaming.{forget_name}
use Rattle.herm_forms.specs.Callmessages as callmessages
use Rattle.herm_forms.specs.Excess.{excess_over_full}
use Rattle.herm_forms.specs.Frames.{Frame, Completion, goes, stays, stuck, cleared, counted_action, drop, putting}
use Rattle.herm_forms.specs.ReturnForms.{caller_of}
use Rattle.herm_instructions.specs.Instructions.{Argument, Instruction, Send, Call, Return, ReturnBy}
use Rattle.herm_code_machine.specs.ReadyCode.{ReadyCode}
use Rattle.herm_code_machine.specs.CodeActions.{code_settles, code_wants, composed_of, inouts, mode_of, outs}
use Rattle.herm_code_machine.specs.CodeStates.{CodeState, at_index, to_next_piece}
use Rattle.herm_code_machine.specs.CodeSteps.{an_action, code_answered, code_next, code_wanted, counted_if, settle_next, settled, settled_action}
use Rattle.herm_code_machine.specs.Pieces.{Piece, Met, stack_before_action}
use Rattle.herm_code_machine.specs.Stacks.{Effect, Popped, leaving, parts_from, with_popped}
use Rattle.herm_frames.specs.Completed.{Completes}
use Rattle.herm_frames.specs.HeldFrames.{HeldFrame}
use Rattle.herm_frames.specs.Standing.{Stands}
use Rattle.herm_pieces.specs.View.{outcome_view}
use Rattle.herm_pieces.specs.declared.outcomes.Outcome.{Outcome}
use Rattle.herm_pieces.specs.declared.outcomes.Outcome.TheVariants as outcomes
use Rattle.herm_stack.specs.Answers.{on_stack}
use Rattle.herm_steps.specs.Behind.{IsBehind}
use Rattle.herm_steps.specs.HeldStates.{HeldState}
use Rattle.herm_steps.specs.StandingAt.{StandsAt}
use Rattle.herm_answers.specs.Orders.{HoldsOrder, IsLeft, IsPutOf, IsWanted}
use Rattle.herm_answers.specs.Puttings.{is_putting}
use Rattle.herm_answers.specs.Settled.{Settles}
use Rattle.herm_answers.proofs.Behind.{action_behind, behind_same, settled_stuck, settles_by}
use Rattle.herm_answers.proofs.Called.{composed_from, put_is}
use Rattle.herm_answers.proofs.Comes.{action_is}
use Rattle.herm_answers.proofs.Out.{action_wants}
use Rattle.herm_answers.proofs.Sent.{placed_leaves, back_leaves}

-- an order that is out, of this action
pub record OrderAt (c : ReadyCode) (p : HeldState) (s : CodeState ⊤) (m : Met) : Type 0 where
  pub piece : Piece
  pub before : List Value
  pub next : code_next c s ≡ an_action piece m
  pub there : stack_before_action c piece s.frame.variables s.stack ≡ Some before
  pub left : IsLeft c m.instruction before (counted_action (counted_if piece.has_step s.frame)) (on_stack p.stack) p.frame

pub order_at : (c : ReadyCode) (p : HeldState) (s : CodeState ⊤) (o : HoldsOrder c p s) (m : Met) → o.met ≡ m → OrderAt c p s m
order_at c p s o m e = subst (OrderAt c p s) e (record { piece = o.piece; before = o.before; next = o.next; there = o.there; left = o.left })

pub order_found : (c : ReadyCode) (p : HeldState) (s : CodeState ⊤) (o : HoldsOrder c p s) (r : Option Met) (m : Met) → r ≡ Some o.met → r ≡ Some m → o.met ≡ m
order_found c p s o r m is at = some-injective (sym is ∙ at)

-- what is wanted is a put
pub put_in : (c : ReadyCode) (m : Value) (s : CodeState ⊤) (h : IsWanted c m s) → IsPutOf m h.0
put_in c m s h = h.2

-- a message that was placed
pub send_placed : (c : ReadyCode) (x o : Path) (trim : List Path) (before stack : List Value) (b : Frame ⊤) (f : HeldFrame) (at k : ℕ) (m : Value) → IsLeft c (Send x o trim) before b stack f
    → Settles (Some outcomes.Ok) f stack (code_settles forget_name c (Send x o trim) before at (put (Some k) m) b)
send_placed c x o trim before stack b f at k m h = (cleared x (drop trim b), ap₂ leaving h.1 (placed_leaves trim x k m h.0 b h.2), h.3)

-- a message that came back
pub send_back : (c : ReadyCode) (x o : Path) (trim : List Path) (before stack : List Value) (b : Frame ⊤) (f g : HeldFrame) (at : ℕ) (m : Value) (r : Option Outcome) (k : Option model.Outcome) → IsLeft c (Send x o trim) before b stack f
    → option_map outcome_view r ≡ k → ((s : Frame ⊤) → Stands f s → Completes k g (putting x (raised disconnected) m s)) → Settles r g stack (code_settles forget_name c (Send x o trim) before at (put None m) b)
send_back c x o trim before stack b f g at m r k h is back =
    subst (Settles r g stack) (sym (ap₂ leaving h.1 (back_leaves trim x m h.0 b h.2))) (settles_by r k g stack (putting x (raised disconnected) m (cleared x (drop trim b))) is (back (cleared x (drop trim b)) h.3))

-- what puts nothing has no answer to a put
pub other_stuck : (c : ReadyCode) (i : Instruction) (before stack : List Value) (b : Frame ⊤) (f : HeldFrame) (at : ℕ) (k : Option ℕ) (m : Value) → is_putting i ≡ false → IsLeft c i before b stack f
    → (code_settles forget_name c i before at (put k m) b).completion ≡ stuck
other_stuck c (Send x o trim) before stack b f at k m e h = absurd (let k : ⊥ = cc in k)
other_stuck c (Call o arguments keeps) before stack b f at k m e h = absurd (let k : ⊥ = cc in k)
other_stuck c (Return m') before stack b f at k m e h = refl
other_stuck c (ReturnBy m' x kept) before stack b f at k m e h = refl
other_stuck c i before stack b f at k m e h = absurd h

-- a call whose message was placed waits
pub call_placed : (c : ReadyCode) (o : Path) (arguments : List Argument) (keeps : List Raised) (before stack : List Value) (b : Frame ⊤) (f : HeldFrame) (at n : ℕ) (m : Value) → (h : IsLeft c (Call o arguments keeps) before b stack f)
    → code_settles forget_name c (Call o arguments keeps) before at (put (Some n) m) b ≡ leaving stack (stays (record (h.1.frame) { call = Some h.1.call }))
call_placed c o arguments keeps before stack b f at n m h =
    ap (with_popped (λ (p : Popped). leaving p.rest (callmessages.call (composed_of forget_name c arguments p.values b) (outs arguments) (put (Some n) m)))) h.2 ∙
    ap (λ k. leaving h.0.rest (callmessages.call k (outs arguments) (put (Some n) m))) h.4 ∙ ap (λ l. leaving l (stays (record (h.1.frame) { call = Some h.1.call }))) h.3

pub waits_behind : (r : Bool) (p q : HeldState) (c : ReadyCode) (s : CodeState ⊤) (i : ℕ) (instruction : Instruction) (e : Effect ⊤) (b : Frame ⊤) → e ≡ leaving (on_stack p.stack) (stays b) → p.position ≡ at_index i → Stands p.frame b
    → ((t : CodeState ⊤) → StandsAt p t → IsBehind r q t (to_next_piece forget_name c t)) → IsBehind r q s (settled forget_name c s i instruction e.stack e.completion)
waits_behind r p q c s i instruction e b is at h runs =
    let t : CodeState ⊤ = record { module_number = s.module_number; position = at_index i; stack = on_stack p.stack; frame = b } in
    behind_same r q s t (to_next_piece forget_name c t) (settled forget_name c s i instruction e.stack e.completion) (ap (λ (e : Effect ⊤). settled forget_name c s i instruction e.stack e.completion) is) refl
    (runs t (record { position = sym at; stack = refl; frame = h }))

-- The order is that of this instruction, and it is found within the code.
pub order_within : (c : ReadyCode) (p : HeldState) (s : CodeState ⊤) (m : Met) (o : OrderAt c p s m) (n : ℕ) → length c.code.code ≡ n → m.index < n
order_within c p s m o n long = subst (λ n. m.index < n) long (action_is c s o.piece m o.next).within

-- behind a message that was placed
pub send_placed_behind : (c : ReadyCode) (s : CodeState ⊤) (p q : HeldState) (m : Met) (o : OrderAt c p s m) (x port : Path) (trim : List Path) (r : Bool) (at k n : ℕ) (v : Value) → m.instruction ≡ Send x port trim → length c.code.code ≡ n
    → ((e : Effect ⊤) → Settles (Some outcomes.Ok) p.frame (on_stack p.stack) e → m.index < n → IsBehind r q s (settled forget_name c s m.index m.instruction e.stack e.completion)) → IsBehind r q s (code_answered forget_name c s at (put (Some k) v))
send_placed_behind c s p q m o x port trim r at k n v is long runs =
    let a : CellAction ⊤ = put (Some k) v in
    let b = counted_action (counted_if o.piece.has_step s.frame) in
    let left = subst (λ i. IsLeft c i o.before b (on_stack p.stack) p.frame) is o.left in
    let settles = subst (λ i. Settles (Some outcomes.Ok) p.frame (on_stack p.stack) (code_settles forget_name c i o.before at a b)) (sym is) (send_placed c x port trim o.before (on_stack p.stack) b p.frame at k v left) in
    action_behind c s o.piece m at a o.before r q o.next o.there (runs (code_settles forget_name c m.instruction o.before at a b) settles (order_within c p s m o n long))

-- behind a message that came back
pub send_back_behind : (c : ReadyCode) (s : CodeState ⊤) (p q : HeldState) (m : Met) (o : OrderAt c p s m) (x port : Path) (trim : List Path) (g : HeldFrame) (r : Bool) (at n : ℕ) (done : Option Outcome) (k : Option model.Outcome) (v : Value) → m.instruction ≡ Send x port trim → length c.code.code ≡ n
    → option_map outcome_view done ≡ k → ((t : Frame ⊤) → Stands p.frame t → Completes k g (putting x (raised disconnected) v t))
    → ((e : Effect ⊤) → Settles done g (on_stack p.stack) e → m.index < n → IsBehind r q s (settled forget_name c s m.index m.instruction e.stack e.completion)) → IsBehind r q s (code_answered forget_name c s at (put None v))
send_back_behind c s p q m o x port trim g r at n done k v is long view back runs =
    let a : CellAction ⊤ = put None v in
    let b = counted_action (counted_if o.piece.has_step s.frame) in
    let left = subst (λ i. IsLeft c i o.before b (on_stack p.stack) p.frame) is o.left in
    let settles = subst (λ i. Settles done g (on_stack p.stack) (code_settles forget_name c i o.before at a b)) (sym is) (send_back c x port trim o.before (on_stack p.stack) b p.frame g at v done k left view back) in
    action_behind c s o.piece m at a o.before r q o.next o.there (runs (code_settles forget_name c m.instruction o.before at a b) settles (order_within c p s m o n long))

-- behind an action that puts nothing
pub order_stuck : (c : ReadyCode) (s : CodeState ⊤) (p : HeldState) (m : Met) (o : OrderAt c p s m) (at : ℕ) (k : Option ℕ) (v : Value) → is_putting m.instruction ≡ false → code_answered forget_name c s at (put k v) ≡ None
order_stuck c s p m o at k v is =
    let a : CellAction ⊤ = put k v in
    let b = counted_action (counted_if o.piece.has_step s.frame) in
    let e : Effect ⊤ = code_settles forget_name c m.instruction o.before at a b in
    ap (settle_next forget_name c s at a) o.next ∙ ap (option_and_then (settled_action forget_name c s o.piece m at a)) o.there
    ∙ settled_stuck c s m.index m.instruction e.stack e.completion (other_stuck c m.instruction o.before (on_stack p.stack) b p.frame at k v is o.left)

-- behind a call whose message was placed
pub call_placed_behind : (c : ReadyCode) (s : CodeState ⊤) (p q : HeldState) (m : Met) (o : OrderAt c p s m) (port : Path) (arguments : List Argument) (keeps : List Raised) (r : Bool) (at k : ℕ) (v : Value) → m.instruction ≡ Call port arguments keeps
    → ((e : Effect ⊤) (i : Instruction) (d : Frame ⊤) → e ≡ leaving (on_stack p.stack) (stays d) → Stands p.frame d → IsBehind r q s (settled forget_name c s m.index i e.stack e.completion)) → IsBehind r q s (code_answered forget_name c s at (put (Some k) v))
call_placed_behind c s p q m o port arguments keeps r at k v is runs =
    let a : CellAction ⊤ = put (Some k) v in
    let b = counted_action (counted_if o.piece.has_step s.frame) in
    let left : IsLeft c (Call port arguments keeps) o.before b (on_stack p.stack) p.frame = subst (λ i. IsLeft c i o.before b (on_stack p.stack) p.frame) is o.left in
    let settles = ap (λ i. code_settles forget_name c i o.before at a b) is ∙ call_placed c port arguments keeps o.before (on_stack p.stack) b p.frame at k v left in
    action_behind c s o.piece m at a o.before r q o.next o.there (runs (code_settles forget_name c m.instruction o.before at a b) m.instruction (record (left.1.frame) { call = Some left.1.call }) settles left.5)

counted_call : (t : Bool) (b : Frame ⊤) → (counted_action (counted_if t b)).call ≡ b.call
counted_call true b = refl
counted_call false b = refl

-- a call whose message came back
call_back : (c : ReadyCode) (o : Path) (arguments : List Argument) (keeps : List Raised) (before stack : List Value) (b : Frame ⊤) (f g : HeldFrame) (at : ℕ) (v : Value) (r : Option Outcome) (k : Option model.Outcome) (h : IsLeft c (Call o arguments keeps) before b stack f)
    → option_map outcome_view r ≡ k → Completes k g (callmessages.call (Some h.1) (outs arguments) (put None v)) → Settles r g stack (code_settles forget_name c (Call o arguments keeps) before at (put None v) b)
call_back c o arguments keeps before stack b f g at v r k h is done =
    subst (Settles r g stack)
    (sym (ap (with_popped (λ (p : Popped). leaving p.rest (callmessages.call (composed_of forget_name c arguments p.values b) (outs arguments) (put None v)))) h.2 ∙
    ap (λ k. leaving h.0.rest (callmessages.call k (outs arguments) (put None v))) h.4 ∙ ap (λ l. leaving l (callmessages.call (Some h.1) (outs arguments) (put None v))) h.3))
    (settles_by r k g stack (callmessages.call (Some h.1) (outs arguments) (put None v)) is done)

pub call_back_behind : (c : ReadyCode) (s : CodeState ⊤) (p q : HeldState) (m : Met) (o : OrderAt c p s m) (port : Path) (arguments : List Argument) (keeps : List Raised) (g : HeldFrame) (r : Bool) (at n : ℕ) (done : Option Outcome) (k : Option model.Outcome) (v : Value) (w : CellWant ⊤)
    → m.instruction ≡ Call port arguments keeps → length c.code.code ≡ n → code_wanted forget_name c s ≡ Some w → IsPutOf v w → option_map outcome_view done ≡ k
    → ((d : Frame ⊤) (i : ℕ) (who : ℕ × ℕ) → Stands p.frame (record d { call = Some i }) → d.call ≡ None → caller_of v ≡ Some who → Completes k g (callmessages.call (Some (record { message = v; call = i; frame = d })) (outs arguments) (put None v)))
    → ((e : Effect ⊤) → Settles done g (on_stack p.stack) e → m.index < n → IsBehind r q s (settled forget_name c s m.index m.instruction e.stack e.completion)) → IsBehind r q s (code_answered forget_name c s at (put None v))
call_back_behind c s p q m o port arguments keeps g r at n done k v w is long wanted carried view back runs =
    let a : CellAction ⊤ = put None v in
    let b = counted_action (counted_if o.piece.has_step s.frame) in
    let left : IsLeft c (Call port arguments keeps) o.before b (on_stack p.stack) p.frame = subst (λ i. IsLeft c i o.before b (on_stack p.stack) p.frame) is o.left in
    let wants : code_wants forget_name c (Call port arguments keeps) o.before s.frame ≡ Some w =
    sym (ap (option_and_then (λ st. code_wants forget_name c (Call port arguments keeps) st s.frame)) o.there) ∙ action_wants c s o.piece m s.stack (Call port arguments keeps) w refl is o.next wanted in
    let same = put_is c port arguments keeps o.before o.piece.has_step s.frame left.0 left.1 w v left.2 left.4 wants carried in
    let made = composed_from (map mode_of arguments) (parts_from left.0.values) (flat_map (λ p. excess_over_full c.scope p b) (inouts arguments)) (inouts arguments) b left.1 left.4 in
    let closed : left.1.frame.call ≡ None = made.call ∙ counted_call o.piece.has_step s.frame ∙ (action_is c s o.piece m o.next).closed in
    let completes = back left.1.frame left.1.call made.who left.5 closed (ap caller_of (sym same) ∙ made.caller) in
    let settles = subst (λ i. Settles done g (on_stack p.stack) (code_settles forget_name c i o.before at a b)) (sym is) (call_back c port arguments keeps o.before (on_stack p.stack) b p.frame g at v done k left view completes) in
    action_behind c s o.piece m at a o.before r q o.next o.there (runs (code_settles forget_name c m.instruction o.before at a b) settles (order_within c p s m o n long))
