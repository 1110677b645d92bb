-- The message that was taken out for a `Send` or a call is what is wanted to be put, and its order is out then.
use Rattle.std.proofs.Common.{◌≡◌, ℕ, List, Bool, Option, Some, None, option_map, sym, ap, subst, ◌∙◌}
use Rattle.std.specs.Prelude.{IfNone, IfSome, option_and_then, ⊤}
use Rattle.herm_model.specs.Paths.{Path}
use Rattle.herm_model.specs.Types.{Raised}
use Rattle.herm_model.specs.Values.{Value}
use Rattle.herm_model.proofs.Options.{none-not_some, some-injective, chain-some, map-some}
use Rattle.herm_journal.specs.Actions.{to_put}
use Rattle.herm_journal.specs.Messages.{CellWant}
use Rattle.herm_journal.specs.Renaming.{forget_name}
use Rattle.herm_forms.specs.Callmessages.{Composed}
use Rattle.herm_forms.specs.Exchanges.{outport_at}
use Rattle.herm_forms.specs.Frames.{Frame, counted_action}
use Rattle.herm_instructions.specs.Instructions.{Argument, Call, Send}
use Rattle.herm_instructions.specs.Operands.{count_inputs}
use Rattle.herm_code_machine.specs.CodeActions.{called, code_wants, composed_of}
use Rattle.herm_code_machine.specs.CodeStates.{CodeState}
use Rattle.herm_code_machine.specs.CodeSteps.{code_next, code_wanted, counted_if}
use Rattle.herm_code_machine.specs.Pieces.{Met, Piece, stack_before_action}
use Rattle.herm_code_machine.specs.ReadyCode.{ReadyCode}
use Rattle.herm_code_machine.specs.Stacks.{Popped, pop}
use Rattle.herm_exchanges.specs.Composed.{IsComposed}
use Rattle.herm_frames.specs.HeldFrames.{HeldFrame}
use Rattle.herm_frames.specs.Standing.{Stands}
use Rattle.herm_stack.specs.Answers.{on_stack}
use Rattle.herm_values.specs.View.{value_view}
use Rattle.herm_values.specs.declared.value.Value as held
use Rattle.herm_steps.specs.Coming.{coming, coming_action}
use Rattle.herm_steps.specs.HeldStates.{HeldState}
use Rattle.herm_steps.specs.StandingAt.{StandsAt}
use Rattle.herm_answers.specs.Orders.{HoldsOrder, IsLeft, IsPutOf, IsWanted}
use Rattle.herm_answers.specs.Takings.{IsCallOut}
use Rattle.herm_answers.proofs.Called.{message_in, same_messages}
use Rattle.herm_answers.proofs.Comes.{action_comes}
use Rattle.herm_answers.proofs.Out.{action_wants}

-- what is said of a message that was taken out, or of none
pub record TakesMessage (c : ReadyCode) (piece : Piece) (met : Met) (old q : HeldState) (r : Option held.Value) : Type 0 where
  pub wanted : IfSome r (λ v. (s : CodeState ⊤) (w : CellWant ⊤) → StandsAt old s → coming_action piece met ≡ coming (code_next c s) → code_wanted forget_name c s ≡ Some w → IsPutOf (value_view v) w)
  pub out : IfSome r (λ v. (s : CodeState ⊤) (w : CellWant ⊤) → StandsAt old s → coming_action piece met ≡ coming (code_next c s) → code_wanted forget_name c s ≡ Some w → HoldsOrder c q s)
  pub absent : IfNone r ((s : CodeState ⊤) (m : Value) → StandsAt old s → coming_action piece met ≡ coming (code_next c s) → IsWanted c m s → ⊥)

-- where nothing was taken out for a `Send`, nothing is wanted to be put
pub none_sent : (c : ReadyCode) (piece : Piece) (met : Met) (p old : HeldState) (x port : Path) (trim : List Path) (r : Option held.Value) → p ≡ old → met.instruction ≡ Send x port trim
    → IfNone r ((s : Frame ⊤) (port : Path) → Stands p.frame s → option_and_then (λ st. code_wants forget_name c (Send x port trim) st s) (stack_before_action c piece s.variables (on_stack p.stack)) ≡ None)
    → IfNone r ((s : CodeState ⊤) (m : Value) → StandsAt old s → coming_action piece met ≡ coming (code_next c s) → IsWanted c m s → ⊥)
none_sent c piece met p old x port trim None view is h = λ s m stands e wanted.
    let at : StandsAt p s = subst (λ q. StandsAt q s) (sym view) stands in
    none-not_some (sym (h s.frame port at.frame) ∙ action_wants c s piece met (on_stack p.stack) (Send x port trim) wanted.0 at.stack is (action_comes c s piece met e).is wanted.1)
none_sent c piece met p old x port trim (Some v) view is h = tt

module _ (c : ReadyCode) (o : Path) (arguments : List Argument) (keeps : List Raised) (has_step : Bool) (s : Frame ⊤) (before : Option (List Value)) (w : CellWant ⊤) (e : option_and_then (λ st. code_wants forget_name c (Call o arguments keeps) st s) before ≡ Some w) where
  abbrev counted : Frame ⊤
  counted = counted_action (counted_if has_step s)

  -- the callmessage that is wanted, and the values of the stack of which it is composed
  record Called : Type 0 where
    stack : List Value
    there : before ≡ Some stack
    port : ℕ
    popped : Popped
    values : pop (count_inputs arguments) stack ≡ Some popped
    composed : Composed ⊤
    is : composed_of forget_name c arguments popped.values s ≡ Some composed
    want : to_put port composed.message ≡ w

  wanted_call : Called
  wanted_call =
      let b = chain-some (λ st. code_wants forget_name c (Call o arguments keeps) st s) before w e in
      let port = chain-some (λ (port : ℕ). option_map (λ (k : Composed ⊤). to_put port k.message) (called forget_name c arguments b.0 s)) (outport_at o s) w b.2 in
      let k = map-some (λ (k : Composed ⊤). to_put port.0 k.message) (called forget_name c arguments b.0 s) w port.2 in
      let v = chain-some (λ (p : Popped). composed_of forget_name c arguments p.values s) (pop (count_inputs arguments) b.0) k.0 k.1 in
      record { stack = b.0; there = b.1; port = port.0; popped = v.0; values = v.1; composed = k.0; is = v.2; want = k.2 }

  not_none : option_and_then (λ st. called forget_name c arguments st counted) before ≡ None → ⊥
  not_none none =
      let k = wanted_call in
      let empty : composed_of forget_name c arguments k.popped.values counted ≡ None =
      sym (ap (option_and_then (λ (p : Popped). composed_of forget_name c arguments p.values counted)) k.values) ∙ sym (ap (option_and_then (λ st. called forget_name c arguments st counted)) k.there) ∙ none in
      none-not_some (sym (ap (option_map message_in) empty) ∙ same_messages c arguments k.popped.values has_step s ∙ ap (option_map message_in) k.is)

  -- what is left of the process
  record IsLeftBy (f : HeldFrame) (left : List Value) : Type 0 where
    stack : List Value
    there : before ≡ Some stack
    is : IsLeft c (Call o arguments keeps) stack counted left f

  module _ (v : held.Value) (f : HeldFrame) (left : List Value) (out : IsCallOut (Some v) f left (count_inputs arguments) before (λ st. called forget_name c arguments st counted)) where
    put_wanted : IsPutOf (value_view v) w
    put_wanted =
        let k = wanted_call in
        let x : IsComposed (Some v) f (called forget_name c arguments out.0 counted) = out.3 in
        let same : out.0 ≡ k.stack = some-injective (sym out.1 ∙ k.there) in
        let on_this : called forget_name c arguments k.stack counted ≡ Some (record { message = value_view v; call = x.1; frame = x.0 }) = ap (λ st. called forget_name c arguments st counted) (sym same) ∙ x.2 in
        let is : composed_of forget_name c arguments k.popped.values counted ≡ Some (record { message = value_view v; call = x.1; frame = x.0 }) =
        sym (ap (option_and_then (λ (p : Popped). composed_of forget_name c arguments p.values counted)) k.values) ∙ on_this in
        let message : value_view v ≡ k.composed.message = some-injective (sym (ap (option_map message_in) is) ∙ same_messages c arguments k.popped.values has_step s ∙ ap (option_map message_in) k.is) in (
          k.port,
          sym (ap (to_put k.port) message ∙ k.want),
        )

    is_left : IsLeftBy f left
    is_left =
        let p = map-some (λ (p : Popped). p.rest) (pop (count_inputs arguments) out.0) left out.2 in
        let x : IsComposed (Some v) f (called forget_name c arguments out.0 counted) = out.3 in
        let k : Composed ⊤ = record { message = value_view v; call = x.1; frame = x.0 } in
        let is : composed_of forget_name c arguments p.0.values counted ≡ Some k = sym (ap (option_and_then (λ (p : Popped). composed_of forget_name c arguments p.values counted)) p.1) ∙ x.2 in
        record { stack = out.0; there = out.1; is = (p.0, k, p.1, p.2, is, x.3) }

module _ (c : ReadyCode) (o : Path) (arguments : List Argument) (keeps : List Raised) (piece : Piece) (met : Met) (p q old : HeldState) (view : p ≡ old) (same : q.position ≡ p.position) (at : met.instruction ≡ Call o arguments keeps) where
  module _ (s : CodeState ⊤) (w : CellWant ⊤) (stands : StandsAt old s) (e : coming_action piece met ≡ coming (code_next c s)) (want : code_wanted forget_name c s ≡ Some w) where
    held_at : StandsAt p s
    held_at = subst (λ q. StandsAt q s) (sym view) stands

    abbrev before : Option (List Value)
    before = stack_before_action c piece s.frame.variables (on_stack p.stack)

    on_before : option_and_then (λ st. code_wants forget_name c (Call o arguments keeps) st s.frame) before ≡ Some w
    on_before = action_wants c s piece met (on_stack p.stack) (Call o arguments keeps) w held_at.stack at (action_comes c s piece met e).is want

    call_none : option_and_then (λ st. called forget_name c arguments st (counted_action (counted_if piece.has_step s.frame))) before ≡ None → ⊥
    call_none none = not_none c o arguments keeps piece.has_step s.frame before w on_before none

    module _ (v : held.Value) (out : IsCallOut (Some v) q.frame (on_stack q.stack) (count_inputs arguments) before (λ st. called forget_name c arguments st (counted_action (counted_if piece.has_step s.frame)))) where
      call_wanted : IsPutOf (value_view v) w
      call_wanted = put_wanted c o arguments keeps piece.has_step s.frame before w on_before v q.frame (on_stack q.stack) out

      call_is_out : HoldsOrder c q s
      call_is_out =
          let b = counted_action (counted_if piece.has_step s.frame) in
          let l = is_left c o arguments keeps piece.has_step s.frame before w on_before v q.frame (on_stack q.stack) out in
          record {
            piece = piece;
            met = met;
            before = l.stack;
            next = (action_comes c s piece met e).is;
            position = held_at.position ∙ sym same;
            there = subst (λ k. stack_before_action c piece s.frame.variables k ≡ Some l.stack) (sym held_at.stack) l.there;
            left = subst (λ i. IsLeft c i l.stack b (on_stack q.stack) q.frame) (sym at) l.is;
          }

  pub takes_call : (r : Option held.Value) → ((s : Frame ⊤) → Stands p.frame s → IsCallOut r q.frame (on_stack q.stack) (count_inputs arguments) (stack_before_action c piece s.variables (on_stack p.stack)) (λ st. called forget_name c arguments st (counted_action (counted_if piece.has_step s))))
      → TakesMessage c piece met old q r
  takes_call None outs = record {
    wanted = tt;
    out = tt;
    absent = λ s m stands e wanted. call_none s wanted.0 stands e wanted.1 (outs s.frame (held_at s wanted.0 stands e wanted.1).frame);
  }
  takes_call (Some v) outs = record {
    wanted = λ s w stands e want. call_wanted s w stands e want v (outs s.frame (held_at s w stands e want).frame);
    out = λ s w stands e want. call_is_out s w stands e want v (outs s.frame (held_at s w stands e want).frame);
    absent = tt;
  }
