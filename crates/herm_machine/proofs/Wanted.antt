-- Which wants there are by what comes next.
use Rattle.std.proofs.Common.{◌≡◌, ℕ, List, [], ◌∷◌, Bool, true, false, Option, Some, None, option_map, option_and_then, refl, sym, ap, subst, ◌∙◌, true≢false}
use Rattle.std.specs.Prelude.{⊤, IfSome, IfNone}
use Rattle.herm_model.specs.Values.{a_scalar, a_record, a_variant, a_table, a_polymorph, a_callmessage, an_inport, an_outport, Cell, cell, Value}
use Rattle.herm_model.proofs.Options.{none-not_some, some-injective, chain-some, map-some}
use Rattle.herm_journal.specs.Actions.{values, raised, gone, new_port, new_process, to_put, to_take, to_close, to_answer, to_hear}
use Rattle.herm_journal.specs.Messages.{CellReply, CellWant}
use Rattle.herm_journal.specs.Renaming.{forget_name}
use Rattle.herm_forms.specs.Callmessages.{Composed, call_wants}
use Rattle.herm_forms.specs.ClosesAndAnswers.{work_wants}
use Rattle.herm_forms.specs.Exchanges.{inport_at, outport_at, ports_at, receive_wants, select_wants, send_wants}
use Rattle.herm_forms.specs.Frames.{Frame, Taken, drop}
use Rattle.herm_forms.specs.ReturnForms.{return_wants}
use Rattle.herm_model.specs.Paths.{Path}
use Rattle.herm_instructions.specs.Instructions.{Instruction, New, Send, Receive, Select, Call, Return, ReturnBy, Create}
use Rattle.herm_code_machine.specs.CodeActions.{code_wants, ports_of_choices}
use Rattle.herm_code_machine.specs.CodeStates.{CodeState}
use Rattle.herm_code_machine.specs.CodeSteps.{CodeNext, an_item, a_reply, an_action, a_local_piece, nothing, code_next, code_wanted, wanted_next}
use Rattle.herm_code_machine.specs.Pieces.{Met, Piece, stack_before_action}
use Rattle.herm_code_machine.specs.ReadyCode.{ReadyCode}
use Rattle.herm_machine.specs.Kinds.{IsBringing, IsClosing, IsHearing}
use Rattle.herm_steps.specs.Coming.{Coming, coming, coming_item, coming_reply, coming_action, coming_piece, coming_nothing, wants_nothing}

-- wants of what waits, of an action, and of an open call
abbrev pub IsFrontWant : CellWant ⊤ → Type 0
IsFrontWant new_port = ⊥
IsFrontWant (new_process code) = ⊥
IsFrontWant (to_put port m) = ⊥
IsFrontWant (to_take ports) = ⊥
IsFrontWant (to_close port) = ⊤
IsFrontWant (to_answer caller call r) = ⊤
IsFrontWant to_hear = ⊥

abbrev pub IsActionWant : CellWant ⊤ → Type 0
IsActionWant new_port = ⊤
IsActionWant (new_process code) = ⊤
IsActionWant (to_put port m) = ⊤
IsActionWant (to_take ports) = ⊤
IsActionWant (to_close port) = ⊥
IsActionWant (to_answer caller call r) = ⊤
IsActionWant to_hear = ⊥

abbrev pub IsActionComing : Coming → Type 0
IsActionComing (coming_action p m) = ⊤
IsActionComing k = ⊥

abbrev pub IsWantOf : Coming → CellWant ⊤ → Type 0
IsWantOf coming_item w = IsFrontWant w
IsWantOf (coming_reply index instruction) w = IsHearing w
IsWantOf (coming_action p m) w = IsActionWant w
IsWantOf (coming_piece p) w = ⊥
IsWantOf coming_nothing w = ⊥

front-want : (item : Cell ⊤) (w : CellWant ⊤) → work_wants item ≡ Some w → IsFrontWant w
front-want (cell n (a_scalar s) ps) w e = none-not_some e
front-want (cell n a_record ps) w e = none-not_some e
front-want (cell n (a_variant c) ps) w e = none-not_some e
front-want (cell n a_table ps) w e = none-not_some e
front-want (cell n (a_polymorph t) ps) w e = none-not_some e
front-want (cell n (a_callmessage caller call) ps) w e = subst IsFrontWant (some-injective e) tt
front-want (cell n (an_inport port) ps) w e = subst IsFrontWant (some-injective e) tt
front-want (cell n (an_outport port) ps) w e = none-not_some e

-- behind a chain and a map
chain-map : {X Y : Type 0} (f : X → Y → CellWant ⊤) → ((x : X) (y : Y) → IsActionWant (f x y)) → (o : Option X) (p : Option Y) (w : CellWant ⊤) → option_and_then (λ x. option_map (f x) p) o ≡ Some w → IsActionWant w
chain-map f is None p w e = none-not_some e
chain-map f is (Some x) None w e = none-not_some e
chain-map f is (Some x) (Some y) w e = subst IsActionWant (some-injective e) (is x y)

only-map : {X : Type 0} (f : X → CellWant ⊤) → ((x : X) → IsActionWant (f x)) → (o : Option X) (w : CellWant ⊤) → option_map f o ≡ Some w → IsActionWant w
only-map f is None w e = none-not_some e
only-map f is (Some x) w e = subst IsActionWant (some-injective e) (is x)

instruction-want : (c : ReadyCode) (i : Instruction) (stack : List Value) (f : Frame ⊤) (w : CellWant ⊤) → code_wants forget_name c i stack f ≡ Some w → IsActionWant w
instruction-want c (New x t) stack f w e = subst IsActionWant (some-injective e) tt
instruction-want c (Send x o trim) stack f w e = chain-map (λ port (m : Value). to_put port m) (λ port m. tt) (outport_at o f) _ w e
instruction-want c (Receive x i) stack f w e = only-map (λ port. to_take (port ∷ [])) (λ port. tt) (inport_at i f) w e
instruction-want c (Select choices) stack f w e = only-map (λ (ports : List ℕ). to_take ports) (λ ports. tt) (ports_at (ports_of_choices choices) f) w e
instruction-want c (Call o arguments keeps) stack f w e = chain-map (λ port (k : Composed ⊤). to_put port k.message) (λ port k. tt) (outport_at o f) _ w e
instruction-want c (Return m) stack f w e = chain-map (λ (who : ℕ × ℕ) (t : Taken ⊤). to_answer who.0 who.1 (values t.cells)) (λ who t. tt) _ _ w e
instruction-want c (ReturnBy m x kept) stack f w e = chain-map (λ (who : ℕ × ℕ) (t : Taken ⊤). to_answer who.0 who.1 (raised x t.cells)) (λ who t. tt) _ _ w e
instruction-want c (Create o n) stack f w e = subst IsActionWant (some-injective e) tt
instruction-want c i stack f w e = none-not_some e

pub want-of : (c : ReadyCode) (s : CodeState ⊤) (n : CodeNext ⊤) (w : CellWant ⊤) → wanted_next forget_name c s n ≡ Some w → IsWantOf (coming n) w
want-of c s (an_item item work) w e = front-want item w e
want-of c s (a_reply call i instruction) w e = subst IsHearing (some-injective e) tt
want-of c s (an_action p m) w e =
    let stack = chain-some (λ stack. code_wants forget_name c m.instruction stack s.frame) (stack_before_action c p s.frame.variables s.stack) w e in
    instruction-want c m.instruction stack.0 s.frame w stack.2
want-of c s (a_local_piece p) w e = none-not_some e
want-of c s nothing w e = none-not_some e

pub want-at : (c : ReadyCode) (s : CodeState ⊤) (k : Coming) (w : CellWant ⊤) → k ≡ coming (code_next c s) → code_wanted forget_name c s ≡ Some w → IsWantOf k w
want-at c s k w next e = subst (λ k. IsWantOf k w) (sym next) (want-of c s (code_next c s) w e)

nothing-next : (c : ReadyCode) (s : CodeState ⊤) (n : CodeNext ⊤) → wants_nothing (coming n) ≡ true → wanted_next forget_name c s n ≡ None
nothing-next c s (an_item item work) e = absurd (true≢false (sym e))
nothing-next c s (a_reply call i instruction) e = absurd (true≢false (sym e))
nothing-next c s (an_action p m) e = absurd (true≢false (sym e))
nothing-next c s (a_local_piece p) e = refl
nothing-next c s nothing e = refl

pub nothing-wanted : (c : ReadyCode) (s : CodeState ⊤) → wants_nothing (coming (code_next c s)) ≡ true → code_wanted forget_name c s ≡ None
nothing-wanted c s e = nothing-next c s (code_next c s) e

-- no want is of two kinds
pub front-brings : {A : Type 0} (w : CellWant ⊤) → IsFrontWant w → IsBringing w → A
front-brings new_port h k = absurd h
front-brings (new_process code) h k = absurd h
front-brings (to_put port m) h k = absurd h
front-brings (to_take ports) h k = absurd h
front-brings (to_close port) h k = absurd k
front-brings (to_answer caller call r) h k = absurd k
front-brings to_hear h k = absurd h

pub hearing-brings : {A : Type 0} (w : CellWant ⊤) → IsHearing w → IsBringing w → A
hearing-brings new_port h k = absurd h
hearing-brings (new_process code) h k = absurd h
hearing-brings (to_put port m) h k = absurd h
hearing-brings (to_take ports) h k = absurd h
hearing-brings (to_close port) h k = absurd h
hearing-brings (to_answer caller call r) h k = absurd h
hearing-brings to_hear h k = absurd k

pub hearing-closes : {A : Type 0} (w : CellWant ⊤) → IsHearing w → IsClosing w → A
hearing-closes new_port h k = absurd h
hearing-closes (new_process code) h k = absurd h
hearing-closes (to_put port m) h k = absurd h
hearing-closes (to_take ports) h k = absurd h
hearing-closes (to_close port) h k = absurd h
hearing-closes (to_answer caller call r) h k = absurd h
hearing-closes to_hear h k = absurd k

pub action-closes : {A : Type 0} (w : CellWant ⊤) → IsActionWant w → IsClosing w → A
action-closes new_port h k = absurd k
action-closes (new_process code) h k = absurd k
action-closes (to_put port m) h k = absurd k
action-closes (to_take ports) h k = absurd k
action-closes (to_close port) h k = absurd h
action-closes (to_answer caller call r) h k = absurd k
action-closes to_hear h k = absurd h

pub action-hears : {A : Type 0} (w : CellWant ⊤) → IsActionWant w → IsHearing w → A
action-hears new_port h k = absurd k
action-hears (new_process code) h k = absurd k
action-hears (to_put port m) h k = absurd k
action-hears (to_take ports) h k = absurd k
action-hears (to_close port) h k = absurd k
action-hears (to_answer caller call r) h k = absurd k
action-hears to_hear h k = absurd h

pub front-hears : {A : Type 0} (w : CellWant ⊤) → IsFrontWant w → IsHearing w → A
front-hears new_port h k = absurd k
front-hears (new_process code) h k = absurd k
front-hears (to_put port m) h k = absurd k
front-hears (to_take ports) h k = absurd k
front-hears (to_close port) h k = absurd k
front-hears (to_answer caller call r) h k = absurd k
front-hears to_hear h k = absurd h

-- what is said of what is there, and where nothing is
pub if_some : {X : Type 0} {P Q : X → Type 0} (o : Option X) → ((x : X) → P x → Q x) → IfSome o P → IfSome o Q
if_some None f h = tt
if_some (Some x) f h = f x h

pub if_none : {X A B : Type 0} (o : Option X) → (A → B) → IfNone o A → IfNone o B
if_none None f h = f h
if_none (Some x) f h = tt

-- a message that is wanted to be put is one of an action, and a reply one of an action or of the front
pub put-acts : {A : Type 0} (k : Coming) (port : ℕ) (m : Value) → IsWantOf k (to_put port m) → (IsActionComing k → A) → A
put-acts coming_item port m h f = absurd h
put-acts (coming_reply index instruction) port m h f = absurd h
put-acts (coming_action p q) port m h f = f tt
put-acts (coming_piece p) port m h f = absurd h
put-acts coming_nothing port m h f = absurd h

pub some_of : {X : Type 0} (P : X → Type 0) (o : Option X) (x : X) → o ≡ Some x → IfSome o P → P x
some_of P None x e h = none-not_some e
some_of P (Some y) x e h = subst P (some-injective e) h

pub none_of : {X A : Type 0} (o : Option X) → o ≡ None → IfNone o A → A
none_of None e h = h
none_of (Some x) e h = none-not_some (sym e)
