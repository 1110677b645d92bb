-- Orders that are out, once what they carry was taken out.
use Rattle.std.proofs.Common.{◌≡◌, ℕ, List, map, Option, Some, None, refl, sym, ap, subst, ◌∙◌}
use Rattle.std.specs.Prelude.{IfSome, option_and_then, ⊤}
use Rattle.herm_model.specs.Paths.{Path}
use Rattle.herm_model.specs.Values.{Value}
use Rattle.herm_journal.specs.Actions.{put, to_put}
use Rattle.herm_journal.specs.Messages.{CellWant}
use Rattle.herm_journal.specs.Renaming.{forget_name}
use Rattle.herm_forms.specs.Exchanges.{outport_at}
use Rattle.herm_forms.specs.Frames.{Frame, counted_action}
use Rattle.herm_instructions.specs.Instructions.{Instruction, Send}
use Rattle.herm_code_machine.specs.CodeActions.{code_wants}
use Rattle.herm_code_machine.specs.CodeStates.{CodeState}
use Rattle.herm_code_machine.specs.CodeSteps.{an_action, code_next, code_wanted, counted_if, wanted_next}
use Rattle.herm_code_machine.specs.Pieces.{Met, Piece, stack_before_action}
use Rattle.herm_code_machine.specs.ReadyCode.{ReadyCode}
use Rattle.herm_frames.specs.Standing.{Stands}
use Rattle.herm_stack.specs.Answers.{on_stack}
use Rattle.herm_values.specs.View.{value_view}
use Rattle.herm_values.specs.declared.value.Value as held
use Rattle.herm_steps.specs.Coming.{coming, coming_action}
use Rattle.herm_steps.specs.HeldStates.{HeldState}
use Rattle.herm_steps.specs.Sent.{Places, Wants}
use Rattle.herm_steps.specs.StandingAt.{StandsAt}
use Rattle.herm_answers.specs.Orders.{HoldsOrder, IsLeft, IsPutOf}
use Rattle.herm_answers.proofs.Comes.{action_comes}
use Rattle.herm_answers.proofs.Sent.{left_sent, put_of}

-- what an action wants, with its instruction and the stack written out
pub action_wants : (c : ReadyCode) (s : CodeState ⊤) (piece : Piece) (m : Met) (stack : List Value) (i : Instruction) (w : CellWant ⊤) → s.stack ≡ stack → m.instruction ≡ i → code_next c s ≡ an_action piece m → code_wanted forget_name c s ≡ Some w
    → option_and_then (λ st. code_wants forget_name c i st s.frame) (stack_before_action c piece s.frame.variables stack) ≡ Some w
action_wants c s piece m stack i w at is next wanted =
    subst (λ k. option_and_then (λ st. code_wants forget_name c i st s.frame) (stack_before_action c piece s.frame.variables k) ≡ Some w) at
    (subst (λ i. option_and_then (λ st. code_wants forget_name c i st s.frame) (stack_before_action c piece s.frame.variables s.stack) ≡ Some w) is (sym (ap (wanted_next forget_name c s) next) ∙ wanted))

-- the message of a `Send` is what is wanted
pub sent_wanted : (c : ReadyCode) (s : CodeState ⊤) (piece : Piece) (m : Met) (stack : List Value) (x o : Path) (trim : List Path) (w : CellWant ⊤) (v : Value) → s.stack ≡ stack → m.instruction ≡ Send x o trim → code_next c s ≡ an_action piece m → code_wanted forget_name c s ≡ Some w
    → ((p : ℕ) → outport_at o s.frame ≡ Some p → Wants c (Send x o trim) (to_put p v) s.frame (stack_before_action c piece s.frame.variables stack)) → IsPutOf v w
sent_wanted c s piece m stack x o trim w v at is next wanted wants =
    put_of trim x o s.frame (stack_before_action c piece s.frame.variables stack) w v (action_wants c s piece m stack (Send x o trim) w at is next wanted) wants

-- and the order is out then
pub sent_out : (c : ReadyCode) (s : CodeState ⊤) (piece : Piece) (m : Met) (p q : HeldState) (x o : Path) (trim : List Path) (sent : Value) → StandsAt p s → q.position ≡ p.position → m.instruction ≡ Send x o trim → code_next c s ≡ an_action piece m
    → Places c (Send x o trim) 0 (put (Some 0) sent) (counted_action (counted_if piece.has_step s.frame)) (stack_before_action c piece s.frame.variables (on_stack p.stack)) (on_stack q.stack) q.frame → HoldsOrder c q s
sent_out c s piece m p q x o trim sent h same is next placed =
    let b = counted_action (counted_if piece.has_step s.frame) in
    let l = left_sent trim x 0 sent q.frame b placed.3 in
    record {
      piece = piece;
      met = m;
      before = placed.0;
      next = next;
      position = h.position ∙ sym same;
      there = subst (λ k. stack_before_action c piece s.frame.variables k ≡ Some placed.0) (sym h.stack) placed.1;
      left = subst (λ i. IsLeft c i placed.0 b (on_stack q.stack) q.frame) (sym is) (l.message, placed.2, l.at, l.stands);
    }

-- The message that was taken out for a piece's action, from the process as it was.
pub taken_wanted : (c : ReadyCode) (piece : Piece) (m : Met) (p old : HeldState) (x port : Path) (trim : List Path) (r : Option held.Value) → p ≡ old → m.instruction ≡ Send x port trim
    → IfSome r (λ v. (s : Frame ⊤) (port : Path) (k : ℕ) → Stands p.frame s → outport_at port s ≡ Some k → Wants c (Send x port trim) (to_put k (value_view v)) s (stack_before_action c piece s.variables (on_stack p.stack)))
    → IfSome r (λ v. (s : CodeState ⊤) (w : CellWant ⊤) → StandsAt old s → coming_action piece m ≡ coming (code_next c s) → code_wanted forget_name c s ≡ Some w → IsPutOf (value_view v) w)
taken_wanted c piece m p old x port trim None view is h = h
taken_wanted c piece m p old x port trim (Some v) view is h = λ s w stands e wanted.
    let at : StandsAt p s = subst (λ q. StandsAt q s) (sym view) stands in
    sent_wanted c s piece m (on_stack p.stack) x port trim w (value_view v) at.stack is (action_comes c s piece m e).is wanted (λ k there. h s.frame port k at.frame there)

pub taken_out : (c : ReadyCode) (piece : Piece) (m : Met) (p q old : HeldState) (x port : Path) (trim : List Path) (r : Option held.Value) → p ≡ old → q.position ≡ p.position → m.instruction ≡ Send x port trim
    → IfSome r (λ v. (s : Frame ⊤) (port : Path) (at number : ℕ) (sent : Value) → Stands p.frame s → Places c (Send x port trim) at (put (Some number) sent) (counted_action (counted_if piece.has_step s)) (stack_before_action c piece s.variables (on_stack p.stack)) (on_stack q.stack) q.frame)
    → IfSome r (λ v. (s : CodeState ⊤) (w : CellWant ⊤) → StandsAt old s → coming_action piece m ≡ coming (code_next c s) → code_wanted forget_name c s ≡ Some w → HoldsOrder c q s)
taken_out c piece m p q old x port trim None view same is h = h
taken_out c piece m p q old x port trim (Some v) view same is h = λ s w stands e wanted.
    let at : StandsAt p s = subst (λ q. StandsAt q s) (sym view) stands in
    sent_out c s piece m p q x port trim (value_view v) at same is (action_comes c s piece m e).is (h s.frame port 0 0 (value_view v) at.frame)
