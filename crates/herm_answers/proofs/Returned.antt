-- What the answer to a return leaves whose values are out.
use Rattle.std.proofs.Common.{◌≡◌, ◌<◌, ℕ, List, length, Bool, Option, Some, None, option_map, option_and_then, refl, sym, ap, subst, ◌∙◌}
use Rattle.std.specs.Prelude.{⊤}
use Rattle.herm_model.specs.Outcomes as model
use Rattle.herm_model.specs.Paths.{Path}
use Rattle.herm_model.specs.Values.{Value, cell_at}
use Rattle.herm_model.proofs.Options.{none-not_some, some-injective}
use Rattle.herm_journal.specs.Actions.{answer}
use Rattle.herm_journal.specs.Messages.{CellAction, CellReply}
use Rattle.herm_journal.specs.Renaming.{forget_name}
use Rattle.herm_forms.specs.Acts.{given_at, given_back}
use Rattle.herm_forms.specs.Callmessages as callmessages
use Rattle.herm_forms.specs.Frames.{Frame, Taken, counted_action, stuck}
use Rattle.herm_forms.specs.ReturnForms as returns
use Rattle.herm_forms.specs.ReturnForms.{caller_of}
use Rattle.herm_instructions.specs.Instructions.{Instruction, Send, Call, Return, ReturnBy}
use Rattle.herm_code_machine.specs.CodeActions.{code_settles, composed_of, kept_parameters, outs}
use Rattle.herm_code_machine.specs.CodeStates.{CodeState}
use Rattle.herm_code_machine.specs.CodeSteps.{code_answered, counted_if, settle_next, settled, settled_action}
use Rattle.herm_code_machine.specs.Pieces.{Met}
use Rattle.herm_code_machine.specs.ReadyCode.{ReadyCode}
use Rattle.herm_code_machine.specs.Stacks.{Effect, Popped, leaving, with_popped}
use Rattle.herm_frames.specs.Completed.{Completes}
use Rattle.herm_frames.specs.HeldFrames.{HeldFrame}
use Rattle.herm_frames.specs.Standing.{Stands}
use Rattle.herm_pieces.specs.View.{outcome_view}
use Rattle.herm_pieces.specs.declared.outcomes.Outcome.{Outcome}
use Rattle.herm_stack.specs.Answers.{on_stack}
use Rattle.herm_steps.specs.Behind.{IsBehind}
use Rattle.herm_steps.specs.HeldStates.{HeldState}
use Rattle.herm_answers.specs.Orders.{IsGiven, IsLeft}
use Rattle.herm_answers.specs.Returning.{returned_from}
use Rattle.herm_answers.specs.Settled.{Settles}
use Rattle.herm_answers.proofs.Behind.{action_behind, settled_stuck, settles_by}
use Rattle.herm_answers.proofs.Placed.{OrderAt, order_within}

-- what a return comes to whose values were taken out
taken_gives : (taken : Option (Taken ⊤)) (m : Path) (f g : HeldFrame) (stack : List Value) (call : ℕ) (reply : CellReply ⊤) (r : Option Outcome) (k : Option model.Outcome) → IsGiven taken m f → option_map outcome_view r ≡ k
    → ((t : Frame ⊤) (cells : List Value) (who : ℕ × ℕ) → Stands f t → option_and_then caller_of (cell_at m t.variables) ≡ Some who → Completes k g (returns.return (Some (record { cells = cells; frame = t })) m (answer call reply)))
    → Settles r g stack (leaving stack (returns.return taken m (answer call reply)))
taken_gives taken m f g stack call reply r k h is gives =
    subst (λ x. Settles r g stack (leaving stack (returns.return x m (answer call reply)))) (sym h.2) (settles_by r k g stack (returns.return (Some h.0) m (answer call reply)) is (gives h.0.frame h.0.cells h.1 h.4 h.3))

pub return_given : (c : ReadyCode) (i : Instruction) (m : Path) (before stack : List Value) (b : Frame ⊤) (f g : HeldFrame) (at call : ℕ) (reply : CellReply ⊤) (r : Option Outcome) (k : Option model.Outcome) → returned_from i ≡ Some m → IsLeft c i before b stack f → option_map outcome_view r ≡ k
    → ((t : Frame ⊤) (cells : List Value) (who : ℕ × ℕ) → Stands f t → option_and_then caller_of (cell_at m t.variables) ≡ Some who → Completes k g (returns.return (Some (record { cells = cells; frame = t })) m (answer call reply)))
    → Settles r g stack (code_settles forget_name c i before at (answer call reply) b)
return_given c (Return n) m before stack b f g at call reply r k e h is gives =
    let same : m ≡ n = sym (some-injective e) in
    let taken = given_back c.scope (given_at c.scope n) b in
    subst (λ st. Settles r g stack (leaving st (returns.return taken n (answer call reply)))) (sym h.0)
    (taken_gives taken n f g stack call reply r k h.1 is
    (subst (λ m. (t : Frame ⊤) (cells : List Value) (who : ℕ × ℕ) → Stands f t → option_and_then caller_of (cell_at m t.variables) ≡ Some who → Completes k g (returns.return (Some (record { cells = cells; frame = t })) m (answer call reply))) same gives))
return_given c (ReturnBy n x kept) m before stack b f g at call reply r k e h is gives =
    let same : m ≡ n = sym (some-injective e) in
    let taken = given_back c.scope (kept_parameters c n kept) b in
    subst (λ st. Settles r g stack (leaving st (returns.return taken n (answer call reply)))) (sym h.0)
    (taken_gives taken n f g stack call reply r k h.1 is
    (subst (λ m. (t : Frame ⊤) (cells : List Value) (who : ℕ × ℕ) → Stands f t → option_and_then caller_of (cell_at m t.variables) ≡ Some who → Completes k g (returns.return (Some (record { cells = cells; frame = t })) m (answer call reply))) same gives))
return_given c i m before stack b f g at call reply r k e h is gives = none-not_some e

-- what answers no caller is stuck
pub not_returning : (c : ReadyCode) (i : Instruction) (before stack : List Value) (b : Frame ⊤) (f : HeldFrame) (at call : ℕ) (reply : CellReply ⊤) → returned_from i ≡ None → IsLeft c i before b stack f → (code_settles forget_name c i before at (answer call reply) b).completion ≡ stuck
not_returning c (Send x o trim) before stack b f at call reply e h = refl
not_returning c (Call o arguments keeps) before stack b f at call reply e h =
    ap (λ x. (with_popped (λ (p : Popped). leaving p.rest (callmessages.call (composed_of forget_name c arguments p.values b) (outs arguments) (answer call reply))) x).completion) h.2
not_returning c (Return n) before stack b f at call reply e h = none-not_some (sym e)
not_returning c (ReturnBy n x kept) before stack b f at call reply e h = none-not_some (sym e)
not_returning c i before stack b f at call reply e h = absurd h

-- behind a return that was answered
pub return_given_behind : (c : ReadyCode) (s : CodeState ⊤) (p q : HeldState) (m : Met) (o : OrderAt c p s m) (x : Path) (g : HeldFrame) (r : Bool) (at call n : ℕ) (reply : CellReply ⊤) (done : Option Outcome) (k : Option model.Outcome) → returned_from m.instruction ≡ Some x → length c.code.code ≡ n
    → option_map outcome_view done ≡ k → ((t : Frame ⊤) (cells : List Value) (who : ℕ × ℕ) → Stands p.frame t → option_and_then caller_of (cell_at x t.variables) ≡ Some who → Completes k g (returns.return (Some (record { cells = cells; frame = t })) x (answer call reply)))
    → ((e : Effect ⊤) → Settles done g (on_stack p.stack) e → m.index < n → IsBehind r q s (settled forget_name c s m.index m.instruction e.stack e.completion)) → IsBehind r q s (code_answered forget_name c s at (answer call reply))
return_given_behind c s p q m o x g r at call n reply done k is long view gives runs =
    let a : CellAction ⊤ = answer call reply in
    let b = counted_action (counted_if o.piece.has_step s.frame) in
    let settles = return_given c m.instruction x o.before (on_stack p.stack) b p.frame g at call reply done k is o.left view gives in
    action_behind c s o.piece m at a o.before r q o.next o.there (runs (code_settles forget_name c m.instruction o.before at a b) settles (order_within c p s m o n long))

-- behind an order that answers nobody
pub not_returning_behind : (c : ReadyCode) (s : CodeState ⊤) (p : HeldState) (m : Met) (o : OrderAt c p s m) (at call : ℕ) (reply : CellReply ⊤) → returned_from m.instruction ≡ None → code_answered forget_name c s at (answer call reply) ≡ None
not_returning_behind c s p m o at call reply e =
    let a : CellAction ⊤ = answer call reply in
    let b = counted_action (counted_if o.piece.has_step s.frame) in
    let k : Effect ⊤ = code_settles forget_name c m.instruction o.before at a b in
    ap (settle_next forget_name c s at a) o.next ∙ ap (option_and_then (settled_action forget_name c s o.piece m at a)) o.there
    ∙ settled_stuck c s m.index m.instruction k.stack k.completion (not_returning c m.instruction o.before (on_stack p.stack) b p.frame at call reply e o.left)
