-- What stands behind an answer.
use Rattle.std.proofs.Common.{◌≡◌, ℕ, List, map, Bool, true, false, Option, Some, None, option_map, option_and_then, refl, sym, ap, subst, ◌∙◌}
use Rattle.std.specs.Prelude.{⊤}
use Rattle.herm_model.specs.Outcomes as model
use Rattle.herm_model.specs.Values.{Value}
use Rattle.herm_journal.specs.Messages.{CellAction}
use Rattle.herm_journal.specs.Renaming.{forget_name}
use Rattle.herm_forms.specs.ClosesAndAnswers.{work_done}
use Rattle.herm_forms.specs.Frames.{Frame, Completion, goes, stuck, counted_action}
use Rattle.herm_instructions.specs.Instructions.{Instruction}
use Rattle.herm_code_machine.specs.ReadyCode.{ReadyCode}
use Rattle.herm_code_machine.specs.CodeActions.{code_hears, code_settles}
use Rattle.herm_code_machine.specs.CodeStates.{CodeState, to_next_piece, state_behind}
use Rattle.herm_code_machine.specs.CodeSteps.{an_action, a_reply, an_item, code_answered, code_next, counted_if, settle_next, settled, settled_action, worked}
use Rattle.herm_code_machine.specs.Pieces.{Piece, Met, stack_before_action}
use Rattle.herm_code_machine.specs.Stacks.{Effect, leaving}
use Rattle.herm_exchanges.specs.Worked.{Stays}
use Rattle.herm_frames.specs.Completed.{Completes}
use Rattle.herm_frames.specs.HeldFrames.{HeldFrame}
use Rattle.herm_frames.specs.Standing.{Stands}
use Rattle.herm_pieces.specs.View.{outcome_view}
use Rattle.herm_pieces.specs.declared.outcomes.Outcome.{Outcome}
use Rattle.herm_stack.specs.Answers.{on_stack}
use Rattle.herm_steps.specs.Behind.{IsBehind}
use Rattle.herm_steps.specs.HeldStates.{HeldState}
use Rattle.herm_steps.specs.StandingAt.{StandsAt}
use Rattle.herm_answers.specs.Settled.{Settles}
use Rattle.herm_answers.proofs.Comes.{AnActionComes, AnItemComes, AReplyComes}

pub behind_same : (r : Bool) (p : HeldState) (s t : CodeState ⊤) (o o' : Option (CodeState ⊤)) → o' ≡ o → t.module_number ≡ s.module_number → IsBehind r p t o → IsBehind r p s o'
behind_same false p s t o o' is same h = is ∙ h
behind_same true p s t o o' is same h = (h.0, is ∙ h.1, h.2 ∙ same, h.3)

pub settled_nowhere : (c : ReadyCode) (s : CodeState ⊤) (i : ℕ) (instruction : Instruction) (stack : List Value) (k : Completion ⊤) → state_behind c s i instruction stack k ≡ None → settled forget_name c s i instruction stack k ≡ None
settled_nowhere c s i instruction stack k e = ap (option_and_then (to_next_piece forget_name c)) e

pub settled_stuck : (c : ReadyCode) (s : CodeState ⊤) (i : ℕ) (instruction : Instruction) (stack : List Value) (k : Completion ⊤) → k ≡ stuck → settled forget_name c s i instruction stack k ≡ None
settled_stuck c s i instruction stack k e = ap (settled forget_name c s i instruction stack) e

pub runs_behind : (r : Bool) (p q : HeldState) (c : ReadyCode) (s : CodeState ⊤) (i : ℕ) (instruction : Instruction) (stack : List Value) (k : Completion ⊤) → IsBehind true p s (state_behind c s i instruction stack k)
    → ((t : CodeState ⊤) → StandsAt p t → IsBehind r q t (to_next_piece forget_name c t)) → IsBehind r q s (settled forget_name c s i instruction stack k)
runs_behind r p q c s i instruction stack k h runs =
    behind_same r q s h.0 (to_next_piece forget_name c h.0) (settled forget_name c s i instruction stack k) (ap (option_and_then (to_next_piece forget_name c)) h.1) h.2 (runs h.0 h.3)

-- from what an instruction of the frame comes to
pub settles_by : (r : Option Outcome) (x : Option model.Outcome) (f : HeldFrame) (stack : List Value) (k : Completion ⊤) → option_map outcome_view r ≡ x → Completes x f k → Settles r f stack (leaving stack k)
settles_by None x f stack k e h = let h' : Completes None f k = subst (λ x. Completes x f k) (sym e) h in h'
settles_by (Some o) x f stack k e h =
    let h' : Completes (Some (outcome_view o)) f k = subst (λ x. Completes x f k) (sym e) h in (h'.0, ap (leaving stack) h'.1, h'.2)

-- what the front of a work list leaves
pub item_behind : (c : ReadyCode) (s : CodeState ⊤) (at : ℕ) (a : CellAction ⊤) (n : AnItemComes c s) (p : HeldState) → s.position ≡ p.position → s.stack ≡ on_stack p.stack
    → Stays p.frame (work_done n.item a (record (counted_action s.frame) { work = n.work })) → IsBehind true p s (code_answered forget_name c s at a)
item_behind c s at a n p position stack h = (
  record s { frame = h.0 },
  ap (settle_next forget_name c s at a) n.is ∙ ap (worked s) h.1,
  refl,
  record { position = position; stack = stack; frame = h.2 },
)

-- what the action of a piece leaves
pub action_behind : (c : ReadyCode) (s : CodeState ⊤) (piece : Piece) (m : Met) (at : ℕ) (a : CellAction ⊤) (before : List Value) (r : Bool) (p : HeldState) → code_next c s ≡ an_action piece m → stack_before_action c piece s.frame.variables s.stack ≡ Some before
    → IsBehind r p s (settled forget_name c s m.index m.instruction (code_settles forget_name c m.instruction before at a (counted_action (counted_if piece.has_step s.frame))).stack (code_settles forget_name c m.instruction before at a (counted_action (counted_if piece.has_step s.frame))).completion)
    → IsBehind r p s (code_answered forget_name c s at a)
action_behind c s piece m at a before r p is there h =
    let e : Effect ⊤ = code_settles forget_name c m.instruction before at a (counted_action (counted_if piece.has_step s.frame)) in
    behind_same r p s s (settled forget_name c s m.index m.instruction e.stack e.completion) (code_answered forget_name c s at a) (ap (settle_next forget_name c s at a) is ∙ ap (option_and_then (settled_action forget_name c s piece m at a)) there) refl h

pub no_operands : (c : ReadyCode) (s : CodeState ⊤) (piece : Piece) (m : Met) (at : ℕ) (a : CellAction ⊤) → code_next c s ≡ an_action piece m → stack_before_action c piece s.frame.variables s.stack ≡ None → code_answered forget_name c s at a ≡ None
no_operands c s piece m at a is none = ap (settle_next forget_name c s at a) is ∙ ap (option_and_then (settled_action forget_name c s piece m at a)) none

-- what the answer of the open call leaves
pub reply_behind : (c : ReadyCode) (s : CodeState ⊤) (call : ℕ) (m : Met) (at : ℕ) (a : CellAction ⊤) (r : Bool) (p : HeldState) → code_next c s ≡ a_reply call m.index m.instruction
    → IsBehind r p s (settled forget_name c s m.index m.instruction s.stack (code_hears m.instruction call a (counted_action s.frame))) → IsBehind r p s (code_answered forget_name c s at a)
reply_behind c s call m at a r p is h =
    behind_same r p s s (settled forget_name c s m.index m.instruction s.stack (code_hears m.instruction call a (counted_action s.frame))) (code_answered forget_name c s at a) (ap (settle_next forget_name c s at a) is) refl h

-- on from an outcome
pub goes_behind : (r : Bool) (o : Outcome) (f : HeldFrame) (stack : List Value) (p q : HeldState) (c : ReadyCode) (s : CodeState ⊤) (i : ℕ) (instruction : Instruction) (e : Effect ⊤) → Settles (Some o) f stack e
    → ((b : Frame ⊤) → Stands f b → IsBehind true p s (state_behind c s i instruction stack (goes (outcome_view o) b)))
    → ((t : CodeState ⊤) → StandsAt p t → IsBehind r q t (to_next_piece forget_name c t)) → IsBehind r q s (settled forget_name c s i instruction e.stack e.completion)
goes_behind r o f stack p q c s i instruction e h leads runs =
    subst (λ (e : Effect ⊤). IsBehind r q s (settled forget_name c s i instruction e.stack e.completion)) (sym h.1) (runs_behind r p q c s i instruction stack (goes (outcome_view o) h.0) (leads h.0 h.2) runs)

pub goes_nowhere : (o : Outcome) (f : HeldFrame) (stack : List Value) (c : ReadyCode) (s : CodeState ⊤) (i : ℕ) (instruction : Instruction) (e : Effect ⊤) → Settles (Some o) f stack e
    → ((b : Frame ⊤) → Stands f b → state_behind c s i instruction stack (goes (outcome_view o) b) ≡ None) → settled forget_name c s i instruction e.stack e.completion ≡ None
goes_nowhere o f stack c s i instruction e h leads =
    subst (λ (e : Effect ⊤). settled forget_name c s i instruction e.stack e.completion ≡ None) (sym h.1) (settled_nowhere c s i instruction stack (goes (outcome_view o) h.0) (leads h.0 h.2))
