-- What an instruction comes to, and where the process is behind it.
use Rattle.std.proofs.Common.{◌≡◌, ℕ, List, [], ◌∷◌, true, false, Bool, Option, Some, None, slice_get, refl, sym, ap, subst, ◌∙◌}
use Rattle.std.specs.Prelude.{⊤}
use Rattle.herm_journal.specs.Renaming.{forget_name}
use Rattle.herm_model.specs.Outcomes.{Outcome}
use Rattle.herm_model.specs.Values.{Value}
use Rattle.herm_forms.specs.Frames.{Frame, goes, stuck}
use Rattle.herm_instructions.specs.Instructions.{Instruction, End, EndBy}
use Rattle.herm_model.specs.Targets
use Rattle.herm_forms.specs.EdgeFinalising.{arrive}
use Rattle.herm_code_machine.specs.CodeStates.{CodeState, at_end, at_end_by, done_instruction, ended_at, state_behind}
use Rattle.herm_code_machine.specs.Effects.{effect}
use Rattle.herm_code_machine.specs.ReadyCode.{ReadyCode}
use Rattle.herm_code_machine.specs.Stacks.{Effect}
use Rattle.herm_frames.specs.Completed.{Completes, Effects, outcome_view}
use Rattle.herm_code.specs.View.{instr_view}
use Rattle.herm_code.specs.declared.instr.Instr.{Instr}
use Rattle.herm_frames.specs.HeldFrames.{HeldFrame}
use Rattle.herm_frames.specs.declared.outcome.Outcome as code
use Rattle.herm_frames.specs.Standing.{Stands}
use Rattle.herm_stack.specs.Answers.{effect_of, on_stack, IsLetGo}
use Rattle.herm_stack.specs.declared.answers.Completion.{Completion}
use Rattle.herm_values.specs.View.{value_view}
use Rattle.herm_values.specs.declared.value.Value as held
use Rattle.herm_steps.specs.Behind.{IsBehind}
use Rattle.herm_steps.specs.HeldStates.{HeldState}
use Rattle.herm_steps.specs.Kinds.{is_ending, is_holding, is_looping, is_placing, is_sizing, is_tabular}
use Rattle.herm_steps.specs.Coming.{end_position, end_view}
use Rattle.herm_steps.specs.KindsOfCode.{IsEndOf, IsRare}
use Rattle.herm_steps.specs.StandingAt.{StandsAt}
use Rattle.herm_steps.specs.declared.kinds.Rare.{Rare}
use Rattle.herm_steps.specs.declared.kinds.Rare.TheVariants as rares
use Rattle.herm_steps.specs.Performed.{Leaves, Performs, behind_effect}
use Rattle.herm_steps.specs.declared.running.End.{End as Ended}
use Rattle.herm_steps.specs.declared.running.End.TheVariants as ends

pub differ : true ≡ false → ⊥
differ e = let k : ⊥ = cc in k

-- an instruction that is no end does its effect
pub by_effect : (c : ReadyCode) (s : CodeState ⊤) (i : ℕ) (instruction : Instruction) → is_ending instruction ≡ false → done_instruction forget_name c s i instruction ≡ behind_effect c s i instruction (effect forget_name c instruction s.stack s.frame)
by_effect c s i End no_end = absurd (differ no_end)
by_effect c s i (EndBy e) no_end = absurd (differ no_end)
by_effect c s i instruction no_end = refl

-- only an end is one
abbrev pub no_end : Instruction → Type 0
no_end i = is_ending i ≡ false

pub other_than_end : (of : Instruction → Bool) → of End ≡ false → ((e : ℕ) → of (EndBy e) ≡ false) → (i : Instruction) → of i ≡ true → no_end i
other_than_end of at by End h = absurd (differ (sym h ∙ at))
other_than_end of at by (EndBy e) h = absurd (differ (sym h ∙ by e))
other_than_end of at by i h = refl

pub rare_is_no_end : (r : Rare) (i : Instruction) → IsRare r i → no_end i
rare_is_no_end rares.Sizing i h = other_than_end is_sizing refl (λ e. refl) i h
rare_is_no_end (rares.Applying o) i h = ap is_ending h
rare_is_no_end rares.Telling i h = ap is_ending h
rare_is_no_end rares.Joining i h = ap is_ending h
rare_is_no_end rares.Placing i h = other_than_end is_placing refl (λ e. refl) i h
rare_is_no_end rares.Holding i h = other_than_end is_holding refl (λ e. refl) i h
rare_is_no_end rares.Tabular i h = other_than_end is_tabular refl (λ e. refl) i h
rare_is_no_end rares.Looping i h = other_than_end is_looping refl (λ e. refl) i h
rare_is_no_end rares.Other i h = h.1

-- an instruction that is no end is done by its effect
pub done_by : (c : ReadyCode) (s : CodeState ⊤) (n : ℕ) (i : Instruction) (o : code.Outcome) (old mid new : HeldState) (r : Bool) → no_end i → StandsAt old s
    → ((b : Frame ⊤) → Stands old.frame b → Performs o mid (effect forget_name c i (on_stack old.stack) b))
    → ((e : Effect ⊤) → Performs o mid e → IsBehind r new s (behind_effect c s n i e))
    → IsBehind r new s (done_instruction forget_name c s n i)
done_by c s n i o old mid new r not_end h performed behind =
    let e = effect forget_name c i s.stack s.frame in
    subst (IsBehind r new s) (sym (by_effect c s n i not_end)) (behind e (subst (λ vs. Performs o mid (effect forget_name c i vs s.frame)) (sym h.stack) (performed s.frame h.frame)))

-- what is said of an effect on the frame holds of the process
leaves : (o : Option Outcome) (p : HeldState) (e : Effect ⊤) → e.stack ≡ on_stack p.stack → Completes o p.frame e.completion → Leaves o p e
leaves None p e stack h = h
leaves (Some o) p e stack h = (stack, h)

pub performs : (o : code.Outcome) (p : HeldState) (e : Effect ⊤) → Effects o p.frame (on_stack p.stack) e → Performs o p e
performs o p e h = leaves (outcome_view o) p e h.0 h.1

-- the process with another frame, with another stack
abbrev pub with_frame : HeldState → HeldFrame → HeldState
with_frame p f = record { position = p.position; stack = p.stack; frame = f }

abbrev pub with_stack : HeldState → List held.Value → HeldState
with_stack p vs = record { position = p.position; stack = vs; frame = p.frame }

-- an instruction on the frame alone
pub on_frame : (c : ReadyCode) (i : Instruction) (b : Frame ⊤) (old now : HeldState) (f : HeldFrame) (o : code.Outcome) → old ≡ now → Stands now.frame b
    → (Stands old.frame b → Effects o f (on_stack old.stack) (effect forget_name c i (on_stack old.stack) b)) → Performs o (with_frame old f) (effect forget_name c i (on_stack now.stack) b)
on_frame c i b old now f o view h effects =
    subst (λ q. Performs o (with_frame old f) (effect forget_name c i (on_stack q.stack) b)) view
    (performs o (with_frame old f) (effect forget_name c i (on_stack old.stack) b) (effects (subst (λ q. Stands q.frame b) (sym view) h)))

pub by_frame : (c : ReadyCode) (x y : Instr) (b : Frame ⊤) (old now : HeldState) (f : HeldFrame) (o : code.Outcome) → x ≡ y → old ≡ now → Stands now.frame b
    → (Stands old.frame b → Effects o f (on_stack old.stack) (effect forget_name c (instr_view y) (on_stack old.stack) b)) → Performs o (with_frame old f) (effect forget_name c (instr_view x) (on_stack now.stack) b)
by_frame c x y b old now f o is view h effects =
    subst (λ i. Performs o (with_frame old f) (effect forget_name c (instr_view i) (on_stack now.stack) b)) (sym is) (on_frame c (instr_view y) b old now f o view h effects)

-- an instruction on the stack alone
pub by_stack : (c : ReadyCode) (i : Instruction) (b : Frame ⊤) (old now : HeldState) (vs : List held.Value) (o : code.Outcome) (d : Completion) → old ≡ now → Stands now.frame b
    → (Stands old.frame b → effect forget_name c i (on_stack old.stack) b ≡ effect_of d (on_stack vs) b) → (Stands old.frame b → Performs o (with_stack old vs) (effect_of d (on_stack vs) b))
    → Performs o (with_stack old vs) (effect forget_name c i (on_stack now.stack) b)
by_stack c i b old now vs o d view h is performs =
    let at = subst (λ q. Stands q.frame b) (sym view) h in
    subst (λ q. Performs o (with_stack old vs) (effect forget_name c i (on_stack q.stack) b)) view (subst (Performs o (with_stack old vs)) (sym (is at)) (performs at))

-- an instruction that takes the top
pub by_top : (c : ReadyCode) (i : Instruction) (b : Frame ⊤) (old now : HeldState) (v : held.Value) (vs : List held.Value) (f : HeldFrame) (o : code.Outcome) → old ≡ now → Stands now.frame b → old.stack ≡ v ∷ vs
    → (Stands old.frame b → Effects o f (on_stack vs) (effect forget_name c i (value_view v ∷ on_stack vs) b)) → Performs o (with_frame (with_stack old vs) f) (effect forget_name c i (on_stack now.stack) b)
by_top c i b old now v vs f o view h top effects =
    subst (λ q. Performs o (with_frame (with_stack old vs) f) (effect forget_name c i (on_stack q.stack) b)) view
    (subst (λ xs. Performs o (with_frame (with_stack old vs) f) (effect forget_name c i (on_stack xs) b)) (sym top)
    (performs o (with_frame (with_stack old vs) f) (effect forget_name c i (value_view v ∷ on_stack vs) b) (effects (subst (λ q. Stands q.frame b) (sym view) h))))

-- an outcome that leads on
on_by_outcome : (c : ReadyCode) (s : CodeState ⊤) (i : ℕ) (instruction : Instruction) (e : Effect ⊤) (o : Outcome) (p q : HeldState) (r : Bool) → Leaves (Some o) p e
    → ((b : Frame ⊤) → Stands p.frame b → IsBehind r q s (state_behind c s i instruction (on_stack p.stack) (goes o b))) → IsBehind r q s (behind_effect c s i instruction e)
on_by_outcome c s i instruction e o p q r h led =
    subst (λ x. IsBehind r q s (state_behind c s i instruction x e.completion)) (sym h.0)
    (subst (λ x. IsBehind r q s (state_behind c s i instruction (on_stack p.stack) x)) (sym (h.1).1) (led (h.1).0 (h.1).2))

pub leads_by : (c : ReadyCode) (s : CodeState ⊤) (i : ℕ) (instruction : Instruction) (e : Effect ⊤) (o : Outcome) (d : code.Outcome) (p q : HeldState) (r : Bool) → Some o ≡ outcome_view d → Performs d p e
    → ((b : Frame ⊤) → Stands p.frame b → IsBehind r q s (state_behind c s i instruction (on_stack p.stack) (goes o b))) → IsBehind r q s (behind_effect c s i instruction e)
leads_by c s i instruction e o d p q r is h led = on_by_outcome c s i instruction e o p q r (subst (λ o. Leaves o p e) (sym is) h) led

pub stuck_by : (c : ReadyCode) (s : CodeState ⊤) (i : ℕ) (instruction : Instruction) (e : Effect ⊤) (d : code.Outcome) (p : HeldState) → None ≡ outcome_view d → Performs d p e → behind_effect c s i instruction e ≡ None
stuck_by c s i instruction e d p is h = ap (state_behind c s i instruction e.stack) (subst (λ o. Leaves o p e) (sym is) h)

-- an end
pub ended : (c : ReadyCode) (s : CodeState ⊤) (i : ℕ) (instruction : Instruction) (end : Ended) (p : HeldState) → IsEndOf end instruction → p.position ≡ end_position (end_view end) → on_stack p.stack ≡ []
    → Stands p.frame (arrive c.scope Targets.end s.frame) → ((e : ℕ) → Stands p.frame (arrive c.scope (Targets.end_by e) s.frame)) → IsBehind true p s (done_instruction forget_name c s i instruction)
ended c s i instruction ends.Normal p is at stack normal by =
    subst (λ x. IsBehind true p s (done_instruction forget_name c s i x)) (sym is) (ended_at c s at_end Targets.end, refl, refl, record { position = sym at; stack = sym stack; frame = normal })
ended c s i instruction (ends.By e) p is at stack normal by =
    subst (λ x. IsBehind true p s (done_instruction forget_name c s i x)) (sym is) (ended_at c s (at_end_by e.0) (Targets.end_by e.0), refl, refl, record { position = sym at; stack = sym stack; frame = by e.0 })

-- the top is what goes
pub top_gone : (gone : Bool) (stack new : List held.Value) (v : held.Value) → Some v ≡ slice_get stack 0 → IsLetGo gone stack new → stack ≡ v ∷ new
top_gone true stack new v top (w, is) = is ∙ ap (λ x. x ∷ new) (sym (first_same (top ∙ ap (λ s. slice_get s 0) is)))
  where
    first_same : Some v ≡ Some w → v ≡ w
    first_same e = cc
top_gone false stack new v top is = absurd (some_none (top ∙ ap (λ s. slice_get s 0) is))
  where
    some_none : Some v ≡ None → ⊥
    some_none e = cc
