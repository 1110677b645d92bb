-- What the standing of a sound state without names says of its want, its end and its actions; and what is told of a want.
use Rattle.std.proofs.Common.{◌≡◌, ap₂, inl, inr, ℕ, ◌<◌, [], ◌∷◌, Bool, true, false, nat_lt, Option, Some, None, option_and_then, refl, sym, ap, subst, ◌∙◌, arith}
use Rattle.std.proofs.lemmas.Bool.Decides.{nat_tests}
use Rattle.std.specs.Prelude.{⊤}
use Rattle.herm_model.specs.Values.{Value}
use Rattle.herm_model.proofs.Options.{none-not_some, chain-some}
use Rattle.herm_journal.specs.Actions.{new_port, new_process, to_put, to_take, to_close, to_answer, to_hear}
use Rattle.herm_journal.specs.Messages.{CellReply, CellWant}
use Rattle.herm_journal.specs.Renaming.{forget_name}
use Rattle.herm_forms.specs.Frames.{Frame}
use Rattle.herm_system.specs.Machines.{local, acting, to_act, greatest_actions}
use Rattle.herm_instructions.specs.Images.{Image}
use Rattle.herm_code_machine.specs.CodeInstance.{code_at, ready_if}
use Rattle.herm_code_machine.specs.CodeStates.{CodeState}
use Rattle.herm_code_machine.specs.CodeSteps.{CodeNext, an_item, a_reply, an_action, a_local_piece, nothing, call_or_piece, code_next, code_wanted, item_or, ready_for, wanted_next, within_steps}
use Rattle.herm_code_machine.specs.Pieces.{Piece}
use Rattle.herm_code_machine.specs.ReadyCode.{ReadyCode, labelled_image}
use Rattle.herm_exchanges.specs.Told.{Told, a_put, an_answer, told}
use Rattle.herm_steps.specs.Coming.{coming, ended_at}
use Rattle.herm_steps.specs.HeldStates.{HeldState}
use Rattle.herm_steps.specs.StandingAt.{StandsAt}
use Rattle.herm_machine.specs.Machines.{MachineState, IsAt, StandsFor, IsSoundState, code_of, end_of, nameless, IsPutWanted, IsAnswerWanted}

pub coded : (image : Image) (main : ℕ) (c : ReadyCode) (s : CodeState ⊤) → IsSoundState image main c s → code_at (labelled_image image main) s ≡ Some c
coded image main c s h = subst (λ (s : CodeState ⊤). code_at (labelled_image image main) s ≡ Some c) h.same h.code

-- no action stands as local
never-local : {A : Type 0} (b : Bool) → to_act b ≡ local → A
never-local true e = cc
never-local false e = cc

never-local_within : {A : Type 0} (has within b : Bool) → within_steps has within (to_act b) ≡ local → A
never-local_within true true b e = never-local b e
never-local_within true false b e = cc
never-local_within false within b e = never-local b e

abbrev IsIdle : ReadyCode → CodeState ⊤ → CodeNext ⊤ → Type 0
IsIdle c s n = (wanted_next forget_name c s n ≡ None) × (ended_at (coming n) s.position ≡ None)

local-idle : (c : ReadyCode) (limit : ℕ) (s : CodeState ⊤) (n : CodeNext ⊤) → ready_for limit s.frame n ≡ local → IsIdle c s n
local-idle c limit s (an_item item work) e = never-local (nat_lt s.frame.actions greatest_actions) e
local-idle c limit s (a_reply call i instruction) e = never-local (nat_lt s.frame.actions greatest_actions) e
local-idle c limit s (an_action p m) e = never-local_within p.has_step (nat_lt s.frame.steps limit) (nat_lt s.frame.actions greatest_actions) e
local-idle c limit s (a_local_piece p) e = (refl, refl)
local-idle c limit s nothing e = cc

-- where a local step is next nothing is wanted, and it has not ended
pub local-wants_nothing : (image : Image) (main limit : ℕ) (c : ReadyCode) (s : CodeState ⊤) → IsSoundState image main c s → (nameless image main).ready limit s ≡ local → ((nameless image main).wanted s ≡ None) × (end_of c s ≡ None)
local-wants_nothing image main limit c s h e =
    let at = coded image main c s h in
    let r = local-idle c limit s (code_next c s) (sym (ap (ready_if limit s) at) ∙ e) in
    (ap (option_and_then (λ c. code_wanted forget_name c s)) at ∙ r.0, r.1)

acts-below : (b : Bool) → to_act b ≡ acting → b ≡ true
acts-below true e = refl
acts-below false e = cc

acts-below_within : (has within b : Bool) → within_steps has within (to_act b) ≡ acting → b ≡ true
acts-below_within true true b e = acts-below b e
acts-below_within true false b e = cc
acts-below_within false within b e = acts-below b e

never-acting : {A : Type 0} (has within : Bool) → within_steps has within local ≡ acting → A
never-acting true true e = cc
never-acting true false e = cc
never-acting false within e = cc

acting-below : (limit : ℕ) (b : Frame ⊤) (n : CodeNext ⊤) → ready_for limit b n ≡ acting → nat_lt b.actions greatest_actions ≡ true
acting-below limit b (an_item item work) e = acts-below (nat_lt b.actions greatest_actions) e
acting-below limit b (a_reply call i instruction) e = acts-below (nat_lt b.actions greatest_actions) e
acting-below limit b (an_action p m) e = acts-below_within p.has_step (nat_lt b.steps limit) (nat_lt b.actions greatest_actions) e
acting-below limit b (a_local_piece p) e = never-acting p.has_step (nat_lt b.steps limit) e
acting-below limit b nothing e = cc

-- where an action is next, one is left
pub acting-left : (image : Image) (main limit : ℕ) (c : ReadyCode) (s : CodeState ⊤) → IsSoundState image main c s → (nameless image main).ready limit s ≡ acting → s.frame.actions < greatest_actions
acting-left image main limit c s h e =
    let below = acting-below limit s.frame (code_next c s) (sym (ap (ready_if limit s) (coded image main c s h)) ∙ e) in grind (arith, nat_tests, below)

-- the want that is told of
pub told-want : (o : Option (CellWant ⊤)) (t : Told) → Some t ≡ option_and_then told o → (w : CellWant ⊤) × (o ≡ Some w) × (told w ≡ Some t)
told-want o t e = chain-some told o t (sym e)

-- an option of a want, with its type
abbrev pub some_want : CellWant ⊤ → Option (CellWant ⊤)
some_want w = Some w

pub put-told : (w : CellWant ⊤) (p : ℕ) → told w ≡ Some (a_put p) → (m : Value) × (w ≡ to_put p m)
put-told new_port p e = cc
put-told (new_process code) p e = cc
put-told (to_put n m) p e = (m, ap (λ k. to_put k m) (port e))
  where
    port_in : Option Told → ℕ
    port_in (Some (a_put n)) = n
    port_in o = 0

    port : Some (a_put n) ≡ Some (a_put p) → n ≡ p
    port e = ap (λ o. port_in o) e
put-told (to_take []) p e = cc
put-told (to_take (n ∷ ns)) p e = cc
put-told (to_close n) p e = cc
put-told (to_answer caller call r) p e = cc
put-told to_hear p e = cc

pub answer-told : (w : CellWant ⊤) (caller call : ℕ) → told w ≡ Some (an_answer caller call) → (r : CellReply ⊤) × (w ≡ to_answer caller call r)
answer-told new_port caller call e = cc
answer-told (new_process code) caller call e = cc
answer-told (to_put n m) caller call e = cc
answer-told (to_take []) caller call e = cc
answer-told (to_take (n ∷ ns)) caller call e = cc
answer-told (to_close n) caller call e = cc
answer-told (to_answer p k r) caller call e = (r, ap (λ (x : ℕ × ℕ). to_answer x.0 x.1 r) (both e))
  where
    both_in : Option Told → ℕ × ℕ
    both_in (Some (an_answer p k)) = (p, k)
    both_in o = (0, 0)

    both : Some (an_answer p k) ≡ Some (an_answer caller call) → ◌≡◌ {A = ℕ × ℕ} (p, k) (caller, call)
    both e = ap (λ o. both_in o) e
answer-told to_hear caller call e = cc

pub put-wanted : (o : Option (CellWant ⊤)) (p : ℕ) → Some (a_put p) ≡ option_and_then told o → IsPutWanted o
put-wanted o p e = let w = told-want o (a_put p) e in let m = put-told w.0 p w.2 in (p, m.0, w.1 ∙ ap some_want m.1)

pub answer-wanted : (o : Option (CellWant ⊤)) (caller call : ℕ) → Some (an_answer caller call) ≡ option_and_then told o → IsAnswerWanted o
answer-wanted o caller call e = let w = told-want o (an_answer caller call) e in let r = answer-told w.0 caller call w.2 in (caller, call, r.0, w.1 ∙ ap some_want r.1)

pub none-left : {X : Type 0} (o : Option X) → ((x : X) → o ≡ Some x → ⊥) → o ≡ None
none-left None h = refl
none-left (Some x) h = absurd (h x refl)

pub at-alive : (image : Image) (main : ℕ) (m : MachineState) (s : CodeState ⊤) → IsAt image main m s → m.is_dead ≡ false
at-alive image main m s (inl h) = h.alive
at-alive image main m s (inr h) = h.alive

pub at-sound : (image : Image) (main : ℕ) (m : MachineState) (s : CodeState ⊤) → IsAt image main m s → IsSoundState image main (code_of m) s
at-sound image main m s (inl h) = h.sound
at-sound image main m s (inr h) = h.sound

-- with no order out the process stands for the state
pub at-inside : (image : Image) (main : ℕ) (m : MachineState) (s : CodeState ⊤) → IsAt image main m s → m.order ≡ None → StandsFor image main m s
at-inside image main m s (inl h) none = h
at-inside image main m s (inr h) none = none-not_some (sym none ∙ h.order)

-- all states at which a process stands have the same next
next-same : (c : ReadyCode) (p : HeldState) (s t : CodeState ⊤) → StandsAt p s → StandsAt p t → code_next c s ≡ code_next c t
next-same c p s t h k = ap₂ item_or (h.frame.work ∙ sym k.frame.work) (ap₂ (call_or_piece c) (h.position ∙ sym k.position) (h.frame.call ∙ sym k.frame.call))

local-piece : (limit : ℕ) (b : Frame ⊤) (n : CodeNext ⊤) → ready_for limit b n ≡ local → (p : Piece) × (n ≡ a_local_piece p)
local-piece limit b (an_item item work) e = never-local (nat_lt b.actions greatest_actions) e
local-piece limit b (a_reply call i instruction) e = never-local (nat_lt b.actions greatest_actions) e
local-piece limit b (an_action p m) e = never-local_within p.has_step (nat_lt b.steps limit) (nat_lt b.actions greatest_actions) e
local-piece limit b (a_local_piece p) e = (p, refl)
local-piece limit b nothing e = cc

unwanted-inside : (image : Image) (main : ℕ) (m : MachineState) (s : CodeState ⊤) → IsAt image main m s → (nameless image main).wanted s ≡ None → m.order ≡ None
unwanted-inside image main m s (inl h) e = h.inside
unwanted-inside image main m s (inr h) e = none-not_some (sym (ap (option_and_then told) e) ∙ h.wanted)

-- where a local step is next at one state, nothing is wanted at any, and none has ended
pub steps-everywhere : (m : MachineState) (image0 : Image) (main0 limit : ℕ) (s0 : CodeState ⊤) → IsAt image0 main0 m s0 → (nameless image0 main0).ready limit s0 ≡ local
    → (image : Image) (main : ℕ) (s : CodeState ⊤) → IsAt image main m s → ((nameless image main).wanted s ≡ None) × (end_of (code_of m) s ≡ None)
steps-everywhere m image0 main0 limit s0 at0 e image main s at =
    let c = code_of m in
    let none = unwanted-inside image0 main0 m s0 at0 (local-wants_nothing image0 main0 limit c s0 (at-sound image0 main0 m s0 at0) e).0 in
    let h = at-inside image0 main0 m s0 at0 none in
    let k = at-inside image main m s at none in
    let p = local-piece limit s0.frame (code_next c s0) (sym (ap (ready_if limit s0) (coded image0 main0 c s0 h.sound)) ∙ e) in
    let n = next-same c m.held s s0 k.stands h.stands ∙ p.1 in
    (ap (option_and_then (λ c. code_wanted forget_name c s)) (coded image main c s k.sound) ∙ ap (wanted_next forget_name c s) n, ap (λ n. ended_at (coming n) s.position) n)
