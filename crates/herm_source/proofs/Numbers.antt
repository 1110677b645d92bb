-- A process keeps its number and its module along local steps and answers.
use Rattle.std.proofs.Common.{◌≡◌, ℕ, Bool, true, false, cond, Option, Some, None, option_map, option_and_then, refl, sym, ap, ◌∙◌}
use Rattle.herm_model.specs.Nodes.{Node}
use Rattle.herm_model.specs.Targets.{Target}
use Rattle.herm_model.specs.Values.{Cell}
use Rattle.herm_model.proofs.Options.{none-not_some, some-injective, map-some}
use Rattle.herm_forms.specs.Frames.{Name, Frame, Completion, goes, stays, stuck, counted_step, counted_action}
use Rattle.herm_forms.specs.ClosesAndAnswers
use Rattle.herm_journal.specs.Messages.{CellAction}
use Rattle.herm_forms.specs.EdgeFinalising.{arrive}
use Rattle.herm_forms.specs.Modules.{Module}
use Rattle.herm_source.specs.States.{State, Next, an_item, a_reply, a_statement, nothing, next_of, state_after, step_next, settle_next, begin, local_step, answered}
use Rattle.herm_forms.specs.Acts.{is_action, act, settle, settle_reply, leads_to}
use Rattle.herm_forms.proofs.KeptBodies.{went, stayed, never}
use Rattle.herm_forms.proofs.KeptNumbers.{Is, All, is-arrive, all-act, all-work, all-settle, all-settle_reply}
use Rattle.herm_source.proofs.OpeningFrame.{opening_frame}

module _ {N : Type 0} (name : Name → N) (n : ℕ) where
  -- the state behind a result
  abbrev pub Stays : State N → State N → Type 0
  Stays s t = Is name n t.frame × (t.module_number ≡ s.module_number)

  behind-target : (c : Module) (s t : State N) (b : Frame N) (o : Option Target) → Is name n b → option_map (λ t. record { module_number = s.module_number; point = t; frame = arrive c t b }) o ≡ Some t → Stays s t
  behind-target c s t b o e is =
      let m = map-some (λ t. record { module_number = s.module_number; point = t; frame = arrive c t b }) o t is in
      (sym (ap (λ (x : State N). x.frame.number) m.2) ∙ is-arrive name n c m.0 b e, sym (ap (λ (x : State N). x.module_number) m.2))

  is-behind : (c : Module) (s t : State N) (at : Option Node) (r : Completion N) → All name n r → state_after c s at r ≡ Some t → Stays s t
  is-behind c s t at (goes o b) (went o' b' e) is = behind-target c s t b (option_and_then (λ n. leads_to c n o) at) e is
  is-behind c s t at (stays b) (stayed b' e) is = (sym (ap (λ (x : State N). x.frame.number) (some-injective is)) ∙ e, sym (ap (λ (x : State N). x.module_number) (some-injective is)))
  is-behind c s t at stuck never is = none-not_some is

  not-step : (c : Module) (s t : State N) (t' : Bool) (node : Node) → Is name n s.frame → cond t' None (state_after c s (Some node) (act name c node.number node.form (counted_step s.frame))) ≡ Some t → Stays s t
  not-step c s t true node e is = none-not_some is
  not-step c s t false node e is = is-behind c s t (Some node) (act name c node.number node.form (counted_step s.frame)) (all-act name n c node.number node.form (counted_step s.frame) e) is

  is-step_next : (c : Module) (s t : State N) (next : Next N) → Is name n s.frame → step_next name c s next ≡ Some t → Stays s t
  is-step_next c s t (a_statement node) e is = not-step c s t (is_action c node.form) node e is
  is-step_next c s t _ e is = none-not_some is

  is-settle_next : (c : Module) (s t : State N) (at : ℕ) (a : CellAction N) (next : Next N) → Is name n s.frame → settle_next name c s at a next ≡ Some t → Stays s t
  is-settle_next c s t at a (an_item item work) e is = is-behind c s t None (ClosesAndAnswers.work_done item a (counted_action (record (s.frame) { work = work }))) (all-work name n item a (counted_action (record (s.frame) { work = work })) e) is
  is-settle_next c s t at a (a_reply call node) e is = is-behind c s t (Some node) (settle_reply c node.form call a (counted_action s.frame)) (all-settle_reply name n c node.form call a (counted_action s.frame) e) is
  is-settle_next c s t at a (a_statement node) e is = is-behind c s t (Some node) (settle name c node.form at a (counted_action (counted_step s.frame))) (all-settle name n c node.form at a (counted_action (counted_step s.frame)) e) is
  is-settle_next c s t at a nothing e is = none-not_some is

pub local-stays : {N : Type 0} (name : Name → N) (c : Module) (s t : State N) → local_step name c s ≡ Some t → (t.frame.number ≡ s.frame.number) × (t.module_number ≡ s.module_number)
local-stays name c s t is = is-step_next name s.frame.number c s t (next_of c s) refl is

pub answer-stays : {N : Type 0} (name : Name → N) (c : Module) (s t : State N) (at : ℕ) (a : CellAction N) → answered name c s at a ≡ Some t → (t.frame.number ≡ s.frame.number) × (t.module_number ≡ s.module_number)
answer-stays name c s t at a is = is-settle_next name s.frame.number c s t at a (next_of c s) refl is

pub begin-number : {N : Type 0} (name : Name → N) (c : Module) (code number : ℕ) (port : Cell N) → (begin c code number port).frame.number ≡ number
begin-number name c code number port =
    is-arrive name number c c.entry
    (opening_frame c number port)
    refl
