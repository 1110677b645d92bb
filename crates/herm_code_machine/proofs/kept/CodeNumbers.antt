-- A process of code keeps its number and its module.
use Rattle.std.proofs.Common.{◌≡◌, ℕ, List, [], Bool, true, false, Some, refl, subst}
use Rattle.std.specs.Prelude.{⊤}
use Rattle.herm_model.specs.Values.{Cell, Value}
use Rattle.herm_model.proofs.Options.{none-not_some, some-injective, chain-some}
use Rattle.herm_journal.specs.Messages.{CellAction}
use Rattle.herm_forms.specs.Frames.{Name, Frame, Completion, goes, stays, stuck, counted_action}
use Rattle.herm_forms.specs.ClosesAndAnswers
use Rattle.herm_forms.proofs.KeptBodies.{LetsGo, IsKept}
use Rattle.herm_forms.proofs.KeptBodies
use Rattle.herm_code_machine.specs.ReadyCode.{ReadyCode}
use Rattle.herm_code_machine.specs.CodeActions.{code_settles, code_hears}
use Rattle.herm_code_machine.specs.CodeStates.{CodeState, at_index, first_frame, code_begin}
use Rattle.herm_code_machine.specs.Pieces.{stack_before_action}
use Rattle.herm_code_machine.specs.CodeSteps.{CodeNext, an_item, a_reply, an_action, a_local_piece, nothing, counted_if, step_next, worked, settled_action, settle_next, code_next, code_local_step, code_answered}
use Rattle.herm_code_machine.proofs.RunsKeep.{AllOf, KeepsFrames, is-next, is-settled}
use Rattle.herm_code_machine.proofs.kept.KeptEffects.{keeps-effect, keeps-settles, keeps-hears, as-all}

module _ {N : Type 0} (name : Name → N) (n : ℕ) where
  abbrev Is : Frame N → Type 0
  Is b = b.number ≡ n

  abbrev On : List Value → Type 0
  On stack = ⊤

  numbers : IsKept Is
  numbers = record { letting = record { value = λ c b e. e; parts = λ ps b e. e; name = λ m b e. e }; variables = λ ps b e. e; serial = λ s b e. e; calls = λ b e. e }

  keeps : (c : ReadyCode) → KeepsFrames name c On Is
  keeps c = record {
    empty = tt;
    effects = λ i stack b h e. (tt, keeps-effect name Is numbers (λ ls b e. e) c i stack b e);
    ends = λ t b e. KeptBodies.is-arrive name Is Is numbers (λ stay b e. e) c.scope t b e;
  }

  -- the number and the module that a state keeps
  abbrev pub Same : CodeState N → CodeState N → Type 0
  Same s t = Is t.frame × (t.module_number ≡ s.module_number)

  counted : (has_step : Bool) (b : Frame N) → Is b → Is (counted_if has_step b)
  counted true b e = e
  counted false b e = e

  is-step : (c : ReadyCode) (s t : CodeState N) (next : CodeNext N) → Is s.frame → step_next name c s next ≡ Some t → Same s t
  is-step c s t (a_local_piece p) e is =
      let k = is-next name c On Is (keeps c) (record { module_number = s.module_number; position = at_index p.first; stack = s.stack; frame = counted_if p.has_step s.frame }) t (counted p.has_step s.frame e) tt is in (k.0, k.2)
  is-step c s t _ e is = none-not_some is

  is-worked : (s t : CodeState N) (r : Completion N) → AllOf Is r → worked s r ≡ Some t → Same s t
  is-worked s t (stays b) e is = subst (Same s) (some-injective is) (e, refl)
  is-worked s t (goes o b) e is = none-not_some is
  is-worked s t stuck e is = none-not_some is

  is-answer : (c : ReadyCode) (s t : CodeState N) (at : ℕ) (a : CellAction N) (next : CodeNext N) → Is s.frame → settle_next name c s at a next ≡ Some t → Same s t
  is-answer c s t at a (an_item item work) e is =
      let b = counted_action (record (s.frame) { work = work }) in
      is-worked s t (ClosesAndAnswers.work_done item a b) (as-all name Is numbers (λ ls b e. e) (ClosesAndAnswers.work_done item a b) (KeptBodies.all-work Is numbers.letting item a b e)) is
  is-answer c s t at a (a_reply call i instruction) e is =
      let k = is-settled name c On Is (keeps c) s t i instruction s.stack (code_hears instruction call a (counted_action s.frame)) tt (keeps-hears name Is numbers (λ ls b e. e) instruction call a (counted_action s.frame) e) is in (k.0, k.2)
  is-answer c s t at a (an_action p m) e is =
      let r = chain-some (settled_action name c s p m at a) (stack_before_action c p s.frame.variables s.stack) t is in
      let b = counted_action (counted_if p.has_step s.frame) in
      let f = code_settles name c m.instruction r.0 at a b in
      let k = is-settled name c On Is (keeps c) s t m.index m.instruction f.stack f.completion tt (keeps-settles name Is numbers (λ ls b e. e) (λ call b e. e) c m.instruction r.0 at a b (counted p.has_step s.frame e)) r.2 in (k.0, k.2)
  is-answer c s t at a (a_local_piece p) e is = none-not_some is
  is-answer c s t at a nothing e is = none-not_some is

pub code-local-stays : {N : Type 0} (name : Name → N) (c : ReadyCode) (s t : CodeState N) → code_local_step name c s ≡ Some t → (t.frame.number ≡ s.frame.number) × (t.module_number ≡ s.module_number)
code-local-stays name c s t is = is-step name s.frame.number c s t (code_next c s) refl is

pub code-answer-stays : {N : Type 0} (name : Name → N) (c : ReadyCode) (s t : CodeState N) (at : ℕ) (a : CellAction N) → code_answered name c s at a ≡ Some t → (t.frame.number ≡ s.frame.number) × (t.module_number ≡ s.module_number)
code-answer-stays name c s t at a is = is-answer name s.frame.number c s t at a (code_next c s) refl is

pub code-begins : {N : Type 0} (name : Name → N) (c : ReadyCode) (code number : ℕ) (port : Cell N) (x : CodeState N) → code_begin name c code number port ≡ Some x → (x.frame.number ≡ number) × (x.module_number ≡ code)
code-begins name c code number port x is =
    let k = is-next name c (On name number) (Is name number) (keeps name number c) (record { module_number = code; position = at_index 0; stack = []; frame = first_frame c.scope.variables number port }) x refl tt is in (k.0, k.2)
