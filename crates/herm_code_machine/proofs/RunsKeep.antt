-- What each instruction keeps of a state, a run to the next piece keeps too.
use Rattle.std.proofs.Common.{◌≡◌, ℕ, zero, suc, List, [], Bool, true, false, cond, Option, Some, None, option_and_then, refl, subst, ◌∙◌}
use Rattle.std.specs.Prelude.{length}
use Rattle.herm_model.specs.Outcomes.{Outcome, ok, is_true, is_false, turn, done, component, arm, raised}
use Rattle.herm_model.specs.Targets
use Rattle.herm_model.specs.Values.{Value}
use Rattle.herm_model.proofs.Options.{none-not_some, some-injective, chain-some, map-some}
use Rattle.herm_forms.specs.Frames.{Name, Frame, Completion, goes, stays, stuck}
use Rattle.herm_forms.specs.EdgeFinalising.{arrive}
use Rattle.herm_instructions.specs.Instructions.{Instruction, End, EndBy}
use Rattle.herm_instructions.specs.Images.{instruction_at}
use Rattle.herm_code_machine.specs.ReadyCode.{ReadyCode}
use Rattle.herm_code_machine.specs.Effects.{effect}
use Rattle.herm_code_machine.specs.CodeStates.{Position, at_index, at_end, at_end_by, CodeState, leads, stack_after, state_behind, ended_at, done_instruction, begins_piece, on_by, on_from, run_on, to_next_piece}
use Rattle.herm_code_machine.specs.CodeSteps.{settled}

-- a completion's frame is so, if it has one
abbrev pub AllOf : {N : Type 0} → (Frame N → Type 0) → Completion N → Type 0
AllOf Is (goes o b) = Is b
AllOf Is (stays b) = Is b
AllOf Is stuck = Unit {0}

-- What stays so of frames and of stacks: of an empty stack, behind each instruction that is no action, and behind an end.
pub record KeepsFrames {N : Type 0} (name : Name → N) (c : ReadyCode) (On : List Value → Type 0) (Is : Frame N → Type 0) : Type 0 where
  pub empty : On []
  pub effects : (i : Instruction) (stack : List Value) (b : Frame N) → On stack → Is b → On (effect name c i stack b).stack × AllOf Is (effect name c i stack b).completion
  pub ends : (t : Targets.Target) (b : Frame N) → Is b → Is (arrive c.scope t b)

module _ {N : Type 0} (name : Name → N) (c : ReadyCode) (On : List Value → Type 0) (Is : Frame N → Type 0) (keeps : KeepsFrames name c On Is) where
  -- a state that is so, of the module of another one
  abbrev pub Stays : CodeState N → CodeState N → Type 0
  Stays s t = Is t.frame × On t.stack × (t.module_number ≡ s.module_number)

  behind-stack : (o : Outcome) (stack : List Value) → On stack → On (stack_after o stack)
  behind-stack ok stack h = h
  behind-stack is_true stack h = h
  behind-stack is_false stack h = h
  behind-stack turn stack h = h
  behind-stack done stack h = h
  behind-stack (component k) stack h = h
  behind-stack (arm n) stack h = h
  behind-stack (raised e) stack h = keeps.empty

  pub is-behind : (s t : CodeState N) (i : ℕ) (instruction : Instruction) (stack : List Value) (r : Completion N) → On stack → AllOf Is r → state_behind c s i instruction stack r ≡ Some t → Stays s t
  is-behind s t i instruction stack (goes o b) h e is =
      let m = map-some (λ j. record { module_number = s.module_number; position = at_index j; stack = stack_after o stack; frame = b }) (leads c i instruction o) t is in
      subst (Stays s) m.2 (e, behind-stack o stack h, refl)
  is-behind s t i instruction stack (stays b) h e is = subst (Stays s) (some-injective is) (e, h, refl)
  is-behind s t i instruction stack stuck h e is = none-not_some is

  is-end : (s t : CodeState N) (p : Position) (target : Targets.Target) → Is s.frame → Some (ended_at c s p target) ≡ Some t → Stays s t
  is-end s t p target e is = subst (Stays s) (some-injective is) (keeps.ends target s.frame e, keeps.empty, refl)

  by-effect : (s t : CodeState N) (i : ℕ) (instruction : Instruction) → Is s.frame → On s.stack
      → state_behind c s i instruction (effect name c instruction s.stack s.frame).stack (effect name c instruction s.stack s.frame).completion ≡ Some t → Stays s t
  by-effect s t i instruction e h is =
      let k = keeps.effects instruction s.stack s.frame h e in
      is-behind s t i instruction (effect name c instruction s.stack s.frame).stack (effect name c instruction s.stack s.frame).completion k.0 k.1 is

  is-done : (s t : CodeState N) (i : ℕ) (instruction : Instruction) → Is s.frame → On s.stack → done_instruction name c s i instruction ≡ Some t → Stays s t
  is-done s t i End e h is = is-end s t at_end Targets.end e is
  is-done s t i (EndBy x) e h is = is-end s t (at_end_by x) (Targets.end_by x) e is
  is-done s t i instruction e h is = by-effect s t i instruction e h is

  further : (s u t : CodeState N) → Stays s u → Stays u t → Stays s t
  further s u t h k = (k.0, k.1, k.2 ∙ h.2)

  on-cond : (next : CodeState N → Option (CodeState N)) → ((u t : CodeState N) → Is u.frame → On u.stack → next u ≡ Some t → Stays u t)
      → (s t : CodeState N) (i : ℕ) (instruction : Instruction) (begins : Bool) → Is s.frame → On s.stack
      → cond begins (Some s) (option_and_then next (done_instruction name c s i instruction)) ≡ Some t → Stays s t
  on-cond next on s t i instruction true e h is = subst (Stays s) (some-injective is) (e, h, refl)
  on-cond next on s t i instruction false e h is =
      let m = chain-some next (done_instruction name c s i instruction) t is in
      let k = is-done s m.0 i instruction e h m.1 in
      further s m.0 t k (on m.0 t k.0 k.1 m.2)

  on-by : (next : CodeState N → Option (CodeState N)) → ((u t : CodeState N) → Is u.frame → On u.stack → next u ≡ Some t → Stays u t)
      → (s t : CodeState N) (i : ℕ) (o : Option Instruction) → Is s.frame → On s.stack → on_by name c next s i o ≡ Some t → Stays s t
  on-by next on s t i None e h is = none-not_some is
  on-by next on s t i (Some instruction) e h is = on-cond next on s t i instruction (begins_piece c instruction) e h is

  on-from : (next : CodeState N → Option (CodeState N)) → ((u t : CodeState N) → Is u.frame → On u.stack → next u ≡ Some t → Stays u t)
      → (s t : CodeState N) (p : Position) → Is s.frame → On s.stack → on_from name c next s p ≡ Some t → Stays s t
  on-from next on s t (at_index i) e h is = on-by next on s t i (instruction_at c.code i) e h is
  on-from next on s t at_end e h is = subst (Stays s) (some-injective is) (e, h, refl)
  on-from next on s t (at_end_by x) e h is = subst (Stays s) (some-injective is) (e, h, refl)

  is-run : (n : ℕ) (s t : CodeState N) → Is s.frame → On s.stack → run_on name c n s ≡ Some t → Stays s t
  is-run zero s t e h is = none-not_some is
  is-run (suc n) s t e h is = on-from (run_on name c n) (is-run n) s t s.position e h is

  -- a run to the next piece
  pub is-next : (s t : CodeState N) → Is s.frame → On s.stack → to_next_piece name c s ≡ Some t → Stays s t
  is-next s t e h is = is-run (suc (length c.code.code)) s t e h is

  -- and what follows an action, up to the next piece
  pub is-settled : (s t : CodeState N) (i : ℕ) (instruction : Instruction) (stack : List Value) (r : Completion N) → On stack → AllOf Is r → settled name c s i instruction stack r ≡ Some t → Stays s t
  is-settled s t i instruction stack r h e is =
      let m = chain-some (to_next_piece name c) (state_behind c s i instruction stack r) t is in
      let k = is-behind s m.0 i instruction stack r h e m.1 in
      further s m.0 t k (is-next m.0 t k.0 k.1 m.2)
