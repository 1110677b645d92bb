-- An instruction that takes its key from the stack.
use Rattle.std.proofs.Common.{◌≡◌, ℕ, List, Option, Some, None, option_map, Vec, Global, refl, sym, ap, subst, ◌∙◌}
use Rattle.std.specs.Prelude.{⊤, IfNone, IfSome}
use Rattle.herm_journal.specs.Renaming.{forget_name}
use Rattle.herm_model.specs.Values.{Scalar, Value}
use Rattle.herm_model.proofs.Options.{none-not_some}
use Rattle.herm_forms.specs.Frames.{Frame, Completion, stuck}
use Rattle.herm_instructions.specs.Instructions.{Instruction}
use Rattle.herm_code_machine.specs.Effects.{effect}
use Rattle.herm_code_machine.specs.ReadyCode.{ReadyCode}
use Rattle.herm_code_machine.specs.Stacks.{Effect, leaving, with_key, with_key_of}
use Rattle.herm_frames.specs.Completed.{Completes, outcome_view}
use Rattle.herm_frames.specs.HeldFrames.{HeldFrame}
use Rattle.herm_frames.specs.Standing.{Stands}
use Rattle.herm_frames.specs.declared.outcome.Outcome as code
use Rattle.herm_frames.specs.declared.outcome.Outcome.TheVariants as outcomes
use Rattle.herm_stack.specs.Answers.{on_stack}
use Rattle.herm_values.specs.View.{key_view}
use Rattle.herm_values.specs.declared.scalar.Scalar as keys
use Rattle.herm_values.specs.declared.value.Value as held
use Rattle.herm_steps.specs.HeldStates.{HeldState}
use Rattle.herm_steps.specs.Performed.{Performs}
use Rattle.herm_steps.proofs.Done.{performs, with_frame, with_stack}

-- what is said of an outcome, where there is one
pub some_of : {X : Type 0} (P : X → Type 0) (o : Option X) (x : X) → o ≡ Some x → IfSome o P → P x
some_of P o x is h = subst (λ o. IfSome o P) is h

-- and where there is none
pub none_of : {X : Type 0} {A : Type 0} (o : Option X) → o ≡ None → IfNone o A → A
none_of None is h = h
none_of (Some x) is h = none-not_some (sym is)

module _ (c : ReadyCode) (i : Instruction) (b : Frame ⊤) (n : ℕ) (next : List Scalar → Completion ⊤) (old now : HeldState) (vs : List held.Value) (r : Option (Vec keys.Scalar Global)) (view : old ≡ now)
    (is : (stack : List Value) → effect forget_name c i stack b ≡ with_key n next stack) (taken : with_key n next (on_stack old.stack) ≡ with_key_of next (on_stack vs) (option_map (λ (k : Vec keys.Scalar Global). key_view k.items) r)) where
  effect-is : effect forget_name c i (on_stack old.stack) b ≡ with_key_of next (on_stack vs) (option_map (λ (k : Vec keys.Scalar Global). key_view k.items) r)
  effect-is = is (on_stack old.stack) ∙ taken

  -- the key is there
  pub by_key : (key : Vec keys.Scalar Global) (f : HeldFrame) (o : code.Outcome) → r ≡ Some key → Stands now.frame b → (Stands old.frame b → Completes (outcome_view o) f (next (key_view key.items)))
      → Performs o (with_frame (with_stack old vs) f) (effect forget_name c i (on_stack now.stack) b)
  by_key key f o there h completes =
      let p = with_frame (with_stack old vs) f in
      let e : effect forget_name c i (on_stack old.stack) b ≡ leaving (on_stack vs) (next (key_view key.items)) =
      effect-is ∙ ap (λ r. with_key_of next (on_stack vs) (option_map (λ (k : Vec keys.Scalar Global). key_view k.items) r)) there in
      subst (λ q. Performs o p (effect forget_name c i (on_stack q.stack) b)) view
      (subst (Performs o p) (sym e) (performs o p (leaving (on_stack vs) (next (key_view key.items))) (refl, completes (subst (λ q. Stands q.frame b) (sym view) h))))

  -- it is not there
  pub by_no_key : (p : HeldState) → r ≡ None → Performs outcomes.Stuck p (effect forget_name c i (on_stack now.stack) b)
  by_no_key p none =
      subst (λ (q : HeldState). Performs outcomes.Stuck p (effect forget_name c i (on_stack q.stack) b)) view
      (ap (λ (e : Effect ⊤). e.completion) (effect-is ∙ ap (λ r. with_key_of next (on_stack vs) (option_map (λ (k : Vec keys.Scalar Global). key_view k.items) r)) none))
