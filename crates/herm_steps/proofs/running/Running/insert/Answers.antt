use Rattle.std.proofs.Common.{List, refl, sym, ap, subst}
use Rattle.std.specs.Prelude.{⊤}
use Rattle.herm_journal.specs.Renaming.{forget_name}
use Rattle.herm_model.specs.Values.{Value}
use Rattle.herm_code_machine.specs.Effects.{effect}
use Rattle.herm_code_machine.specs.ReadyCode.{ReadyCode}
use Rattle.herm_forms.specs.Frames.{Frame}
use Rattle.herm_frames.specs.Completed.{Effects}
use Rattle.herm_frames.specs.Scopes.{IsOf, numbers_of}
use Rattle.herm_frames.specs.Standing.{Stands}
use Rattle.herm_frames.specs.declared.outcome.Outcome.{Outcome}
use Rattle.herm_instructions.specs.Instructions.{Insert}
use Rattle.herm_pieces.specs.View.{ready_view}
use Rattle.herm_stack.specs.Answers.{on_stack}
use Rattle.herm_steps.specs.HeldStates.{HeldState}
use Rattle.herm_types.specs.View.{path_view}
use Rattle.herm_steps.proofs.Done.{on_frame}
use Rattle.herm_steps.proofs.KeyTaken.{none_of, some_of}
use Rattle.herm_steps.proofs.running.Running.insert.Goals as goal

pub returns : goal.returns
returns c = record {
  performed = λ b h.
      let code = ready_view c.args.code.now in
      let i = Insert (path_view c.args.row.now) (path_view c.args.table.now) in
      let effects =
      some_of
      (λ (o : Outcome).
      (k : ReadyCode) (stack : List Value) (s : Frame ⊤) → IsOf c.args.code.now.types.now c.as_slice-of.result.now k → Stands c.self.inside.frame s → Effects o c.insert_row.new.self stack (effect forget_name k i stack s))
      c.in_ok-outcome.field-0 c.in-Some.outcome c.in-Some.is c.in_ok-outcome.ensures.effect in
      on_frame code i b _ _ c.insert_row.new.self c.in-Some.outcome c.self.view_is h
      (effects code (on_stack c.self.inside.stack) b (refl, ap numbers_of (sym c.as_slice-of.ensures.value)));
  refused = tt;
}

pub returns-in_default-clause-refused : goal.returns-in_default-clause-refused
returns-in_default-clause-refused c = λ b h keyed.
    none_of c.in_ok-outcome.field-0 c.in_default.is c.in_ok-outcome.ensures.none (ready_view c.args.code.now) b (refl, ap numbers_of (sym c.as_slice-of.ensures.value)) (subst (λ (p : HeldState). Stands p.frame b) (sym c.self.view_is) h) keyed.0 keyed.1
