use Rattle.std.proofs.Common.{List, refl, sym, ap, subst}
use Rattle.std.specs.Prelude.{⊤}
use Rattle.herm_journal.specs.Renaming.{forget_name}
use Rattle.herm_model.specs.Values.{Scalar}
use Rattle.herm_code_machine.specs.ReadyCode.{ReadyCode}
use Rattle.herm_forms.specs.Acts.{key_at}
use Rattle.herm_forms.specs.Frames.{Completion, Frame}
use Rattle.herm_forms.specs.RemoveAndGet as rows
use Rattle.herm_frames.specs.Completed.{Completes, outcome_view}
use Rattle.herm_frames.specs.Scopes.{IsOf, numbers_of}
use Rattle.herm_frames.specs.Standing.{Stands}
use Rattle.herm_frames.specs.declared.outcome.Outcome.{Outcome}
use Rattle.herm_instructions.specs.Instructions.{Get}
use Rattle.herm_pieces.specs.View.{ready_view}
use Rattle.herm_steps.specs.HeldStates.{HeldState}
use Rattle.herm_types.specs.View.{path_view}
use Rattle.herm_values.specs.View.{key_view}
use Rattle.herm_steps.proofs.KeyTaken.{by_key, none_of, some_of}
use Rattle.herm_steps.proofs.running.Running.get.Goals as goal

pub returns : goal.returns
returns c = record {
  performed = λ b h.
      let code = ready_view c.args.code.now in
      let r = path_view c.args.target.now in
      let t = path_view c.args.table.now in
      let next : List Scalar → Completion ⊤ = λ k. rows.get forget_name (key_at code.scope t) k r t b in
      let completes =
      some_of
      (λ (o : Outcome).
      (k : ReadyCode) (s : Frame ⊤) → IsOf c.args.code.now.types.now c.as_slice-of.result.now k → Stands c.self.inside.frame s → Completes (outcome_view o) c.copy_row.new.self (rows.get forget_name (key_at k.scope t) (key_view c.in-Some.key.items) r t s))
      c.in_ok-outcome.field-0 c.in-Some-2.outcome c.in-Some-2.is c.in_ok-outcome.ensures.copied in
      by_key code (Get r t c.args.n) b c.args.n next _ _ c.take_key.new.self c.in_ok-key.field-0 c.self.view_is (λ stack. refl) (c.in_ok-key.ensures.key next) c.in-Some.key c.copy_row.new.self c.in-Some-2.outcome c.in-Some.is h
      (completes code b (refl, ap numbers_of (sym c.as_slice-of.ensures.value)));
  refused = tt;
}

pub returns-in_default-2-clause-refused : goal.returns-in_default-2-clause-refused
returns-in_default-2-clause-refused c = λ b h keyed.
    none_of c.in_ok-outcome.field-0 c.in_default-2.is c.in_ok-outcome.ensures.none (ready_view c.args.code.now) b (refl, ap numbers_of (sym c.as_slice-of.ensures.value)) (subst (λ (p : HeldState). Stands p.frame b) (sym c.self.view_is) h) keyed
