use Rattle.std.proofs.Common.{◌≡◌, ◌<◌, false, map, length, refl, sym, ap, subst, ◌∙◌}
use Rattle.std.specs.Prelude.{IfNone}
use Rattle.herm_model.proofs.Lists.{length-map}
use Rattle.herm_model.proofs.Options.{some-injective}
use Rattle.herm_journal.specs.Actions.{hear}
use Rattle.herm_journal.specs.Renaming.{forget_name}
use Rattle.herm_letters.specs.View.{reply_view}
use Rattle.herm_forms.specs.Frames.{counted_action}
use Rattle.herm_code.specs.View.{argument_view, instr_view}
use Rattle.herm_types.specs.View.{raise_decl_view}
use Rattle.herm_instructions.specs.Instructions.{Call}
use Rattle.herm_code_machine.specs.CodeActions.{code_hears}
use Rattle.herm_code_machine.specs.CodeSteps.{settle_next, settled}
use Rattle.herm_code_machine.specs.Stacks.{leaving}
use Rattle.herm_frames.specs.Completed.{Completes, outcome_view}
use Rattle.herm_frames.specs.Standing.{Stands}
use Rattle.herm_pieces.specs.View.{met_view, ready_view}
use Rattle.herm_stack.specs.Answers.{on_stack}
use Rattle.herm_steps.specs.Behind.{IsBehind}
use Rattle.herm_answers.specs.Calling.{is_call}
use Rattle.herm_answers.proofs.Behind.{reply_behind, settled_stuck, settles_by}
use Rattle.herm_answers.proofs.Comes.{reply_comes}
use Rattle.herm_answers.proofs.Heard.{not_hearing}
use Rattle.herm_answers.proofs.hearing.was_heard.Goals as goal

pub returns-in_default : goal.returns-in_default
returns-in_default c = record {
  answered = λ s at call h e opened.
      let code = ready_view c.args.code.now in
      let met = met_view c.args.met in
      let a = hear call (reply_view c.args.reply) in
      let n = reply_comes code s met e in
      let other : is_call met.instruction ≡ false = subst (λ o. IfNone o (is_call met.instruction ≡ false)) c.in_default.is c.call_of.ensures.other in
      ap (settle_next forget_name code s at a) n.is ∙ settled_stuck code s met.index met.instruction s.stack (code_hears met.instruction n.call a (counted_action s.frame)) (not_hearing met.instruction n.call a (counted_action s.frame) other);
}

pub returns : goal.returns
returns c = record {
  answered = λ s at call h e opened.
      let code = ready_view c.args.code.now in
      let met = met_view c.args.met in
      let a = hear call (reply_view c.args.reply) in
      let n = reply_comes code s met e in
      let p = c.process.inside in
      let held : Stands p.frame s.frame = subst (λ q. Stands q.frame s.frame) (sym c.process.view_is) h.frame in
      let stack : s.stack ≡ on_stack p.stack = h.stack ∙ ap (λ q. on_stack q.stack) (sym c.process.view_is) in
      let counted = counted_action s.frame in
      let k = c.in-Some.ensures.call in
      let same : call ≡ n.call = some-injective (sym opened ∙ n.opened) in
      let o = outcome_view c.in_ok-outcome.outcome in
      let f = c.heard.new.frame in
      let given : Completes o f (code_hears (Call k.0 (map argument_view c.in-Some.arguments.now) (map raise_decl_view c.in-Some.keeps.now)) call a counted) = c.in_ok-outcome.ensures.settles counted k.0 call (c.count_action.ensures.stands s.frame held) in
      let hears : Completes o f (code_hears met.instruction n.call a counted) = subst (λ i. Completes o f (code_hears i n.call a counted)) (sym k.1) (subst (λ m. Completes o f (code_hears (Call k.0 (map argument_view c.in-Some.arguments.now) (map raise_decl_view c.in-Some.keeps.now)) m a counted)) same given) in
      let settles = settles_by c.outcome_of-outcome.result o f (on_stack p.stack) (code_hears met.instruction n.call a counted) c.outcome_of-outcome.ensures.outcome hears in
      let within : c.args.met.index < length c.args.code.now.code.now.code.items = subst (λ l. c.args.met.index < l) (length-map instr_view c.args.code.now.code.now.code.items) n.within in
      reply_behind code s n.call met at a c.in_ok-runs.runs c.go_on.new.process n.is
      (subst (λ l. IsBehind c.in_ok-runs.runs c.go_on.new.process s (settled forget_name code s met.index met.instruction l (code_hears met.instruction n.call a counted))) (sym stack)
      (c.in_ok-runs.ensures.settled s (leaving (on_stack p.stack) (code_hears met.instruction n.call a counted)) settles within));
}
