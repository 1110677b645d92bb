use Rattle.std.proofs.Common.{map, sym, subst, refl, Some, None}
use Rattle.herm_model.specs.Outcomes.{raised, disconnected}
use Rattle.herm_journal.specs.Actions.{hear}
use Rattle.herm_forms.specs.Frames.{drop}
use Rattle.herm_types.specs.View.{raise_decl_view}
use Rattle.herm_values.specs.View.{value_view}
use Rattle.herm_letters.specs.View.{reply_view}
use Rattle.herm_instructions.specs.Instructions.{Call}
use Rattle.herm_code.specs.View.{argument_view}
use Rattle.herm_code_machine.specs.CodeActions.{code_hears, outs}
use Rattle.herm_frames.specs.Completed.{outcome_view, Completes}
use Rattle.herm_exchanges.specs.Heard.{left_of, paths_at}
use Rattle.herm_exchanges.proofs.Replied.{gone_heard, raised_heard}
use Rattle.herm_exchanges.proofs.hearing.heard.Goals as goal

pub returns-in_ok-outcome-in-Raised : goal.returns-in_ok-outcome-in-Raised
returns-in_ok-outcome-in-Raised c = record {
  settles = λ s port call h.
      let args = map argument_view c.args.arguments.now in
      let keeps = map raise_decl_view c.args.keeps.now in
      let kept = c.kept_places-kept.result.now in
      let closed = c.close_call.ensures.stands s h in
      let dropped = c.in_ok-drop_left-in-Raised.ensures.stands _ closed in
      subst (λ r. Completes (outcome_view c.in_ok-outcome-in-Raised.outcome) c.put_kept.new.frame (code_hears (Call port args keeps) call (hear call (reply_view r)) s)) (sym c.in-Raised.is)
      (raised_heard args keeps port call s c.in-Raised.e.0 (map value_view c.in-Raised.values.items) kept c.put_kept.new.frame (outcome_view c.in_ok-outcome-in-Raised.outcome) c.kept_places-kept.ensures.places
      (c.in_ok-outcome-in-Raised.ensures.settles (drop (left_of (paths_at args kept) (outs args)) (record s { call = None })) (raised c.in-Raised.e.0) dropped refl));
}

pub returns-in_ok-drop_left-in-Gone : goal.returns-in_ok-drop_left-in-Gone
returns-in_ok-drop_left-in-Gone c = record {
  settles = λ s port call h.
      let args = map argument_view c.args.arguments.now in
      let keeps = map raise_decl_view c.args.keeps.now in
      subst (λ r. Completes (Some (raised disconnected)) c.drop_left-in-Gone.new.frame (code_hears (Call port args keeps) call (hear call (reply_view r)) s)) (sym c.in-Gone.is)
      (gone_heard args keeps port call s c.drop_left-in-Gone.new.frame (c.in_ok-drop_left-in-Gone.ensures.stands (record s { call = None }) (c.close_call.ensures.stands s h)));
}
