use Rattle.std.proofs.Common.{map, subst, refl, Some}
use Rattle.herm_forms.specs.Frames.{drop, finalise_at_once}
use Rattle.herm_values.specs.View.{value_view}
use Rattle.herm_code.specs.View.{argument_view}
use Rattle.herm_code_machine.specs.CodeActions.{outs}
use Rattle.herm_frames.specs.Standing.{Stands}
use Rattle.herm_exchanges.proofs.Composed.{call_closed}
use Rattle.herm_exchanges.proofs.Replied.{nothing_kept}
use Rattle.herm_exchanges.proofs.calling.refused.Goals as goal

pub returns : goal.returns
returns c = record {
  settles = λ b k who h none e.
      let paths = outs (map argument_view c.args.arguments.now) in
      let closed = call_closed b c.close_call.new.self none (c.close_call.ensures.stands (record b { call = Some k }) h) in
      let finalised = c.in_ok-finalise_call.ensures.stands b who closed e in (
        drop paths (finalise_at_once (value_view c.args.message) b),
        refl,
        subst (λ ps. Stands c.drop_left.new.frame (drop ps (finalise_at_once (value_view c.args.message) b))) (nothing_kept paths) (c.in_ok-drop_left.ensures.stands (finalise_at_once (value_view c.args.message) b) finalised),
      );
}
