use Rattle.std.proofs.Common.{refl, sym, ap}
use Rattle.herm_forms.specs.Frames.{if_there, cleared, finalise, goes}
use Rattle.herm_model.specs.Outcomes.{ok}
use Rattle.herm_types.specs.View.{path_view}
use Rattle.herm_values.specs.View.{value_view}
use Rattle.herm_frames.proofs.frame.Frame.discard.Goals as goal

pub returns-clause-effect : goal.returns-clause-effect
returns-clause-effect c code stack s h =
    let p = path_view c.args.source.now in
    (refl, (finalise (value_view c.in-Some.v) (cleared p s), ap (if_there (λ v. goes ok (finalise v (cleared p s)))) (sym (c.in-Some.ensures.taken s h)), c.in_ok-finalise.ensures.stands (cleared p s) (c.take_out.ensures.stands s h)))
