use Rattle.std.proofs.Common.{sym, subst}
use Rattle.herm_forms.specs.Frames.{cleared}
use Rattle.herm_types.specs.View.{path_view}
use Rattle.herm_frames.specs.Standing.{Stands}
use Rattle.herm_frames.proofs.Stood.{drop_some}
use Rattle.herm_frames.proofs.frame.Frame.drop_at.Goals as goal

pub returns-clause-stands : goal.returns-clause-stands
returns-clause-stands c s h =
    let p = path_view c.args.path.now in
    subst (λ b. Stands c.finalise.new.self b) (sym (drop_some s p _ (c.in-Some.ensures.taken s h))) (c.in_ok-finalise.ensures.stands (cleared p s) (c.take_out.ensures.stands s h))
