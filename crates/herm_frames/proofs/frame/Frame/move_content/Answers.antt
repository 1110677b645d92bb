use Rattle.std.proofs.Common.{refl}
use Rattle.herm_forms.specs.Frames.{finalise_name}
use Rattle.herm_model.specs.Outcomes.{ok}
use Rattle.herm_frames.proofs.frame.Frame.move_content.Goals as goal

pub returns-clause-moving : goal.returns-clause-moving
returns-clause-moving c s h = c.in_ok-r.ensures.putting (finalise_name tt s) ok (c.finalise_cell.ensures.stands s h) refl
