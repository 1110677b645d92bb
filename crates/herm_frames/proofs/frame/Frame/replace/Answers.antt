use Rattle.std.proofs.Common.{sym, subst, ◌∙◌}
use Rattle.herm_types.specs.View.{path_view}
use Rattle.herm_values.specs.View.{value_view}
use Rattle.herm_frames.specs.Standing.{Stands}
use Rattle.herm_frames.proofs.PlainCells.{put_over_plain}
use Rattle.herm_frames.proofs.frame.Frame.replace.Goals as goal

pub returns-in-Ok-true-clause-stands : goal.returns-in-Ok-true-clause-stands
returns-in-Ok-true-clause-stands c = λ s h.
    put_over_plain _ s c.replace.new.self (path_view c.args.path.now) (value_view c.args.v) c.finalise_cell.new.self (subst (λ f. Stands f s) (sym c.self.view_is) h)
    (sym c.in-Ok-true.field-0-test ∙ c.in-Ok-true.ensures.held) c.in-Ok-true.ensures.plain c.in-Ok-true.ensures.put_seen (λ t st. c.finalise_cell.ensures.stands t st)
