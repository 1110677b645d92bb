use Rattle.std.proofs.Common.{ap, ◌∙◌}
use Rattle.herm_forms.specs.Excess.{excess_over_full}
use Rattle.herm_forms.specs.Frames.{drop}
use Rattle.herm_model.specs.Values.{cell_at, clear_at}
use Rattle.herm_types.specs.View.{path_view}
use Rattle.herm_frames.proofs.frame.Frame.take_full.Goals as goal

pub returns-clause-taken : goal.returns-clause-taken
returns-clause-taken c code s of h = c.take.ensures.taken (drop (excess_over_full code.scope (path_view c.args.source.now) s) s) (c.in_ok-drop_excess.ensures.stands code s of h)

pub returns-clause-stands : goal.returns-clause-stands
returns-clause-stands c code s of h = c.take.ensures.stands (drop (excess_over_full code.scope (path_view c.args.source.now) s) s) (c.in_ok-drop_excess.ensures.stands code s of h)

pub returns-clause-left : goal.returns-clause-left
returns-clause-left c code s of h = c.take.ensures.left ∙ ap (clear_at (path_view c.args.source.now)) (c.in_ok-drop_excess.ensures.left code s of h)

pub returns-clause-keyed : goal.returns-clause-keyed
returns-clause-keyed c code s of h = c.take.ensures.keyed ∙ ap (cell_at (path_view c.args.source.now)) (c.in_ok-drop_excess.ensures.left code s of h)
