use Rattle.std.proofs.Common.{length, sym, subst}
use Rattle.herm_forms.specs.Frames.{drop}
use Rattle.herm_frames.specs.EmptyPlaces.{variables_from}
use Rattle.herm_frames.specs.Standing.{Stands}
use Rattle.herm_frames.proofs.Ended.{all_left, as_many, ended_at, ended_by}
use Rattle.herm_frames.proofs.frame.Frame.end.Goals as goal

pub returns-clause-end : goal.returns-clause-end
returns-clause-end c code s of h =
    let n = length c.args.of.now in
    let mid = drop (variables_from 0 n) s in
    all_left _ mid _ _ _ _ (subst (λ f. Stands f mid) (sym c.self.view_is) (c.in_ok-drop_variables.ensures.stands s h)) c.in_ok-count.ensures.loops c.in_ok-count.ensures.waiting c.in_ok-count.ensures.count
    (ended_at code.scope s n (as_many code.scope.variables c.args.of.now of))

pub returns-clause-end_by : goal.returns-clause-end_by
returns-clause-end_by c code e s of h =
    let n = length c.args.of.now in
    let mid = drop (variables_from 0 n) s in
    all_left _ mid _ _ _ _ (subst (λ f. Stands f mid) (sym c.self.view_is) (c.in_ok-drop_variables.ensures.stands s h)) c.in_ok-count.ensures.loops c.in_ok-count.ensures.waiting c.in_ok-count.ensures.count
    (ended_by code.scope e s n (as_many code.scope.variables c.args.of.now of))
