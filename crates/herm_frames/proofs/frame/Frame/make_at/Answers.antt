use Rattle.std.proofs.Common.{suc, refl, sym, ap, subst, ◌∙◌}
use Rattle.herm_model.specs.Values.{put_at}
use Rattle.herm_places.specs.Held.{keyed_places}
use Rattle.herm_values.specs.Keyed.{keyed_view}
use Rattle.herm_frames.specs.HeldFrames.{HeldFrame}
use Rattle.herm_forms.specs.Frames.{putting}
use Rattle.herm_model.specs.Outcomes.{ok}
use Rattle.herm_types.specs.View.{path_view}
use Rattle.herm_frames.specs.Completed.{Completes, outcome_view}
use Rattle.herm_frames.proofs.frame.Frame.make_at.Goals as goal

pub returns-clause-making : goal.returns-clause-making
returns-clause-making c s k ps h is =
    let made = record s { serial = suc s.serial } in
    subst (λ v. Completes (outcome_view c.in_ok-r.r) c.put_at_end.new.self (putting (path_view c.args.target.now) ok v made)) is (c.in_ok-r.ensures.putting made ok (c.make_cell.ensures.stands s h) refl)

pub returns-clause-keyed : goal.returns-clause-keyed
returns-clause-keyed c = λ m is. c.in_ok-r.ensures.keyed m is ∙ ap (λ (f : HeldFrame). put_at (path_view c.args.target.now) (keyed_view c.args.v) (keyed_places f.variables)) c.make_cell.ensures.frame
