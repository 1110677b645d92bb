use Rattle.std.proofs.Common.{suc, ◌+◌, refl, sym, ap, subst}
use Rattle.herm_forms.specs.Frames.{putting}
use Rattle.herm_model.specs.Outcomes.{ok}
use Rattle.herm_model.specs.CellNames.{count}
use Rattle.herm_types.specs.View.{path_view}
use Rattle.herm_values.specs.View.{value_view}
use Rattle.herm_frames.specs.Completed.{Completes, outcome_view}
use Rattle.herm_frames.proofs.Moved.{copied_own}
use Rattle.herm_frames.proofs.frame.Frame.store.Goals as goal

pub returns-clause-effect : goal.returns-clause-effect
returns-clause-effect c code rest s h =
    let made = record s { serial = s.serial + count (value_view c.args.v) } in
    (refl, subst (λ v. Completes (outcome_view c.in_ok-r.r) c.put_at_end.new.self (putting (path_view c.args.target.now) ok v made)) (sym (copied_own s.serial (value_view c.args.v))) (c.in_ok-r.ensures.putting made ok (c.make_cells.ensures.stands s h) refl))
