use Rattle.std.proofs.Common.{◌≡◌, Some, option_map, sym, ap, subst, ◌∙◌}
use Rattle.herm_model.specs.Values.{cell_at}
use Rattle.herm_places.specs.Held.{seen_places}
use Rattle.herm_types.specs.View.{path_view}
use Rattle.herm_values.specs.View.{value_view}
use Rattle.herm_frames.specs.Standing.{Stands}
use Rattle.herm_frames.proofs.Stood.{put_found}
use Rattle.herm_frames.proofs.frame.Frame.put_over.Goals as goal

pub returns-clause-stands : goal.returns-clause-stands
returns-clause-stands c t s h =
    let some : Some (value_view c.in-Ok-Some.old) ≡ cell_at (path_view c.args.path.now) (seen_places c.self.inside.variables) = ap (option_map value_view) (sym c.in-Ok-Some.field-0-is) ∙ c.in-Ok-Some.ensures.old_seen in
    put_found _ s _ (path_view c.args.path.now) (value_view c.args.v) (value_view c.in-Ok-Some.old) c.finalise.new.self (subst (λ f. Stands f s) (sym c.self.view_is) h) some c.in-Ok-Some.ensures.put_seen c.in_ok-finalise-in-Ok-Some.ensures.stands
