use Rattle.std.proofs.Common.{map, sym, ap, subst, ◌∙◌}
use Rattle.herm_forms.specs.Frames.{drop}
use Rattle.herm_model.specs.Finalising.{clear_all}
use Rattle.herm_places.specs.Held.{keyed_places}
use Rattle.herm_types.specs.View.{path_view}
use Rattle.herm_frames.specs.Standing.{Stands}
use Rattle.herm_frames.proofs.frame.Frame.drop_excess.Goals as goal

pub returns-clause-stands : goal.returns-clause-stands
returns-clause-stands c code s of h =
    let stood = subst (λ f. Stands f s) (sym c.self.view_is) h in
    subst (λ paths. Stands c.drop_all.new.self (drop paths s))
    (ap (map path_view) c.as_slice.ensures.value ∙ c.in_ok-lost.ensures code.scope s of.0 of.1 stood.variables)
    (c.in_ok-drop_all.ensures.stands s h)

pub returns-clause-left : goal.returns-clause-left
returns-clause-left c code s of h =
    let stood = subst (λ f. Stands f s) (sym c.self.view_is) h in
    c.in_ok-drop_all.ensures.left
    ∙ ap (λ paths. clear_all paths (keyed_places c.args.self.now.variables)) (ap (map path_view) c.as_slice.ensures.value ∙ c.in_ok-lost.ensures code.scope s of.0 of.1 stood.variables)
