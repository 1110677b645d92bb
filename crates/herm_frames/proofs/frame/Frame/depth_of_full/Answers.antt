use Rattle.std.proofs.Common.{option_map, map, sym, ap, ap₂, subst, ◌∙◌}
use Rattle.herm_forms.specs.Excess.{excess_over_full}
use Rattle.herm_model.specs.Finalising.{clear_all}
use Rattle.herm_model.specs.Values.{cell_at, polymorph_depth}
use Rattle.herm_types.specs.View.{path_view}
use Rattle.herm_frames.specs.Standing.{Stands}
use Rattle.herm_frames.proofs.Ended.{all_variables}
use Rattle.herm_frames.proofs.frame.Frame.depth_of_full.Goals as goal

pub returns-clause-depth : goal.returns-clause-depth
returns-clause-depth c code s of h =
    let y = path_view c.args.source.now in
    let g = subst (λ f. Stands f s) (sym c.self.view_is) h in
    c.depth_without.ensures.depth
    ∙ ap₂ (λ ps vs. option_map polymorph_depth (cell_at y (clear_all ps vs))) (ap (map path_view) c.as_slice.ensures.value ∙ c.in_ok-lost.ensures code.scope s of.0 of.1 g.variables) (sym g.variables)
    ∙ ap (λ vs. option_map polymorph_depth (cell_at y vs)) (sym (all_variables (excess_over_full code.scope y s) s))
