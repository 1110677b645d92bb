use Rattle.std.proofs.Common.{◌++◌, flat_map, map, sym, ap, subst, ◌∙◌}
use Rattle.herm_forms.specs.Excess.{excess_over_full}
use Rattle.herm_types.specs.View.{path_view}
use Rattle.herm_frames.specs.Standing.{Stands}
use Rattle.herm_frames.proofs.frame.Frame.excess_of.Goals as goal

pub returns : goal.returns
returns c = record {
  lost = λ code s of h.
      let g = subst (λ f. Stands f s) (sym c.self.view_is) h in
      c.in_ok-push_excess.ensures code.scope s of.0 of.1 g.variables
      ∙ ap (λ old. map path_view old ++ flat_map (λ p. excess_over_full code.scope p s) (map path_view c.args.paths.now)) c.new-lost.ensures.items;
}
