use Rattle.std.proofs.Common.{◌∷◌, [], refl, sym, subst}
use Rattle.herm_model.specs.Paths.{init}
use Rattle.herm_model.specs.ControlPaths.{held_at_start}
use Rattle.herm_model.specs.Labels.{label_at}
use Rattle.herm_model.specs.laws.ExcessLaws.{IsExcess}
use Rattle.herm_flow.specs.View.{flow_view}
use Rattle.herm_check.specs.View.{labels_view}
use Rattle.herm_coerce.proofs.Excess.{entry-excess}
use Rattle.herm_coerce.proofs.coercions.coerce.Goals as goal

pub returns-clause-coercions : goal.returns-clause-coercions
returns-clause-coercions c =
    let low = label_at (labels_view c.args.labels.now) (flow_view c.args.flow.now).entry in
    record {
      entry = subst (IsExcess held_at_start low) (sym c.in_ok-entry.ensures) (entry-excess low (low (init (0 ∷ []))) refl);
      edges = c.in_ok-at.ensures;
    }
