use Rattle.std.proofs.Common.{sym, ap, ◌∙◌}
use Rattle.herm_naming.specs.Copies.{may_copy}
use Rattle.herm_types.specs.View.{shape_view}
use Rattle.herm_judge.specs.View.{kind}
use Rattle.herm_judge.proofs.Copyable.{copy_tested}
use Rattle.herm_judge.proofs.shapes.may_copy.Goals as goal

pub returns : goal.returns
returns c = record {
  copies = copy_tested c.args.types.now c.in-Some.t.0 (shape_view c.shape-shape.result.now) c.is_copyable.result c.requires.well (sym c.shape-shape.ensures.shape) c.is_copyable.ensures
      ∙ ap (λ o. may_copy c.args.types.now.shapes (kind o)) (sym c.in-Some.is);
}
