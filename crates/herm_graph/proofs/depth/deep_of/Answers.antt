use Rattle.std.proofs.Common.{◌∙◌, ap, sym, subst, length, List, Bool, ℕ}
use Rattle.herm_model.specs.Types.{greatest_depth}
use Rattle.herm_model.proofs.Lists.{length-map}
use Rattle.herm_types.specs.View.{shape_view}
use Rattle.herm_types.specs.Table.{shapes_view}
use Rattle.herm_types.specs.Chosen.{lists}
use Rattle.herm_graph.specs.Depth.{SayWithin, CountPaths}
use Rattle.herm_graph.proofs.Limits.{judged-deep}
use Rattle.herm_graph.proofs.depth.deep_of.Goals as goal

pub returns : goal.returns
returns c =
    let within = subst (λ (xs : List Bool). SayWithin greatest_depth (lists c.args.next.now) xs) (sym c.as_slice-2.ensures.value) c.in_ok-within.ensures in
    let counts = subst (λ (xs : List ℕ). CountPaths greatest_depth (lists c.as_slice.result.now) xs) (sym c.as_slice-3.ensures.value) c.in_ok-counts.ensures in
    judged-deep (shapes_view c.args.shapes.now) (lists c.args.next.now) (lists c.as_slice.result.now) c.as_slice-2.result.now c.in_ok-deep.deep.items c.as_slice-3.result.now greatest_depth (length c.args.shapes.now) c.requires.named (ap lists c.as_slice.ensures.value ∙ c.in_ok-parts.ensures) (sym (length-map shape_view c.args.shapes.now)) within counts c.in_ok-deep.ensures
