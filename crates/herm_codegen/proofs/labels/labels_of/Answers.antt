use Rattle.std.proofs.Common.{◌≡◌, ◌∷◌, map, drop, arith, ap, ◌∙◌}
use Rattle.std.proofs.lemmas.List.{drop_more}
use Rattle.std.specs.Vec.Iter.{into_iter_items}
use Rattle.herm_fronts.specs.Frames.{table_of, variables_of}
use Rattle.herm_blocks.specs.Views.{block_view}
use Rattle.herm_codegen.specs.Arrivals.{is_marked_at}
use Rattle.herm_codegen.specs.Emitted.{fronts_in}
use Rattle.herm_codegen.proofs.Steps.{further_are, labels_more}
use Rattle.herm_codegen.proofs.labels.labels_of.Goals as goal

pub each-preserved : goal.each-preserved
each-preserved c =
    let types = table_of c.args.frame.now in
    let variables = variables_of c.args.frame.now in
    let left : into_iter_items c.each.left ≡ c.in-Some.block ∷ into_iter_items c.next.new.self = c.in-Some.ensures.cases.0 in
    record {
      fronts = further_are (drop c.each.place c.args.fronts.now) _ _ _ _ (drop_more c.args.fronts.now c.each.place 0 (omega arith)) (c.each.invariant.fronts ∙ ap (λ bs. fronts_in types variables (map block_view bs)) left);
      labels =
          labels_more types variables (is_marked_at c.args.arrivals.now.first.items) (is_marked_at c.args.arrivals.now.again.items) c.each.place _ _ _ _ _ _ _ _ _
          left (omega arith) c.in_ok-at-in-Some.ensures.end c.in_ok-at-in-Some.ensures.labels c.each.invariant.labels;
    }
