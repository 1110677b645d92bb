use Rattle.std.proofs.Common.{map, ap, ◌∙◌}
use Rattle.herm_translated.specs.Layout.{Line}
use Rattle.herm_fronts.specs.Frames.{table_of, variables_of}
use Rattle.herm_blocks.specs.Views.{block_view}
use Rattle.herm_codegen.specs.Emitted.{fronts_in}
use Rattle.herm_codegen.proofs.Steps.{left_more, rest_is, lines_more}
use Rattle.herm_codegen.proofs.lines.push_blocks.Goals as goal

pub each-preserved : goal.each-preserved
each-preserved c =
    let left = left_more c.args.blocks.now block_view c.each.block-index c.block-item.result c.each-test.true c.block-item.is in
    record {
      fronts = rest_is c.each.left.now _ _ (c.each.invariant.fronts ∙ ap (fronts_in (table_of c.args.frame.now) (variables_of c.args.frame.now)) left);
      code_is = lines_more (table_of c.args.frame.now) (variables_of c.args.frame.now) (λ (x : Line). x.instruction) _ _ _ _ _ _ _ _ _ _ left c.in_ok-at-in-len1-up.ensures.end c.in_ok-at-in-len1-up.ensures.lines.code_is c.each.invariant.code_is;
      landings_are = lines_more (table_of c.args.frame.now) (variables_of c.args.frame.now) (λ (x : Line). x.landings) _ _ _ _ _ _ _ _ _ _ left c.in_ok-at-in-len1-up.ensures.end c.in_ok-at-in-len1-up.ensures.lines.landings_are c.each.invariant.landings_are;
    }
