use Rattle.std.proofs.Common.{map, ap, ◌∙◌}
use Rattle.herm_flow.proofs.KnownTypes.{all_known, points_seen}
use Rattle.herm_flow.proofs.process.points_of.Goals as goal

pub walk_block-requires : goal.walk_block-requires
walk_block-requires c = record { known = all_known c.args.types.now.shapes (map (λ t. t.0) c.as_slice-2.result.now) c.as_slice-3.result.now c.args.p.now (ap (map (λ t. t.0)) c.as_slice-2.ensures.value ∙ (c.in_ok-of.ensures.types ∙ ap (map (λ x. x.of.0)) c.as_slice.ensures.value)) c.as_slice-3.ensures.value c.requires.known }

pub returns : goal.returns
returns c = record { points = points_seen c.args.kept c.args.types.now.shapes (map (λ t. t.0) c.as_slice-2.result.now) c.as_slice-3.result.now c.args.p.now c.none-points.result c.walk_block.new.points (ap (map (λ t. t.0)) c.as_slice-2.ensures.value ∙ (c.in_ok-of.ensures.types ∙ ap (map (λ x. x.of.0)) c.as_slice.ensures.value)) c.as_slice-3.ensures.value c.none-points.ensures.whole c.none-points.ensures.onward c.in_ok-walk_block.ensures.points }
