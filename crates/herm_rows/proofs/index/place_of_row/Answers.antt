use Rattle.std.specs.Prelude.{◌+◌, ◌-◌, ◌/◌, slice_index_or}
use Rattle.std.proofs.Common.{sym, ◌∙◌, arith}
use Rattle.herm_links.specs.Lists.{entries_of}
use Rattle.herm_rows.specs.OrderedByKey.{by_key_in_order}
use Rattle.herm_rows.proofs.Searched.{stands-of, row-read, middle-there, below-step, above-step}
use Rattle.herm_rows.proofs.index.place_of_row.Goals as goal

pub at-requires : goal.at-requires
at-requires g c = record {
  stands = stands-of c.args.links.now (slice_index_or c.args.index.now (c.loop-low.low + (c.loop-low.high - c.loop-low.low) / 2) (record { 0 = 0 })).0 (c.requires.index.standing (c.loop-low.low + (c.loop-low.high - c.loop-low.low) / 2) (slice_index_or c.args.index.now (c.loop-low.low + (c.loop-low.high - c.loop-low.low) / 2) (record { 0 = 0 })) (middle-there c.args.index.now c.loop-low.low c.loop-low.high c.loop-low-test.true c.loop-low.invariant.within));
}

pub loop-low-preserved-in-Less : goal.loop-low-preserved-in-Less
loop-low-preserved-in-Less g c = record {
  ordered = omega arith;
  within = c.loop-low.invariant.within;
  below = below-step g.R.Row.order (entries_of c.args.links.now 0) c.args.index.now c.requires.index c.requires.nodes (λ row. g.R.Row.order row c.args.row.now) (λ x y h. by_key_in_order (λ x. x) g.met.R.Row.is_order x y c.args.row.now h) (c.loop-low.low + (c.loop-low.high - c.loop-low.low) / 2) (slice_index_or c.args.index.now (c.loop-low.low + (c.loop-low.high - c.loop-low.low) / 2) (record { 0 = 0 })) c.at.result.now (middle-there c.args.index.now c.loop-low.low c.loop-low.high c.loop-low-test.true c.loop-low.invariant.within) (row-read c.args.links.now (slice_index_or c.args.index.now (c.loop-low.low + (c.loop-low.high - c.loop-low.low) / 2) (record { 0 = 0 })).0 c.at.result.now (c.requires.index.standing (c.loop-low.low + (c.loop-low.high - c.loop-low.low) / 2) (slice_index_or c.args.index.now (c.loop-low.low + (c.loop-low.high - c.loop-low.low) / 2) (record { 0 = 0 })) (middle-there c.args.index.now c.loop-low.low c.loop-low.high c.loop-low-test.true c.loop-low.invariant.within)) c.at.ensures.value) (sym c.order.ensures ∙ c.in-Less.is);
  above = c.loop-low.invariant.above;
}

pub returns-in-Equal : goal.returns-in-Equal
returns-in-Equal g c =
    ((slice_index_or c.args.index.now (c.loop-low.low + (c.loop-low.high - c.loop-low.low) / 2) (record { 0 = 0 })), (c.at.result.now, ((middle-there c.args.index.now c.loop-low.low c.loop-low.high c.loop-low-test.true c.loop-low.invariant.within), ((row-read c.args.links.now (slice_index_or c.args.index.now (c.loop-low.low + (c.loop-low.high - c.loop-low.low) / 2) (record { 0 = 0 })).0 c.at.result.now (c.requires.index.standing (c.loop-low.low + (c.loop-low.high - c.loop-low.low) / 2) (slice_index_or c.args.index.now (c.loop-low.low + (c.loop-low.high - c.loop-low.low) / 2) (record { 0 = 0 })) (middle-there c.args.index.now c.loop-low.low c.loop-low.high c.loop-low-test.true c.loop-low.invariant.within)) c.at.ensures.value), sym c.order.ensures ∙ c.in-Equal.is))))

pub loop-low-preserved : goal.loop-low-preserved
loop-low-preserved g c = record {
  ordered = omega arith;
  within = omega arith;
  below = c.loop-low.invariant.below;
  above = above-step g.R.Row.order (entries_of c.args.links.now 0) c.args.index.now c.requires.index c.requires.nodes (λ row. g.R.Row.order row c.args.row.now) (λ x y h. by_key_in_order (λ x. x) g.met.R.Row.is_order x y c.args.row.now h) (c.loop-low.low + (c.loop-low.high - c.loop-low.low) / 2) (slice_index_or c.args.index.now (c.loop-low.low + (c.loop-low.high - c.loop-low.low) / 2) (record { 0 = 0 })) c.at.result.now (middle-there c.args.index.now c.loop-low.low c.loop-low.high c.loop-low-test.true c.loop-low.invariant.within) (row-read c.args.links.now (slice_index_or c.args.index.now (c.loop-low.low + (c.loop-low.high - c.loop-low.low) / 2) (record { 0 = 0 })).0 c.at.result.now (c.requires.index.standing (c.loop-low.low + (c.loop-low.high - c.loop-low.low) / 2) (slice_index_or c.args.index.now (c.loop-low.low + (c.loop-low.high - c.loop-low.low) / 2) (record { 0 = 0 })) (middle-there c.args.index.now c.loop-low.low c.loop-low.high c.loop-low-test.true c.loop-low.invariant.within)) c.at.ensures.value) (sym c.order.ensures ∙ c.in-Greater.is);
}
