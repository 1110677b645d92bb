use Rattle.std.proofs.Common.{ap, ◌∙◌}
use Rattle.herm_types.specs.Chosen.{lists}
use Rattle.herm_numbers.proofs.Counted.{counts_are}
use Rattle.herm_numbers.proofs.counts.type_counts.Goals as goal

pub returns : goal.returns
returns c = record {
  counts = counts_are c.args.types.now.shapes (lists c.as_slice.result.now) c.in_ok-counts.counts.items (ap lists c.as_slice.ensures.value ∙ c.in_ok-parts.ensures.types) c.in_ok-counts.ensures;
}
