use Rattle.std.proofs.Common.{map}
use Rattle.herm_types.specs.View.{fact_view}
use Rattle.herm_values.specs.View.{value_view}
use Rattle.herm_values.proofs.Exactly.{root-said, root-unsaid}
use Rattle.herm_values.proofs.facts.meets.Goals as goal

pub returns-then-is_root_said : goal.returns-then-is_root_said
returns-then-is_root_said c = record { exactly = root-said (value_view c.args.v.now) (map fact_view c.args.facts.now) c.is_root_said.result c.are_met.result c.is_root_said.ensures c.if-is_root_said.true c.are_met.ensures }

pub returns-else-is_root_said : goal.returns-else-is_root_said
returns-else-is_root_said c = record { exactly = root-unsaid (value_view c.args.v.now) (map fact_view c.args.facts.now) c.is_root_said.result c.is_root_said.ensures c.if-is_root_said.false }
