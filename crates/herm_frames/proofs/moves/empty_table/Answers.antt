use Rattle.std.proofs.Common.{ap, ◌∙◌}
use Rattle.herm_frames.proofs.Moved.{empty_seen, empty_keyed, empty_whole}
use Rattle.herm_frames.proofs.moves.empty_table.Goals as goal

pub returns-clause-table : goal.returns-clause-table
returns-clause-table c = empty_seen c.in_ok-table.table c.new.result c.in_ok-table.ensures.ok c.new.ensures.rows

pub returns-clause-keyed : goal.returns-clause-keyed
returns-clause-keyed c = empty_keyed c.in_ok-table.table c.new.result c.args.keys.now c.in_ok-table.ensures.ok c.new.ensures.rows (ap (λ v. v.items) c.new.ensures.columns ∙ c.in_ok-columns.ensures.items)

pub returns-clause-whole : goal.returns-clause-whole
returns-clause-whole c = empty_whole c.in_ok-table.table c.new.result c.in_ok-table.ensures.ok c.new.ensures.whole
