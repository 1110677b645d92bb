use Rattle.std.proofs.Common.{sym, ◌∙◌}
use Rattle.herm_check.proofs.Begun.{too-short, begins-by}
use Rattle.herm_blocks.proofs.handed.begins.Goals as goal

pub returns-then-all-count : goal.returns-then-all-count
returns-then-all-count c = sym (too-short c.args.first.now c.args.all.now c.if-all-count.true)

pub returns : goal.returns
returns c = c.eq.ensures ∙ begins-by c.args.first.now c.args.all.now c.if-all-count.false
