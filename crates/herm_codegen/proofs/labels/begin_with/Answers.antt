use Rattle.std.proofs.Common.{sym, ◌∙◌}
use Rattle.herm_codegen.proofs.Beginnings.{too-short, begins-by}
use Rattle.herm_codegen.proofs.labels.begin_with.Goals as goal

pub returns-then-numbers-count : goal.returns-then-numbers-count
returns-then-numbers-count c = sym (too-short c.args.first.now c.args.numbers.now c.if-numbers-count.true)

pub returns : goal.returns
returns c = c.eq.ensures ∙ begins-by c.args.first.now c.args.numbers.now c.if-numbers-count.false
