use Rattle.std.proofs.Common.{sym, ◌∙◌}
use Rattle.herm_types.specs.Table.{says}
use Rattle.herm_types.proofs.Tables.{every_all}
use Rattle.herm_types.proofs.copyable.every_part.Goals as goal

pub returns : goal.returns
returns c = c.all_parts.ensures ∙ sym (every_all (says c.args.tests.now) (λ p. p.of.0) c.args.parts.now)
