use Rattle.std.proofs.Common.{option_map, sym, ap, ◌∙◌}
use Rattle.herm_values.specs.View.{value_view}
use Rattle.herm_frames.proofs.Keyings.{no_table}
use Rattle.herm_frames.proofs.rekeying.keying_at.Goals as goal

pub returns-in_default-table_in-clause-keying : goal.returns-in_default-table_in-clause-keying
returns-in_default-table_in-clause-keying c = no_table c.args.columns.now c.in-Some.v.now _ (sym (ap (option_map (λ v. value_view v.now)) c.in-Some.is) ∙ c.read.ensures.seen) c.in_default-table_in.ensures.none
