use Rattle.std.proofs.Common.{◌++◌, sym, ap, ◌∙◌}
use Rattle.std.proofs.lemmas.List.{append-nil}
use Rattle.herm_values.specs.View.{views_of}
use Rattle.herm_values.proofs.Walked.{none-rows}
use Rattle.herm_frames.proofs.rows.copies_of_rows.Goals as goal

pub returns-clause-copies : goal.returns-clause-copies
returns-clause-copies c =
    sym (append-nil (views_of c.rows.rows.items))
    ∙ ap (λ rows. views_of c.rows.rows.items ++ rows) (sym (none-rows c.args.table.now c.rows.next c.in_default.is))
    ∙ c.rows.invariant.items
