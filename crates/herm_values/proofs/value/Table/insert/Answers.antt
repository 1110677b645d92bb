use Rattle.std.proofs.Common.{◌∙◌, ◌++◌, ◌∷◌, [], Err, sym, ap, subst}
use Rattle.herm_rows.specs.Keys.{rows_of}
use Rattle.herm_rows.specs.Faults.{is_duplicate, is_full}
use Rattle.herm_values.specs.View.{value_view, views_of}
use Rattle.herm_values.specs.Whole.{AllWhole, AreKept}
use Rattle.herm_values.proofs.KeyedRows.{named}
use Rattle.herm_values.proofs.Tables.{row-kept, row-named}
use Rattle.herm_values.proofs.VeryRows.{one-more}
use Rattle.herm_values.proofs.AsItWas.{get_stays, any_asked, any_full}
use Rattle.herm_values.proofs.value.Table.insert.Goals as goal

pub returns-in-Err-Duplicate-clause-duplicate : goal.returns-in-Err-Duplicate-clause-duplicate
returns-in-Err-Duplicate-clause-duplicate c =
    sym (ap (λ e. is_duplicate {A = Unit {0}} (Err e)) c.in-Err-Duplicate.field-0-is) ∙ c.in-Err-Duplicate.ensures.duplicate ∙ any_asked c.args.self.now c.entry_of.new.self c.entry_of.ensures.as_it_was c.requires.whole (value_view c.args.row) c.in-Ok.entry.key.items c.in-Ok.ensures.key

pub returns-in-Err-Duplicate-clause-full : goal.returns-in-Err-Duplicate-clause-full
returns-in-Err-Duplicate-clause-full c =
    sym (ap (λ e. is_full {A = Unit {0}} (Err e)) c.in-Err-Duplicate.field-0-is) ∙ c.in-Err-Duplicate.ensures.full ∙ any_full c.args.self.now c.entry_of.new.self c.entry_of.ensures.as_it_was c.requires.whole (value_view c.args.row) c.in-Ok.entry.key.items c.in-Ok.ensures.key

pub returns-in-Err-Full-clause-duplicate : goal.returns-in-Err-Full-clause-duplicate
returns-in-Err-Full-clause-duplicate c =
    sym (ap (λ e. is_duplicate {A = Unit {0}} (Err e)) c.in-Err-Full.field-0-is) ∙ c.in-Err-Full.ensures.duplicate ∙ any_asked c.args.self.now c.entry_of.new.self c.entry_of.ensures.as_it_was c.requires.whole (value_view c.args.row) c.in-Ok.entry.key.items c.in-Ok.ensures.key

pub returns-in-Err-Full-clause-full : goal.returns-in-Err-Full-clause-full
returns-in-Err-Full-clause-full c =
    sym (ap (λ e. is_full {A = Unit {0}} (Err e)) c.in-Err-Full.field-0-is) ∙ c.in-Err-Full.ensures.full ∙ any_full c.args.self.now c.entry_of.new.self c.entry_of.ensures.as_it_was c.requires.whole (value_view c.args.row) c.in-Ok.entry.key.items c.in-Ok.ensures.key

pub returns-clause-duplicate : goal.returns-clause-duplicate
returns-clause-duplicate c =
    sym (ap (λ e. is_duplicate {A = Unit {0}} (Err e)) c.in-Err-Memory.field-0-is) ∙ c.in-Err-Memory.ensures.duplicate ∙ any_asked c.args.self.now c.entry_of.new.self c.entry_of.ensures.as_it_was c.requires.whole (value_view c.args.row) c.in-Ok.entry.key.items c.in-Ok.ensures.key

pub returns-clause-full : goal.returns-clause-full
returns-clause-full c =
    sym (ap (λ e. is_full {A = Unit {0}} (Err e)) c.in-Err-Memory.field-0-is) ∙ c.in-Err-Memory.ensures.full ∙ any_full c.args.self.now c.entry_of.new.self c.entry_of.ensures.as_it_was c.requires.whole (value_view c.args.row) c.in-Ok.entry.key.items c.in-Ok.ensures.key

pub returns-in-Ok-insert-clause-duplicate : goal.returns-in-Ok-insert-clause-duplicate
returns-in-Ok-insert-clause-duplicate c =
    c.in-Ok-insert.ensures.duplicate ∙ any_asked c.args.self.now c.entry_of.new.self c.entry_of.ensures.as_it_was c.requires.whole (value_view c.args.row) c.in-Ok.entry.key.items c.in-Ok.ensures.key

pub returns-in-Ok-insert-clause-full : goal.returns-in-Ok-insert-clause-full
returns-in-Ok-insert-clause-full c =
    c.in-Ok-insert.ensures.full ∙ any_full c.args.self.now c.entry_of.new.self c.entry_of.ensures.as_it_was c.requires.whole (value_view c.args.row) c.in-Ok.entry.key.items c.in-Ok.ensures.key

pub returns-in-Ok-insert-clause-inserted : goal.returns-in-Ok-insert-clause-inserted
returns-in-Ok-insert-clause-inserted c =
    ap (named c.args.self.now.columns.items (views_of c.put_row.new.rows.items)) (c.in-Ok-insert.ensures.inserted ∙ ap (λ keys. rows_of keys ++ c.in-Ok.entry ∷ []) c.entry_of.ensures.as_it_was.keys)
    ∙ row-named c.args.self.now.columns.items c.args.self.now.rows.items c.entry_of.new.self.rows.items c.put_row.new.rows.items c.args.row c.in-Ok.entry (get_stays c.args.self.now c.entry_of.new.self c.entry_of.ensures.as_it_was) (get_stays c.args.self.now c.entry_of.new.self c.entry_of.ensures.as_it_was c.in-Ok.entry.place ∙ c.in-Ok.ensures.empty) c.put_row.ensures.put c.put_row.ensures.others (rows_of c.args.self.now.keys) c.requires.whole.kept

pub returns-in-Ok-insert-clause-row_itself : goal.returns-in-Ok-insert-clause-row_itself
returns-in-Ok-insert-clause-row_itself c =
    one-more c.args.self.now.rows.items c.entry_of.new.self.rows.items c.put_row.new.rows.items c.args.row c.in-Ok.entry.place (get_stays c.args.self.now c.entry_of.new.self c.entry_of.ensures.as_it_was) (get_stays c.args.self.now c.entry_of.new.self c.entry_of.ensures.as_it_was c.in-Ok.entry.place ∙ c.in-Ok.ensures.empty) c.put_row.ensures.put c.put_row.ensures.others

pub returns-in-Ok-insert-clause-whole : goal.returns-in-Ok-insert-clause-whole
returns-in-Ok-insert-clause-whole c =
    record {
      kept =
          subst (λ columns. AreKept columns.items (rows_of c.insert.new.self) (views_of c.put_row.new.rows.items)) (sym c.entry_of.ensures.as_it_was.columns)
          (subst (λ keys. AreKept c.args.self.now.columns.items keys (views_of c.put_row.new.rows.items)) (sym (c.in-Ok-insert.ensures.inserted ∙ ap (λ keys. rows_of keys ++ c.in-Ok.entry ∷ []) c.entry_of.ensures.as_it_was.keys))
          (row-kept c.args.self.now.columns.items c.args.self.now.rows.items c.entry_of.new.self.rows.items c.put_row.new.rows.items c.args.row c.in-Ok.entry (get_stays c.args.self.now c.entry_of.new.self c.entry_of.ensures.as_it_was) (get_stays c.args.self.now c.entry_of.new.self c.entry_of.ensures.as_it_was c.in-Ok.entry.place ∙ c.in-Ok.ensures.empty) c.put_row.ensures.put c.put_row.ensures.others (rows_of c.args.self.now.keys) c.in-Ok.ensures.key c.requires.whole.kept));
      whole = c.put_row.ensures.whole (subst AllWhole (sym c.entry_of.ensures.as_it_was.rows) c.requires.whole.whole) c.requires.row;
    }
