use Rattle.std.proofs.Common.{◌≡◌, ℕ, List, Vec, Global, false, is_some, ap, subst, ◌∙◌}
use Rattle.herm_model.specs.Values as model
use Rattle.herm_model.specs.Values.{joined, no_parts, part}
use Rattle.herm_places.specs.Held.{keyed_places, seen_places}
use Rattle.herm_types.specs.View.{path_view}
use Rattle.herm_values.specs.View.{leaf, table_parts, value_view}
use Rattle.herm_values.specs.declared.value.Table.{Table}
use Rattle.herm_frames.specs.KeyedTables.{IsTableOf}
use Rattle.herm_frames.proofs.Inserted.{row_added}
use Rattle.herm_frames.proofs.TablesTaken.{key_kept}
use Rattle.herm_frames.proofs.insertions.insert_at.Goals as goal

pub returns-in_default-clause-there : goal.returns-in_default-clause-there
returns-in_default-clause-there c key is allows = ap is_some (c.in_default.ensures.none key is)

pub returns-in-Ok-clause-inserted : goal.returns-in-Ok-clause-inserted
returns-in-Ok-clause-inserted c h =
    row_added (path_view c.args.table.now) (leaf (model.a_scalar (model.a_boolean false))) (value_view c.args.row) (seen_places c.args.variables.now) (seen_places c.take_table.new.variables) (seen_places c.put_table.new.variables)
    (table_parts c.in-Some.held.value) (table_parts c.insert-answer.new.self) c.in-Some.ensures.seen c.take_table.ensures.left c.put_table.ensures.seen
    (c.in-Ok.ensures.inserted ∙ ap (λ (t : Table). joined (table_parts t) (part (value_view c.args.row) no_parts)) c.deref_mut.ensures.value)

pub returns-in-Ok-clause-same_key : goal.returns-in-Ok-clause-same_key
returns-in-Ok-clause-same_key c key is =
    key_kept key _ (path_view c.args.table.now) _ (keyed_places c.take_table.new.variables) (keyed_places c.put_table.new.variables) c.put_table.ensures.keyed
    (ap (λ (v : Vec ℕ Global). v.items) c.insert-answer.ensures.columns ∙ ap (λ (t : Table). t.columns.items) c.deref_mut.ensures.value ∙ (subst (IsTableOf key) c.in-Some.ensures.keyed is).0)

pub returns-in-Err-Duplicate-clause-same_key : goal.returns-in-Err-Duplicate-clause-same_key
returns-in-Err-Duplicate-clause-same_key c key is =
    key_kept key _ (path_view c.args.table.now) _ (keyed_places c.take_table.new.variables) (keyed_places c.put_table.new.variables) c.put_table.ensures.keyed
    (ap (λ (v : Vec ℕ Global). v.items) c.insert-answer.ensures.columns ∙ ap (λ (t : Table). t.columns.items) c.deref_mut.ensures.value ∙ (subst (IsTableOf key) c.in-Some.ensures.keyed is).0)

pub returns-in-Err-Full-clause-same_key : goal.returns-in-Err-Full-clause-same_key
returns-in-Err-Full-clause-same_key c key is =
    key_kept key _ (path_view c.args.table.now) _ (keyed_places c.take_table.new.variables) (keyed_places c.put_table.new.variables) c.put_table.ensures.keyed
    (ap (λ (v : Vec ℕ Global). v.items) c.insert-answer.ensures.columns ∙ ap (λ (t : Table). t.columns.items) c.deref_mut.ensures.value ∙ (subst (IsTableOf key) c.in-Some.ensures.keyed is).0)
