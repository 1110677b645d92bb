-- A table that is as it was.
use Rattle.std.proofs.Common.{◌≡◌, ℕ, List, Bool, not, ◌&&◌, None, get_or, nat_le, length, sym, ap, ap₂, ◌∙◌}
use Rattle.std.specs.List.{list_any}
use Rattle.std.specs.Ordering.{is_eq}
use Rattle.std.specs.Cmp.Lexicographic.{slice_cmp}
use Rattle.herm_model.specs.Values as model
use Rattle.herm_model.specs.Values.{size}
use Rattle.herm_model.specs.Tables.{key_of, has_key}
use Rattle.herm_rows.specs.Keys.{most_rows, rows_of}
use Rattle.herm_values.specs.View.{table_parts, views_of, key_view}
use Rattle.herm_values.specs.Whole.{IsWholeTable, IsAsItWas}
use Rattle.herm_values.specs.declared.scalar.KeyRow.{KeyRow}
use Rattle.herm_values.specs.declared.scalar.Scalar.{Scalar}
use Rattle.herm_values.specs.declared.value.Table.{Table}
use Rattle.herm_values.proofs.KeyedRows.{named-size}
use Rattle.herm_values.proofs.SameKeys.{scalar_cmp}
use Rattle.herm_values.proofs.Tables.{key-there}

-- whether a row has the key of this one
abbrev asked : model.Value → Table → Bool
asked row t = has_key t.columns.items (key_of t.columns.items row) (table_parts t)

module _ (old new : Table) (same : IsAsItWas old new) where
  pub get_stays : (i : ℕ) → get_or new.rows.items i None ≡ get_or old.rows.items i None
  get_stays i = ap (λ rows. get_or rows i None) same.rows

  -- a look for a key among the keys of the code, and among the rows
  module _ (whole : IsWholeTable old) (row : model.Value) (key : List Scalar) (is : key_view key ≡ key_of old.columns.items row) where
    abbrev any : Bool
    any = list_any (λ (r : KeyRow). is_eq (slice_cmp scalar_cmp r.key.items key)) (rows_of new.keys)

    pub any_asked : any ≡ asked row old
    any_asked =
        ap (λ keys. list_any (λ (r : KeyRow). is_eq (slice_cmp scalar_cmp r.key.items key)) (rows_of keys)) same.keys
        ∙ key-there old.columns.items (views_of old.rows.items) (rows_of old.keys) key (key_of old.columns.items row) is whole.kept

    pub any_full : (not any && nat_le most_rows (length (rows_of new.keys))) ≡ (not (asked row old) && nat_le most_rows (size (table_parts old)))
    any_full = ap₂ (λ a n. not a && nat_le most_rows n) any_asked (ap (λ keys. length (rows_of keys)) same.keys ∙ sym (named-size old.columns.items (views_of old.rows.items) (rows_of old.keys) whole.kept.found))
