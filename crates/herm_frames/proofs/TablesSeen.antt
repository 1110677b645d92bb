-- Tables, and their rows by key.
use Rattle.std.proofs.Common.{◌≡◌, ℕ, zero, suc, List, [], ◌∷◌, Bool, true, false, cond, Option, Some, None, option_map, option_and_then, refl, sym, ap, ap₂, subst, ◌∙◌, Box, Global}
use Rattle.std.specs.Prelude.{⊤}
use Rattle.herm_model.specs.Paths.{Path}
use Rattle.herm_model.specs.Outcomes.{raised, not_found}
use Rattle.herm_model.specs.Tables.{place_of_key, same_key, key_of}
use Rattle.herm_model.specs.Values as model
use Rattle.herm_model.specs.Values.{Scalar, a_table, Cell, cell, Parts, no_parts, gap, part, part_at, parts_of, kind_of, read_at}
use Rattle.herm_model.proofs.Keys.{place-row}
use Rattle.herm_model.proofs.Options.{chain-some}
use Rattle.herm_forms.specs.Frames.{Frame, Completion, goes, stuck, if_there}
use Rattle.herm_forms.specs.RemoveAndGet.{finding}
use Rattle.herm_values.specs.Keyed.{keyed_view, keyed_parts}
use Rattle.herm_values.specs.Keys.{row_with}
use Rattle.herm_values.specs.View.{value_view, table_parts}
use Rattle.herm_values.specs.declared.value.Value.{Value, Table as a_held_table}
use Rattle.herm_values.specs.declared.value.Table.{Table}
use Rattle.herm_values.proofs.Seen.{table_view}
use Rattle.herm_values.proofs.Forgotten.{table_keyed, fields_keyed, call_keyed}
use Rattle.herm_values.proofs.Wholes.{table-whole, whole-table}
use Rattle.herm_frames.specs.KeyedTables.{IsTableOf}

pub ruleset seeing_tables = (table_view, table_keyed, fields_keyed, call_keyed, table-whole)

pub ruleset putting_tables = (table_view, table_keyed, whole-table)

-- a table at which the key's fields are these
pub of_key : (key columns : List ℕ) (c : Cell (List ℕ)) (ps : Parts (List ℕ)) → c ≡ cell columns a_table ps → IsTableOf key (Some c) → columns ≡ key
of_key key columns c ps is h = (subst (λ c. IsTableOf key (Some c)) is h).0

pub of_table : (key : List ℕ) (c : Cell (List ℕ)) → IsTableOf key (Some c) → kind_of c ≡ a_table
of_table key (cell n k ps) h = h.1

module _ (key : List ℕ) (k : List Scalar) (t : Path) (next : ℕ → Cell ⊤ → Completion ⊤) (b : Frame ⊤) (rows : Parts ⊤) (at : Some (cell tt a_table rows) ≡ read_at t b.variables) where
  abbrev on_place : Option ℕ → Completion ⊤
  on_place o = elim o [ None ↦ goes (raised not_found) b | Some i ↦ if_there (next i) (part_at i rows) ]

  finds : finding key k t next b ≡ on_place (place_of_key key k rows)
  finds = ap (if_there (λ table. elim (place_of_key key k (parts_of table)) [ None ↦ goes (raised not_found) b | Some i ↦ if_there (next i) (part_at i (parts_of table)) ])) (sym at)

  no_place : (o : Option ℕ) → place_of_key key k rows ≡ o → row_with key k rows ≡ None → o ≡ None
  no_place None is none = refl
  no_place (Some i) is none =
      let found = place-row key k rows i is in
      let e : Some found.0 ≡ None = sym found.1 ∙ sym (ap (option_and_then (λ i. part_at i rows)) is) ∙ none in
      cc (e)

  pub found_none : row_with key k rows ≡ None → finding key k t next b ≡ goes (raised not_found) b
  found_none none = finds ∙ ap on_place (no_place (place_of_key key k rows) refl none)

  pub found_some : (row : Cell ⊤) → row_with key k rows ≡ Some row → (i : ℕ) × (place_of_key key k rows ≡ Some i) × (finding key k t next b ≡ next i row)
  found_some row is =
      let found = chain-some (λ i. part_at i rows) (place_of_key key k rows) row is in
      (found.0, found.1, finds ∙ ap on_place found.1 ∙ ap (if_there (next found.0)) found.2)
