-- Rows found by their keys are those that the model finds among the parts of the table.
use Rattle.std.proofs.Common.{◌≡◌, ℕ, suc, List, [], ◌∷◌, Bool, true, false, cond, ◌||◌, Option, Some, None, option_map, get_or, length, refl, sym, ap, ◌∙◌, option_and_then}
use Rattle.std.specs.Prelude.{find, ⊤}
use Rattle.std.specs.List.{AllByRecursion, list_any}
use Rattle.herm_model.specs.Values as model
use Rattle.herm_model.specs.Values.{Parts, no_parts, part, place, part_at, size}
use Rattle.herm_model.specs.Tables.{has_key, same_key, place_of_key}
use Rattle.herm_values.specs.Parts.{parts_from, rows_at}
use Rattle.herm_values.specs.View.{places_of, key_view}
use Rattle.herm_values.specs.Keys.{row_with}
use Rattle.herm_values.specs.Whole.{HasRow}
use Rattle.herm_values.specs.declared.scalar.KeyRow.{KeyRow}

-- the key of a row of the code is this
abbrev pub is_keyed : List model.Scalar → KeyRow → Bool
is_keyed key row = same_key (key_view row.key.items) key

module _ (columns : List ℕ) (rows : List (Option model.Value)) where
  -- the parts that these keys name
  abbrev pub named : List KeyRow → Parts ⊤
  named keys = parts_from (rows_at (places_of keys) rows)

  pub named-first : (k : KeyRow) (keys : List KeyRow) (h : HasRow columns rows k) → named (k ∷ keys) ≡ part h.row (named keys)
  named-first k keys h = ap (λ o. place o (named keys)) h.there

  pub named-size : (keys : List KeyRow) → AllByRecursion (HasRow columns rows) keys → size (named keys) ≡ length keys
  named-size [] h = refl
  named-size (k ∷ keys) h = ap size (named-first k keys h.0) ∙ ap suc (named-size keys h.1)

  pub named-keys : (key : List model.Scalar) (keys : List KeyRow) → AllByRecursion (HasRow columns rows) keys → has_key columns key (named keys) ≡ list_any (is_keyed key) keys
  named-keys key [] h = refl
  named-keys key (k ∷ keys) h = ap (has_key columns key) (named-first k keys h.0) ∙ ap (λ s. same_key s key || has_key columns key (named keys)) h.0.keyed ∙ ap (λ b. is_keyed key k || b) (named-keys key keys h.1)

  -- the place of the row that is found
  abbrev found_at : Option KeyRow → Option model.Value
  found_at o = option_and_then (λ k. get_or rows k.place None) o

  behind : (r : model.Value) (ps : Parts ⊤) (o : Option ℕ) → option_and_then (λ i. part_at i (part r ps)) (option_map suc o) ≡ option_and_then (λ i. part_at i ps) o
  behind r ps None = refl
  behind r ps (Some i) = refl

  first-or-behind : (b : Bool) (r : model.Value) (ps : Parts ⊤) (o : Option ℕ) (k : KeyRow) (f : Option KeyRow) → get_or rows k.place None ≡ Some r → option_and_then (λ i. part_at i ps) o ≡ found_at f
      → option_and_then (λ i. part_at i (part r ps)) (cond b (Some 0) (option_map suc o)) ≡ found_at (cond b (Some k) f)
  first-or-behind true r ps o k f there e = sym there
  first-or-behind false r ps o k f there e = behind r ps o ∙ e

  pub named-found : (key : List model.Scalar) (keys : List KeyRow) → AllByRecursion (HasRow columns rows) keys → row_with columns key (named keys) ≡ found_at (find (is_keyed key) keys)
  named-found key [] h = refl
  named-found key (k ∷ keys) h =
      ap (row_with columns key) (named-first k keys h.0)
      ∙ ap (λ s. option_and_then (λ i. part_at i (part h.0.row (named keys))) (cond (same_key s key) (Some 0) (option_map suc (place_of_key columns key (named keys))))) h.0.keyed
      ∙ first-or-behind (is_keyed key k) h.0.row (named keys) (place_of_key columns key (named keys)) k (find (is_keyed key) keys) h.0.there (named-found key keys h.1)
