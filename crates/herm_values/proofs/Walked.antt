-- The rows of a table, gone through from node to node.
use Rattle.std.proofs.Common.{◌≡◌, ℕ, zero, suc, ◌+◌, ◌<◌, ◌≤◌, List, [], ◌∷◌, map, length, Option, Some, None, option_map, slice_get, get_or, drop, refl, sym, ap, ◌∙◌, arith, add-one}
use Rattle.std.proofs.lemmas.List.{length-map, length-drop, drop_all}
use Rattle.std.proofs.lemmas.Option.{slice_get-map, slice_get_within, slice_get-get_or}
use Rattle.herm_links.specs.declared.links.NodeNo.{NodeNo}
use Rattle.herm_rows.specs.Keys.{rows_of}
use Rattle.herm_rows.specs.Nodes.{place_of, place_at}
use Rattle.herm_model.specs.Values as model
use Rattle.herm_values.specs.Parts.{rows_at}
use Rattle.herm_values.specs.View.{value_view, views_of, row_views, rows_from, places_of}
use Rattle.herm_values.specs.declared.scalar.KeyRow.{KeyRow}
use Rattle.herm_values.specs.declared.value.Table.{Table}
use Rattle.herm_values.proofs.Looked.{at-place}

module _ {X : Type 0} where
  drop-suc : (n : ℕ) (xs : List X) → drop (suc n) xs ≡ drop 1 (drop n xs)
  drop-suc zero xs = refl
  drop-suc (suc n) [] = refl
  drop-suc (suc n) (x ∷ xs) = drop-suc n xs

  -- where the place is one more, the first is left out
  drop-next : (xs : List X) (n m : ℕ) → m ≡ n + 1 → drop m xs ≡ drop 1 (drop n xs)
  drop-next xs n m is = ap (λ k. drop k xs) (is ∙ add-one n) ∙ drop-suc n xs

  drop-first : (n : ℕ) (xs : List X) (x : X) → slice_get xs n ≡ Some x → slice_get (drop n xs) 0 ≡ Some x
  drop-first n [] x at = cc
  drop-first zero (y ∷ xs) x at = at
  drop-first (suc n) (y ∷ xs) x at = drop-first n xs x at

  pub first-rest : (xs ys : List X) (x : X) → slice_get xs 0 ≡ Some x → ys ≡ drop 1 xs → xs ≡ x ∷ ys
  first-rest [] ys x at rest = cc
  first-rest (y ∷ xs) ys x at rest = cc

module _ {R : Type 0} where
  none-place : (entries : List (ℕ × R)) → place_of entries None ≡ length entries
  none-place [] = refl
  none-place (e ∷ entries) = ap (λ n. suc n) (none-place entries)

as-many : (t : Table) → length (row_views t) ≡ length t.keys
as-many t = length-map (places_of (rows_of t.keys)) _ ∙ length-map (rows_of t.keys) (λ row. row.place) ∙ length-map t.keys (λ entry. entry.1)

pub first-rows : (t : Table) (start : Option NodeNo) → place_at t.keys start ≡ 0 → rows_from t start ≡ row_views t
unfolding rows_from
first-rows t start first = ap (λ k. drop k (row_views t)) first

pub after-rows : (t : Table) (node : NodeNo) (next : Option NodeNo) → place_at t.keys next ≡ place_at t.keys (Some node) + 1 → rows_from t next ≡ drop 1 (rows_from t (Some node))
unfolding rows_from
after-rows t node next is = drop-next (row_views t) (place_at t.keys (Some node)) (place_at t.keys next) is

pub none-rows : (t : Table) (next : Option NodeNo) → next ≡ None → rows_from t next ≡ []
unfolding rows_from
none-rows t next none =
    ap (λ node. drop (place_at t.keys node) (row_views t)) none
    ∙ drop_all (place_at t.keys None) (row_views t) (omega (arith, as-many t, none-place t.keys))

-- behind the last no keys are left
pub none-keys : (keys : List (ℕ × KeyRow)) (next : Option NodeNo) → next ≡ None → drop (place_at keys next) (rows_of keys) ≡ []
none-keys keys next none =
    ap (λ start. drop (place_at keys start) (rows_of keys)) none
    ∙ drop_all (place_at keys None) (rows_of keys) (omega (arith, length-map keys (λ entry. entry.1), none-place keys))

-- the row of the key that stands there
pub row-first : (t : Table) (node : NodeNo) (key : KeyRow) → slice_get t.keys (place_at t.keys (Some node)) ≡ Some (node.0, key)
    → slice_get (rows_from t (Some node)) 0 ≡ Some (option_map value_view (get_or t.rows.items key.place None))
unfolding rows_from
row-first t node key at =
    let n = place_at t.keys (Some node) in
    let there : slice_get (rows_of t.keys) n ≡ Some key = slice_get-map (λ entry. entry.1) t.keys n ∙ ap (option_map (λ entry. entry.1)) at in
    drop-first n (row_views t) (option_map value_view (get_or t.rows.items key.place None))
    (slice_get-get_or (row_views t) n None (omega (arith, as-many t, slice_get_within t.keys n (node.0, key) at))
    ∙ ap Some (at-place t n key there))

-- the rows from a node on are its own and those behind it
pub more-rows : (t : Table) (node : NodeNo) (next : Option NodeNo) (row : Option model.Value) → slice_get (rows_from t (Some node)) 0 ≡ Some row
    → rows_from t next ≡ drop 1 (rows_from t (Some node)) → rows_from t (Some node) ≡ row ∷ rows_from t next
more-rows t node next row at rest = first-rest (rows_from t (Some node)) (rows_from t next) row at rest

pub ruleset walk = (more-rows, none-rows)
