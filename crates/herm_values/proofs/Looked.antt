-- What is looked up in lists.
use Rattle.std.proofs.Common.{◌≡◌, ℕ, option_map, Option, Some, None, refl, ap, ◌∙◌, slice_get, get_or, zero, suc, [], ◌∷◌, true, cond, List, sym}
use Rattle.std.proofs.Math.ListN as lists
use Rattle.std.proofs.lemmas.Option.{get_or_from_slice_get, slice_get-map}
use Rattle.std.specs.Option.{option_copied}
use denote.Bor.{Bor}
use Rattle.herm_rows.specs.Keys.{rows_of}
use Rattle.herm_model.specs.Values as model
use Rattle.herm_model.specs.Values.{cell, no_parts, part_at, inside, opens}
use Rattle.herm_values.specs.Parts.{parts_from}
use Rattle.herm_values.specs.View.{value_view, views_of, row_views, places_of}
use Rattle.herm_values.specs.declared.scalar.KeyRow.{KeyRow}
use Rattle.herm_values.specs.declared.value.Value.{Value}
use Rattle.herm_values.specs.declared.value.Table.{Table}

-- a value that is lent is seen as it is
pub lent_view : (o : Option (Bor Value)) → option_map (λ v. value_view v.now) o ≡ option_map value_view (option_copied o)
lent_view None = refl
lent_view (Some v) = refl

-- the row of the key at a place
pub at-place : (t : Table) (n : ℕ) (key : KeyRow) → slice_get (rows_of t.keys) n ≡ Some key → get_or (row_views t) n None ≡ option_map value_view (get_or t.rows.items key.place None)
at-place t n key at =
    get_or_from_slice_get (row_views t) n (get_or (views_of t.rows.items) key.place None) None
    (slice_get-map _ (places_of (rows_of t.keys)) n ∙ ap (option_map _) (slice_get-map (λ row. row.place) (rows_of t.keys) n ∙ ap (option_map _) at))
    ∙ lists.get_or-map (option_map value_view) t.rows.items key.place None

-- a place of parts is the place of their list
pub part-at : (i : ℕ) (os : List (Option model.Value)) → part_at i (parts_from os) ≡ get_or os i None
part-at i [] = refl
part-at zero (None ∷ os) = refl
part-at zero (Some c ∷ os) = refl
part-at (suc i) (None ∷ os) = part-at i os
part-at (suc i) (Some c ∷ os) = part-at i os

-- what a record or a callmessage has at a place
pub field-at : (v : model.Value) (k : model.Kind) (os : List (Option model.Value)) (i : ℕ) (o : Option model.Value) → v ≡ cell tt k (parts_from os) → opens k ≡ true → o ≡ get_or os i None → o ≡ part_at i (inside (Some v))
field-at v k os i o is open' h = h ∙ sym (part-at i os) ∙ ap (λ b. part_at i (cond b (parts_from os) no_parts)) (sym open') ∙ ap (λ x. part_at i (inside (Some x))) (sym is)
