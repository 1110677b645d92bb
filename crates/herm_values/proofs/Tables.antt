-- What a table's calls do with its keys and rows, in the model's words.
use Rattle.std.proofs.Common.{◌≡◌, ℕ, zero, suc, List, [], ◌∷◌, ◌++◌, Bool, true, false, not, ◌&&◌, ◌||◌, Option, Some, None, Err, cond, is_some, IsSome, inl, inr, option_map, option_and_then, get_or, length, ◌<◌, nat_le, refl, sym, ap, ap₂, subst, ◌∙◌, arith, rules}
use denote.Bor.{Bor}
use Rattle.std.proofs.Math.ListN as lists
use Rattle.std.specs.Prelude.{find, ⊤}
use Rattle.std.specs.List.{AllByRecursion, list_any}
use Rattle.std.specs.Ordering.{is_eq}
use Rattle.herm_rows.specs.Keys.{without, HaveDifferentKeys, most_rows}
use Rattle.herm_rows.specs.Faults.{is_duplicate, is_full}
use Rattle.herm_rows.specs.declared.rows.InsertFault.{InsertFault}
use Rattle.herm_rows.specs.declared.rows.InsertFault.TheVariants.{Duplicate, Full}
use Rattle.herm_model.specs.Values as model
use Rattle.herm_model.specs.Values.{Parts, part, no_parts, place, part_at, joined, size}
use Rattle.herm_model.specs.Lists.{IsIn, map_or}
use Rattle.herm_model.specs.Tables.{key_of, has_key, place_of_key, without_part}
use Rattle.herm_model.proofs.Keys.{place-there}
use Rattle.herm_values.specs.Parts.{rows_at}
use Rattle.herm_values.specs.View.{value_view, views_of, key_view, places_of}
use Rattle.herm_values.specs.Keys.{row_with, without_key}
use Rattle.herm_values.specs.Whole.{HasRow, AreKept}
use Rattle.herm_values.specs.declared.scalar.KeyRow.{KeyRow}
use Rattle.herm_values.specs.declared.scalar.Scalar.{Scalar}
use Rattle.herm_values.specs.declared.value.Value.{Value}
use Rattle.herm_values.proofs.KeyedRows.{named, named-size, named-keys, named-found, is_keyed}
use Rattle.herm_values.proofs.PutRows.{unnamed, kept-put, named-put}
use Rattle.herm_values.proofs.TakenRows.{IsTaken, taken-out, taken-place, kept-left, named-left, single, ordered}
use Rattle.herm_values.proofs.SameKeys.{keys_same, scalar_cmp}
use Rattle.std.specs.Cmp.Lexicographic.{slice_cmp}

-- what is read at a place of the views
pub view-at : (rows : List (Option Value)) (i : ℕ) → get_or (views_of rows) i None ≡ option_map value_view (get_or rows i None)
view-at rows i = lists.get_or-map (option_map value_view) rows i None

pub views-at : (rows changed : List (Option Value)) (i : ℕ) → get_or changed i None ≡ get_or rows i None → get_or (views_of changed) i None ≡ get_or (views_of rows) i None
views-at rows changed i same = view-at changed i ∙ ap (option_map value_view) same ∙ sym (view-at rows i)

-- keys as the code compares them
pub to-key : (key : List Scalar) → (λ (row : KeyRow). is_eq (slice_cmp scalar_cmp row.key.items key)) ≡ is_keyed (key_view key)
to-key key = λ i row. keys_same row.key.items key i

module _ (columns : List ℕ) (rows changed : List (Option model.Value)) (same : (i : ℕ) → get_or changed i None ≡ get_or rows i None) where
  pub named-same : (keys : List KeyRow) → named columns changed keys ≡ named columns rows keys
  named-same [] = refl
  named-same (k ∷ keys) = ap₂ place (same k.place) (named-same keys)

  found-same : (keys : List KeyRow) → AllByRecursion (HasRow columns rows) keys → AllByRecursion (HasRow columns changed) keys
  found-same [] h = h
  found-same (k ∷ keys) h = (record { row = h.0.row; there = same k.place ∙ h.0.there; keyed = h.0.keyed }, found-same keys h.1)

  pub kept-same : (keys : List KeyRow) → AreKept columns keys rows → AreKept columns keys changed
  kept-same keys kept = record { differ = kept.differ; found = found-same keys kept.found; elsewhere = λ i out. same i ∙ kept.elsewhere i out }

-- whether a row has the key of a new one
pub key-there : (columns : List ℕ) (rows : List (Option model.Value)) (keys : List KeyRow) (new : List Scalar) (key : List model.Scalar) → key_view new ≡ key → AreKept columns keys rows → list_any (λ (row : KeyRow). is_eq (slice_cmp scalar_cmp row.key.items new)) keys ≡ has_key columns key (named columns rows keys)
key-there columns rows keys new key is kept = ap (λ p. list_any p keys) (to-key new) ∙ ap (λ k. list_any (is_keyed k) keys) is ∙ sym (named-keys columns rows key keys kept.found)

any-none : (any full : Bool) → false ≡ any → false ≡ (not any && full) → (any ≡ false) × (full ≡ false)
any-none true full d f = absurd (cc d)
any-none false full d f = (refl, sym f)

any-full : (any full : Bool) → false ≡ any → true ≡ (not any && full) → (any ≡ false) × (full ≡ true)
any-full true full d f = absurd (cc d)
any-full false full d f = (refl, sym f)

module _ (columns : List ℕ) (rows : List (Option model.Value)) (keys : List KeyRow) (new : List Scalar) (key : List model.Scalar) (is : key_view new ≡ key) (kept : AreKept columns keys rows) where
  abbrev any : Bool
  any = list_any (λ (row : KeyRow). is_eq (slice_cmp scalar_cmp row.key.items new)) keys

  sized : (b : Bool) → nat_le most_rows (length keys) ≡ b → nat_le most_rows (size (named columns rows keys)) ≡ b
  sized b h = ap (nat_le most_rows) (named-size columns rows keys kept.found) ∙ h

  pub answers-ok : false ≡ any → false ≡ (not any && nat_le most_rows (length keys)) → (has_key columns key (named columns rows keys) ≡ false) × (nat_le most_rows (size (named columns rows keys)) ≡ false)
  answers-ok d f = let h = any-none any (nat_le most_rows (length keys)) d f in (sym (key-there columns rows keys new key is kept) ∙ h.0, sized false h.1)

  pub answers-duplicate : (fault : InsertFault KeyRow) (x : KeyRow) → fault ≡ Duplicate x → is_duplicate {A = Unit {0}} (Err fault) ≡ any → has_key columns key (named columns rows keys) ≡ true
  answers-duplicate fault x was d = sym (key-there columns rows keys new key is kept) ∙ sym d ∙ ap (λ e. is_duplicate {A = Unit {0}} (Err e)) was

  pub answers-full : (fault : InsertFault KeyRow) (x : KeyRow) → fault ≡ Full x → is_duplicate {A = Unit {0}} (Err fault) ≡ any → is_full {A = Unit {0}} (Err fault) ≡ (not any && nat_le most_rows (length keys)) → (has_key columns key (named columns rows keys) ≡ false) × (nat_le most_rows (size (named columns rows keys)) ≡ true)
  answers-full fault x was d f =
      let h = any-full any (nat_le most_rows (length keys)) (sym (ap (λ e. is_duplicate {A = Unit {0}} (Err e)) was) ∙ d) (sym (ap (λ e. is_full {A = Unit {0}} (Err e)) was) ∙ f) in
      (sym (key-there columns rows keys new key is kept) ∙ h.0, sized true h.1)

-- a row has been put at an empty place, and its key behind the others
module _ (columns : List ℕ) (rows wider changed : List (Option Value)) (row : Value) (key : KeyRow)
    (same : (i : ℕ) → get_or wider i None ≡ get_or rows i None)
    (empty : get_or wider key.place None ≡ None)
    (put : get_or changed key.place None ≡ Some row)
    (others : (i : ℕ) → (i ≡ key.place → ⊥) → get_or changed i None ≡ get_or wider i None) where
  view-empty : get_or (views_of rows) key.place None ≡ None
  view-empty = view-at rows key.place ∙ ap (option_map value_view) (sym (same key.place) ∙ empty)

  view-put : get_or (views_of changed) key.place None ≡ Some (value_view row)
  view-put = view-at changed key.place ∙ ap (option_map value_view) put

  view-others : (i : ℕ) → (i ≡ key.place → ⊥) → get_or (views_of changed) i None ≡ get_or (views_of rows) i None
  view-others i apart = views-at rows changed i (others i apart ∙ same i)

  pub row-kept : (keys : List KeyRow) → key_view key.key.items ≡ key_of columns (value_view row) → AreKept columns keys (views_of rows) → AreKept columns (keys ++ key ∷ []) (views_of changed)
  row-kept keys is kept = kept-put columns (views_of rows) (views_of changed) key (value_view row) view-put view-others keys (sym is) view-empty kept

  pub row-named : (keys : List KeyRow) → AreKept columns keys (views_of rows) → named columns (views_of changed) (keys ++ key ∷ []) ≡ joined (named columns (views_of rows) keys) (part (value_view row) no_parts)
  row-named keys kept = named-put columns (views_of rows) (views_of changed) key (value_view row) view-put view-others keys (unnamed columns (views_of rows) key.place keys view-empty kept.found)

-- a row has been taken out
module _ (columns : List ℕ) (rows changed : List (Option Value)) (keys : List KeyRow) (key : List Scalar) (r : KeyRow)
    (found : find (λ (row : KeyRow). is_eq (slice_cmp scalar_cmp row.key.items key)) keys ≡ Some r)
    (different : HaveDifferentKeys ordered keys)
    (kept : AreKept columns keys (views_of rows)) where
  abbrev test : KeyRow → Bool
  test row = is_eq (slice_cmp scalar_cmp row.key.items key)

  keyed : find (is_keyed (key_view key)) keys ≡ Some r
  keyed = sym (ap (λ p. find p keys) (to-key key)) ∙ found

  taken : IsTaken (is_keyed (key_view key)) keys r (without test keys)
  taken = subst (λ left. IsTaken (is_keyed (key_view key)) keys r left) (sym (ap (λ p. without p keys) (to-key key))) (taken-out (is_keyed (key_view key)) keys r (single (key_view key) keys different) keyed)

  has-row : (ks : List KeyRow) (i : ℕ) → AllByRecursion (HasRow columns (views_of rows)) ks → IsIn i (places_of ks) → (o : model.Value) × (get_or (views_of rows) i None ≡ Some o)
  has-row [] i h none = absurd none
  has-row (k ∷ ks) i h (inl e) = (h.0.row, ap (λ j. get_or (views_of rows) j None) e ∙ h.0.there)
  has-row (k ∷ ks) i h (inr rest) = has-row ks i h.1 rest

  pub row-found : option_map value_view (get_or rows r.place None) ≡ row_with columns (key_view key) (named columns (views_of rows) keys)
  row-found = sym (view-at rows r.place) ∙ ap (λ o. option_and_then (λ (k : KeyRow). get_or (views_of rows) k.place None) o) (sym keyed) ∙ sym (named-found columns (views_of rows) (key_view key) keys kept.found)

  pub row-there : (o : model.Value) × (option_map value_view (get_or rows r.place None) ≡ Some o)
  row-there = let h = has-row keys r.place kept.found (taken-place (is_keyed (key_view key)) keys (without test keys) r taken) in (h.0, sym (view-at rows r.place) ∙ h.1)

  module _ (gone : get_or changed r.place None ≡ None) (others : (i : ℕ) → (i ≡ r.place → ⊥) → get_or changed i None ≡ get_or rows i None) where
    view-gone : get_or (views_of changed) r.place None ≡ None
    view-gone = view-at changed r.place ∙ ap (option_map value_view) gone

    view-same : (i : ℕ) → (i ≡ r.place → ⊥) → get_or (views_of changed) i None ≡ get_or (views_of rows) i None
    view-same i apart = views-at rows changed i (others i apart)

    pub others-kept : AreKept columns (without test keys) (views_of changed)
    others-kept = kept-left columns (views_of rows) (views_of changed) (key_view key) r view-same keys (without test keys) taken view-gone kept

    pub others-named : named columns (views_of changed) (without test keys) ≡ without_key columns (key_view key) (named columns (views_of rows) keys)
    others-named = named-left columns (views_of rows) (views_of changed) (key_view key) r view-same keys (without test keys) taken kept.differ kept.found

-- no row has the key
pub none-found : (columns : List ℕ) (rows : List (Option model.Value)) (keys : List KeyRow) (key : List Scalar) → find (λ (row : KeyRow). is_eq (slice_cmp scalar_cmp row.key.items key)) keys ≡ None → AreKept columns keys rows → row_with columns (key_view key) (named columns rows keys) ≡ None
none-found columns rows keys key none kept = named-found columns rows (key_view key) keys kept.found ∙ ap (λ o. option_and_then (λ (k : KeyRow). get_or rows k.place None) o) (sym (ap (λ p. find p keys) (to-key key)) ∙ none)

-- a row was refused: the keys are as before, and at most one empty place is more
module _ (columns : List ℕ) (rows wider : List (Option Value)) (same : (i : ℕ) → get_or wider i None ≡ get_or rows i None) (keys new : List KeyRow) (kept-keys : new ≡ keys) where
  pub refused-parts : named columns (views_of wider) new ≡ named columns (views_of rows) keys
  refused-parts = ap (named columns (views_of wider)) kept-keys ∙ named-same columns (views_of rows) (views_of wider) (λ i. views-at rows wider i (same i)) keys

  pub refused-kept : AreKept columns keys (views_of rows) → AreKept columns new (views_of wider)
  refused-kept kept = subst (λ ks. AreKept columns ks (views_of wider)) (sym kept-keys) (kept-same columns (views_of rows) (views_of wider) (λ i. views-at rows wider i (same i)) keys kept)

-- each place of the order has a row
pub row-of-place : (columns : List ℕ) (rows : List (Option model.Value)) (keys : List KeyRow) (n : ℕ) → AllByRecursion (HasRow columns rows) keys → n < length (rows_at (places_of keys) rows) → (o : model.Value) × (get_or (rows_at (places_of keys) rows) n None ≡ Some o)
row-of-place columns rows [] n h within = absurd (omega (arith, within))
row-of-place columns rows (k ∷ keys) zero h within = (h.0.row, h.0.there)
row-of-place columns rows (k ∷ keys) (suc n) h within = row-of-place columns rows keys n h.1 (omega (arith, within))

pub some-lent : (lent : Option (Bor Value)) (o : model.Value) → option_map (λ v. value_view v.now) lent ≡ Some o → IsSome lent
some-lent None o e = cc
some-lent (Some v) o e = search rules

-- the row that a key finds
pub key-found : (columns : List ℕ) (rows : List (Option model.Value)) (keys : List KeyRow) (key : List Scalar) (r : KeyRow) → find (λ (row : KeyRow). is_eq (slice_cmp scalar_cmp row.key.items key)) keys ≡ Some r → AreKept columns keys rows → get_or rows r.place None ≡ row_with columns (key_view key) (named columns rows keys)
key-found columns rows keys key r found kept = ap (λ o. option_and_then (λ (k : KeyRow). get_or rows k.place None) o) (sym found ∙ ap (λ p. find p keys) (to-key key)) ∙ sym (named-found columns rows (key_view key) keys kept.found)

none-any : (p : KeyRow → Bool) (keys : List KeyRow) → find p keys ≡ None → list_any p keys ≡ false
none-any p [] e = refl
none-any p (k ∷ keys) e = by (p k) e (none-any p keys)
  where
    by : (b : Bool) → cond b (Some k) (find p keys) ≡ None → (find p keys ≡ None → list_any p keys ≡ false) → (b || list_any p keys) ≡ false
    by true e rest = cc
    by false e rest = rest e

none-out : (ps : Parts ⊤) (f : ℕ → Parts ⊤) (o : Option ℕ) → is_some o ≡ false → map_or ps f o ≡ ps
none-out ps f None e = refl
none-out ps f (Some i) e = cc

-- where no row has the key, none is taken out
pub none-left : (columns : List ℕ) (rows : List (Option model.Value)) (keys new : List KeyRow) (key : List Scalar) → find (λ (row : KeyRow). is_eq (slice_cmp scalar_cmp row.key.items key)) keys ≡ None → new ≡ keys → AreKept columns keys rows → named columns rows new ≡ without_key columns (key_view key) (named columns rows keys)
none-left columns rows keys new key none same kept =
    let ps = named columns rows keys in
    ap (named columns rows) same
    ∙ sym (none-out ps (λ i. without_part i ps) (place_of_key columns (key_view key) ps)
    (place-there columns (key_view key) ps ∙ named-keys columns rows (key_view key) keys kept.found ∙ none-any (is_keyed (key_view key)) keys (sym (ap (λ p. find p keys) (to-key key)) ∙ none)))

-- a place that holds something is there
pub within-there : (rows : List (Option Value)) (i : ℕ) (o : model.Value) → option_map value_view (get_or rows i None) ≡ Some o → i < length rows
within-there [] i o e = cc
within-there (x ∷ rows) zero o e = omega arith
within-there (x ∷ rows) (suc i) o e = omega (arith, within-there rows i o e)
