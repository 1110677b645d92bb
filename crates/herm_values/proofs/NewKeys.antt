-- Keys that are copied one after another: none of the copies so far has the key of the next.
use Rattle.std.proofs.Common.{◌≡◌, ℕ, zero, suc, ◌+◌, ◌<◌, ◌≤◌, List, [], ◌∷◌, ◌++◌, map, drop, length, slice_get, nat_le, Bool, true, false, ◌&&◌, ◌||◌, not, Option, Some, Err, refl, sym, ap, ◌∙◌, arith, true≢false}
use Rattle.std.specs.List.{list_any}
use Rattle.std.specs.Ordering.{is_eq}
use Rattle.std.specs.Cmp.Lexicographic.{slice_cmp}
use Rattle.std.proofs.lemmas.List.{length-map, length-drop, length-append}
use Rattle.std.proofs.lemmas.Bool.{leb-true}
use Rattle.std.proofs.lemmas.Option.{slice_get_within}
use Rattle.herm_rows.specs.Keys.{most_rows, HaveDifferentKeys}
use Rattle.herm_rows.specs.Faults.{is_duplicate, is_full}
use Rattle.herm_rows.specs.declared.rows.InsertFault.{InsertFault}
use Rattle.herm_rows.specs.declared.rows.InsertFault.TheVariants.{Duplicate, Full}
use Rattle.herm_model.specs.Values as model
use Rattle.herm_model.specs.Tables.{same_key}
use Rattle.herm_model.proofs.Options.{some-injective}
use Rattle.herm_model.proofs.Equality.{same_key_self}
use Rattle.herm_values.specs.View.{key_view}
use Rattle.herm_values.specs.Copies.{key_row_view}
use Rattle.herm_values.specs.declared.scalar.KeyRow.{KeyRow}
use Rattle.herm_values.specs.declared.scalar.Scalar.{Scalar}
use Rattle.herm_values.proofs.KeyedRows.{is_keyed}
use Rattle.herm_values.proofs.SameKeys.{scalar_cmp}
use Rattle.herm_values.proofs.Tables.{to-key}
use Rattle.herm_values.proofs.TakenRows.{Single, single, ordered}

any-there : (p : KeyRow → Bool) (keys : List KeyRow) (n : ℕ) (row : KeyRow) → slice_get keys n ≡ Some row → p row ≡ true → list_any p keys ≡ true
any-there p [] n row at is = cc at
any-there p (k ∷ keys) zero row at is = ap (λ x. p x || list_any p keys) (some-injective at) ∙ ap (λ b. b || list_any p keys) is
any-there p (k ∷ keys) (suc n) row at is = by (p k) (any-there p keys n row at is)
  where
    by : (b : Bool) → list_any p keys ≡ true → (b || list_any p keys) ≡ true
    by true h = refl
    by false h = h

none-before : (key : List model.Scalar) (copies keys : List KeyRow) (n : ℕ) (row : KeyRow) → Single (is_keyed key) keys → is_keyed key row ≡ true → slice_get keys n ≡ Some row → length copies ≡ n
    → map key_row_view copies ++ map key_row_view (drop n keys) ≡ map key_row_view keys → list_any (is_keyed key) copies ≡ false
none-before key [] keys n row alone is at long same = refl
none-before key (c ∷ copies) [] n row alone is at long same = cc at
none-before key (c ∷ copies) (k ∷ keys) zero row alone is at long same = cc long
none-before key (c ∷ copies) (k ∷ keys) (suc n) row alone is at long same =
    let here : key_row_view c ≡ key_row_view k = cc same in
    let there : map key_row_view copies ++ map key_row_view (drop n keys) ≡ map key_row_view keys = cc same in
    by (is_keyed key k) refl (ap (λ x. same_key x.0 key) here) (none-before key copies keys n row alone.1 is at (omega (arith, long)) there)
  where
    by : (b : Bool) → is_keyed key k ≡ b → is_keyed key c ≡ is_keyed key k → list_any (is_keyed key) copies ≡ false → (is_keyed key c || list_any (is_keyed key) copies) ≡ false
    by true t e rest = absurd (true≢false (sym (any-there (is_keyed key) keys n row at is) ∙ alone.0 t))
    by false f e rest = ap (λ b. b || list_any (is_keyed key) copies) (e ∙ f) ∙ rest

pub as-many-copied : (keys copies : List KeyRow) (n : ℕ) (row : KeyRow) → slice_get keys n ≡ Some row → map key_row_view copies ++ map key_row_view (drop n keys) ≡ map key_row_view keys → length copies ≡ n
as-many-copied keys copies n row at same =
    omega (arith, ap length same, length-append (map key_row_view copies) (map key_row_view (drop n keys)), length-map copies key_row_view, length-map (drop n keys) key_row_view, length-map keys key_row_view, length-drop n keys, slice_get_within keys n row at)

pub few-copied : (keys copies : List KeyRow) (n : ℕ) (row : KeyRow) → slice_get keys n ≡ Some row → map key_row_view copies ++ map key_row_view (drop n keys) ≡ map key_row_view keys
    → length keys ≤ most_rows → length copies < most_rows
few-copied keys copies n row at same few = omega (arith, few, as-many-copied keys copies n row at same, slice_get_within keys n row at)

-- the next key is a new one among the copies
pub new-key : (keys copies : List KeyRow) (n : ℕ) (row copy : KeyRow) → HaveDifferentKeys ordered keys → slice_get keys n ≡ Some row → key_row_view copy ≡ key_row_view row
    → map key_row_view copies ++ map key_row_view (drop n keys) ≡ map key_row_view keys → list_any (is_keyed (key_view copy.key.items)) copies ≡ false
new-key keys copies n row copy differ at is same =
    none-before (key_view copy.key.items) copies keys n row (single (key_view copy.key.items) keys differ)
    (ap (λ x. same_key x.0 (key_view copy.key.items)) (sym is) ∙ same_key_self (key_view copy.key.items)) at (as-many-copied keys copies n row at same) same

module _ (keys : List KeyRow) (new : List Scalar) (fault : InsertFault KeyRow) (x : KeyRow) where
  abbrev any : Bool
  any = list_any (λ (row : KeyRow). is_eq (slice_cmp scalar_cmp row.key.items new)) keys

  pub no-duplicate : fault ≡ Duplicate x → is_duplicate {A = Unit {0}} (Err fault) ≡ any → list_any (is_keyed (key_view new)) keys ≡ false → ⊥
  no-duplicate was d none = true≢false (sym (ap (λ e. is_duplicate {A = Unit {0}} (Err e)) was) ∙ d ∙ ap (λ p. list_any p keys) (to-key new) ∙ none)

  and-second : (a b : Bool) → true ≡ (a && b) → b ≡ true
  and-second true b h = sym h
  and-second false b h = cc h

  pub not-full : fault ≡ Full x → is_full {A = Unit {0}} (Err fault) ≡ (not any && nat_le most_rows (length keys)) → length keys < most_rows → ⊥
  not-full was f few = absurd (omega (arith, few, leb-true most_rows (length keys) (and-second (not any) (nat_le most_rows (length keys)) (sym (ap (λ e. is_full {A = Unit {0}} (Err e)) was) ∙ f))))
