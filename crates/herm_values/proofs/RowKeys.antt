-- Keys of the code beside the keys that rows have.
use Rattle.std.proofs.Common.{◌≡◌, ◌≤◌, ◌<◌, ℕ, List, [], ◌∷◌, ◌++◌, Bool, true, false, not, ◌&&◌, ◌||◌, Option, Some, None, drop, length, slice_get, nat_le, zero, suc, ◌+◌, ◌-◌, add-one, refl, sym, ap, ◌∙◌, arith}
use Rattle.std.proofs.lemmas.Bool.{leb-true, leb-false}
use Rattle.std.proofs.lemmas.Option.{slice_get_within}
use Rattle.herm_links.specs.declared.links.NodeNo.{NodeNo}
use Rattle.herm_rows.specs.Keys.{most_rows}
use Rattle.herm_rows.specs.Nodes.{place_at}
use Rattle.std.specs.List.{list_any}
use Rattle.herm_model.specs.Values as model
use Rattle.herm_model.specs.Values.{Cell, cell, size, a_scalar, a_record, a_variant, a_table, a_polymorph, a_callmessage, an_inport, an_outport}
use Rattle.herm_model.specs.Tables.{scalars_of, same_key, key_of, has_key}
use Rattle.herm_model.proofs.Options.{some-injective}
use Rattle.herm_values.specs.Keys.{is_plain, is_scalar}
use Rattle.herm_values.specs.Whole.{AreKept}
use Rattle.herm_values.proofs.KeyedRows.{named, named-keys, named-size, is_keyed}
use Rattle.herm_values.specs.declared.scalar.KeyRow.{KeyRow}

module _ {N : Type 0} where
  pub behind_other : (c : Cell N) (key rest : List model.Scalar) → is_plain c ≡ false → same_key key (scalars_of c ++ rest) ≡ same_key key rest
  behind_other (cell n (a_scalar s) ps) key rest h = cc h
  behind_other (cell n a_record ps) key rest h = refl
  behind_other (cell n (a_variant i) ps) key rest h = refl
  behind_other (cell n a_table ps) key rest h = refl
  behind_other (cell n (a_polymorph t) ps) key rest h = refl
  behind_other (cell n (a_callmessage p i) ps) key rest h = refl
  behind_other (cell n (an_inport p) ps) key rest h = refl
  behind_other (cell n (an_outport p) ps) key rest h = refl

  pub behind_plain : (c : Cell N) (s : model.Scalar) (key rest : List model.Scalar) → is_plain c ≡ true → same_key (s ∷ key) (scalars_of c ++ rest) ≡ (is_scalar s c && same_key key rest)
  behind_plain (cell n (a_scalar t) ps) s key rest h = refl
  behind_plain (cell n a_record ps) s key rest h = cc h
  behind_plain (cell n (a_variant i) ps) s key rest h = cc h
  behind_plain (cell n a_table ps) s key rest h = cc h
  behind_plain (cell n (a_polymorph t) ps) s key rest h = cc h
  behind_plain (cell n (a_callmessage p i) ps) s key rest h = cc h
  behind_plain (cell n (an_inport p) ps) s key rest h = cc h
  behind_plain (cell n (an_outport p) ps) s key rest h = cc h

  pub behind_none : (c : Cell N) (rest : List model.Scalar) → is_plain c ≡ true → same_key [] (scalars_of c ++ rest) ≡ false
  behind_none (cell n (a_scalar t) ps) rest h = refl
  behind_none (cell n a_record ps) rest h = cc h
  behind_none (cell n (a_variant i) ps) rest h = cc h
  behind_none (cell n a_table ps) rest h = cc h
  behind_none (cell n (a_polymorph t) ps) rest h = cc h
  behind_none (cell n (a_callmessage p i) ps) rest h = cc h
  behind_none (cell n (an_inport p) ps) rest h = cc h
  behind_none (cell n (an_outport p) ps) rest h = cc h

pub ruleset behind_key = (behind_other, behind_plain, behind_none)

-- among the keys from a place on
any-first : (p : KeyRow → Bool) (keys : List KeyRow) (n : ℕ) (k : KeyRow) → slice_get keys n ≡ Some k → list_any p (drop n keys) ≡ (p k || list_any p (drop (suc n) keys))
any-first p [] n k at = cc at
any-first p (x ∷ keys) zero k at = ap (λ y. p y || list_any p keys) (some-injective at)
any-first p (x ∷ keys) (suc n) k at = any-first p keys n k at

-- the row at a place is told, or passed
module _ (p : KeyRow → Bool) (keys : List KeyRow) (n : ℕ) (k : KeyRow) (at : slice_get keys n ≡ Some k) (so-far : list_any p (drop n keys) ≡ list_any p keys) where
  with-first : (p k || list_any p (drop (suc n) keys)) ≡ list_any p keys
  with-first = sym (any-first p keys n k at) ∙ so-far

  pub any-passed : p k ≡ false → list_any p (drop (n + 1) keys) ≡ list_any p keys
  any-passed f = ap (λ m. list_any p (drop m keys)) (add-one n) ∙ ap (λ b. b || list_any p (drop (suc n) keys)) (sym f) ∙ with-first

  pub any-told : p k ≡ true → true ≡ list_any p keys
  any-told t = ap (λ b. b || list_any p (drop (suc n) keys)) (sym t) ∙ with-first

-- the node behind is nearer to the end
pub nearer : (keys : List (ℕ × KeyRow)) (next behind : Option NodeNo) (node : NodeNo) (row : KeyRow) → next ≡ Some node → place_at keys behind ≡ place_at keys (Some node) + 1
    → slice_get keys (place_at keys (Some node)) ≡ Some (node.0, row) → length keys - place_at keys behind < length keys - place_at keys next
nearer keys next behind node row is after at =
    let here : place_at keys next ≡ place_at keys (Some node) = ap (place_at keys) is in
    omega (arith, here, after, slice_get_within keys (place_at keys (Some node)) (node.0, row) at)

full-test : (n : ℕ) → most_rows ≤ n → nat_le most_rows n ≡ true
full-test n h = by (nat_le most_rows n) refl
  where
    by : (b : Bool) → nat_le most_rows n ≡ b → nat_le most_rows n ≡ true
    by true e = e
    by false e = absurd (omega (arith, h, leb-false most_rows n e))

room-test : (n : ℕ) → n < most_rows → nat_le most_rows n ≡ false
room-test n h = by (nat_le most_rows n) refl
  where
    by : (b : Bool) → nat_le most_rows n ≡ b → nat_le most_rows n ≡ false
    by true e = absurd (omega (arith, h, leb-true most_rows n e))
    by false e = e

-- whether the key of a row was found among the keys of a table
module _ (columns lent : List ℕ) (rows : List (Option model.Value)) (keys : List KeyRow) (row : model.Value) (found : Bool)
    (kept : AreKept columns keys rows) (same : lent ≡ columns) (is : found ≡ list_any (is_keyed (key_of lent row)) keys) where
  abbrev there : Bool
  there = has_key columns (key_of columns row) (named columns rows keys)

  found-there : found ≡ there
  found-there = is ∙ ap (λ cs. list_any (is_keyed (key_of cs row)) keys) same ∙ sym (named-keys columns rows (key_of columns row) keys kept.found)

  pub told-there : found ≡ true → true ≡ there
  told-there t = sym t ∙ found-there

  pub there-not-full : (full : Bool) → found ≡ true → false ≡ (not there && full)
  there-not-full full t = ap (λ b. not b && full) (told-there t)

  pub told-none : found ≡ false → false ≡ there
  told-none f = sym f ∙ found-there

  pub none-full : found ≡ false → most_rows ≤ length keys → true ≡ (not there && nat_le most_rows (size (named columns rows keys)))
  none-full f many =
      sym (full-test (length keys) many)
      ∙ ap (nat_le most_rows) (sym (named-size columns rows keys kept.found))
      ∙ ap (λ b. not b && nat_le most_rows (size (named columns rows keys))) (told-none f)

  pub none-room : found ≡ false → length keys < most_rows → false ≡ (not there && nat_le most_rows (size (named columns rows keys)))
  none-room f few =
      sym (room-test (length keys) few)
      ∙ ap (nat_le most_rows) (sym (named-size columns rows keys kept.found))
      ∙ ap (λ b. not b && nat_le most_rows (size (named columns rows keys))) (told-none f)
