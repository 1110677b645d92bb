-- Lists whose rows have different keys.
use Rattle.std.specs.Prelude.{◌≡◌, ◌≢◌, ℕ, zero, suc, ◌<◌, Bool, true, false, ◌||◌, List, [], ◌∷◌, ◌++◌, length, Some, remove, slice_get, refl}
use Rattle.std.specs.List.{list_any}
use Rattle.std.specs.Ordering.{is_eq}
use Rattle.std.specs.declared.cmp.Ordering.{Ordering}
use Rattle.std.specs.declared.cmp.Ordering.TheVariants.{Less, Equal, Greater}
use Rattle.std.proofs.Common.{get_or, arith, subst, inl, inr}
use Rattle.std.proofs.lemmas.Option.{slice_get_within, get_or_from_slice_get}
use Rattle.std.proofs.lemmas.List.Quantifiers.{all_pairs_push, all_pairs_remove}
use Rattle.herm_rows.specs.Keys.{has_key, is_key_of, HaveDifferentKeys, IsOneKey}
use Rattle.herm_rows.proofs.Edits.{places}

either : (a b : Bool) → (a || b) ≡ false → (a ≡ false) × (b ≡ false)
either true b is = absurd (cc is)
either false b is = (refl, is)

pub is-equal : (o : Ordering) → is_eq o ≡ true → o ≡ Equal
is-equal Less is = cc
is-equal Equal is = refl
is-equal Greater is = cc

not-equal : (o : Ordering) → is_eq o ≡ false → o ≢ Equal
not-equal Less is = λ e. cc e
not-equal Equal is = λ e. cc is
not-equal Greater is = λ e. cc e

pub maybe-equal : (o : Ordering) → (o ≡ Equal → ⊥) → is_eq o ≡ false
maybe-equal Less is = refl
maybe-equal Equal is = absurd (is refl)
maybe-equal Greater is = refl

module _ {R : Type 0} where
  none-passes : (p : R → Bool) (xs : List R) (k : ℕ) (d : R) → list_any p xs ≡ false → k < length xs
      → p (get_or xs k d) ≡ false
  none-passes p [] k d none within = absurd (omega arith)
  none-passes p (x ∷ xs) zero d none within = (either (p x) (list_any p xs) none).0
  none-passes p (x ∷ xs) (suc k) d none within =
      none-passes p xs k d (either (p x) (list_any p xs) none).1 (omega arith)

  -- a row whose key is not there may be put last
  pub different-pushed : (order : R → R → Ordering) (row : R) (rows : List R)
      → list_any (is_key_of order row) rows ≡ false → HaveDifferentKeys order rows
      → HaveDifferentKeys order (rows ++ row ∷ [])
  different-pushed order row rows none different =
      all_pairs_push (λ x y. order x y ≢ Equal) rows row different
      (λ k d within. not-equal (order (get_or rows k d) row) (none-passes (is_key_of order row) rows k d none within))

  pub different-removed : (order : R → R → Ordering) (rows : List R) (i : ℕ) → i < length rows
      → HaveDifferentKeys order rows → HaveDifferentKeys order (remove rows i)
  different-removed order rows i within different =
      all_pairs_remove (λ x y. order x y ≢ Equal) rows i within different

  -- rows at two places have different keys
  pub keys-apart : (order : R → R → Ordering) (rows : List R) (i k : ℕ) (x y : R) → HaveDifferentKeys order rows
      → i < k → slice_get rows i ≡ Some x → slice_get rows k ≡ Some y → order x y ≢ Equal
  keys-apart order rows i k x y different below first second =
      let one = get_or_from_slice_get rows i x x first in
      let two = get_or_from_slice_get rows k y x second in
      subst (λ z. order x z ≢ Equal) two
      (subst (λ z. order z (get_or rows k x) ≢ Equal) one (different i k x below (slice_get_within rows k y second)))

module _ {R Key : Type 0} (order : R → R → Ordering) (order_key : R → Key → Ordering) (one : IsOneKey order order_key) where
  -- of rows with different keys one alone has a key
  pub one-alone : (rows : List R) (key : Key) (i k : ℕ) (y x : R) → HaveDifferentKeys order rows
      → slice_get rows i ≡ Some y → order_key y key ≡ Equal → slice_get rows k ≡ Some x → k ≢ i
      → has_key order_key key x ≡ false
  one-alone rows key i k y x different first is second apart =
      maybe-equal
      (order_key x key)
      (λ e. elim (places k i apart) [
        | inl below ↦ keys-apart order rows k i x y different below second first (one x y key e is)
        | inr above ↦ keys-apart order rows i k y x different above first second (one y x key is e)
      ])
