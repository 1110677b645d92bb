-- A row that is ordered by a key that it holds keeps the laws of rows.
use Rattle.std.specs.Prelude.{◌≡◌, ◌≢◌, ◌≤◌, refl}
use Rattle.std.specs.Cmp.{IsTotalOrder, alike_right, tied_back, on_total}
use Rattle.std.specs.Ordering.{ordering_index}
use Rattle.std.specs.declared.cmp.Ordering.{Ordering}
use Rattle.std.specs.declared.cmp.Ordering.TheVariants.{Less, Equal, Greater}
use Rattle.std.proofs.Common.{sym, ◌∙◌, arith}
use Rattle.herm_rows.specs.Keys.{IsOneKey, AreKeysInOrder}

-- rows are ordered by a key of theirs
abbrev pub by_key : {R Key : Type 0} → (R → Key) → (Key → Key → Ordering) → R → R → Ordering
by_key key_of cmp row other = cmp (key_of row) (key_of other)

-- and that key stands to another as the order of keys says
abbrev pub to_key : {R Key : Type 0} → (R → Key) → (Key → Key → Ordering) → R → Key → Ordering
to_key key_of cmp row key = cmp (key_of row) key

at-most-two : (o : Ordering) → ordering_index o ≤ 2
at-most-two Less = omega arith
at-most-two Equal = omega arith
at-most-two Greater = omega arith

module _ {R Key : Type 0} {cmp : Key → Key → Ordering} (key_of : R → Key) (total : IsTotalOrder cmp) where
  pub by_key_total : IsTotalOrder (by_key key_of cmp)
  by_key_total = on_total key_of total

  pub by_key_one : IsOneKey (by_key key_of cmp) (to_key key_of cmp)
  by_key_one x y key first second = total.congr (key_of x) key (key_of y) first ∙ tied_back total (key_of y) key second

  index-below : (x y : R) (key : Key) (o p : Ordering) → cmp (key_of x) (key_of y) ≡ o → cmp (key_of y) key ≡ p
      → o ≢ Greater → ordering_index (cmp (key_of x) key) ≤ ordering_index p
  index-below x y key Less Less is at not_after =
      rw (total.trans (key_of x) (key_of y) key is at) (omega arith)
  index-below x y key Less Equal is at not_after =
      rw (sym (alike_right total (key_of y) key (key_of x) at) ∙ is) (omega arith)
  index-below x y key Less Greater is at not_after = at-most-two (cmp (key_of x) key)
  index-below x y key Equal p is at not_after = rw (total.congr (key_of x) (key_of y) key is ∙ at) (omega arith)
  index-below x y key Greater p is at not_after = absurd (not_after refl)

  pub by_key_in_order : AreKeysInOrder (by_key key_of cmp) (to_key key_of cmp)
  by_key_in_order x y key not_after =
      index-below x y key (cmp (key_of x) (key_of y)) (cmp (key_of y) key) refl refl not_after
