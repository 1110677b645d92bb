-- What the place in the index says of the list of rows.
use Rattle.std.specs.Prelude.{◌≡◌, ℕ, Bool, true, false, nat_lt, List, Option, Some, None, Err, option_map, find, slice_get, remove, refl}
use Rattle.std.specs.Ordering.{is_eq}
use Rattle.std.specs.declared.cmp.Ordering.{Ordering}
use Rattle.std.specs.declared.cmp.Ordering.TheVariants.{Less, Equal, Greater}
use Rattle.std.proofs.Common.{sym, ◌∙◌, ap}
use Rattle.std.proofs.lemmas.Option.{slice_get-map}
use borrow.Author.Tests.{ltb-true, ltb-false}
use Rattle.herm_links.specs.declared.links.NodeNo.{NodeNo}
use Rattle.herm_rows.specs.Keys.{rows_of, has_key, HaveDifferentKeys, IsOneKey, without}
use Rattle.herm_rows.specs.Nodes.{Has, IsIndex, AllBelow, AllAbove, IsPlace, nodes_without}
use Rattle.herm_rows.proofs.Taken.{NonePass, all-left, one-found, others-left}
use Rattle.herm_rows.proofs.Different.{one-alone}

mapped-some : {X Y : Type 0} (f : X → Y) (o : Option X) (y : Y) → option_map f o ≡ Some y
    → (x : X) × ((o ≡ Some x) × (f x ≡ y))
mapped-some f None y is = cc
mapped-some f (Some x) y is = (x, (refl, cc is))

less-not : (o : Ordering) → o ≡ Less → is_eq o ≡ false
less-not o is = ap is_eq is

greater-not : (o : Ordering) → o ≡ Greater → is_eq o ≡ false
greater-not o is = ap is_eq is

module _ {R : Type 0} where
  pub row-there : (entries : List (ℕ × R)) (place : ℕ) (e : ℕ × R) → slice_get entries place ≡ Some e
      → slice_get (rows_of entries) place ≡ Some e.1
  row-there entries place e at = slice_get-map (λ entry. entry.1) entries place ∙ ap (option_map (λ entry. entry.1)) at

  pub entry-there : (entries : List (ℕ × R)) (place : ℕ) (x : R) → slice_get (rows_of entries) place ≡ Some x
      → (e : ℕ × R) × ((slice_get entries place ≡ Some e) × (e.1 ≡ x))
  entry-there entries place x at =
      mapped-some (λ entry. entry.1) (slice_get entries place) x (sym (slice_get-map (λ entry. entry.1) entries place) ∙ at)

  none-by : (order : R → R → Ordering) (entries : List (ℕ × R)) (index : List NodeNo) (answer : R → Ordering) (low : ℕ)
      → AllBelow answer entries index low → AllAbove answer entries index low → (i : ℕ) (n : NodeNo) (x : R)
      → slice_get index i ≡ Some n → Has entries n.0 x → (b : Bool) → nat_lt i low ≡ b → is_eq (answer x) ≡ false
  none-by order entries index answer low below above i n x at has true test =
      less-not (answer x) (below i n x (ltb-true i low test) at has)
  none-by order entries index answer low below above i n x at has false test =
      greater-not (answer x) (above i n x (ltb-false i low test) at has)

  -- no row answers Equal where the search ends between the others
  pub none-equal : (order : R → R → Ordering) (entries : List (ℕ × R)) (index : List NodeNo)
      → IsIndex order entries index → (answer : R → Ordering) (low : ℕ) → IsPlace answer entries index (Err low)
      → NonePass (λ x. is_eq (answer x)) (rows_of entries)
  none-equal order entries index is answer low place k x at =
      let entry = entry-there entries k x at in
      let has : Has entries entry.0.0 x = (k, entry.1.0 ∙ ap (λ y. Some (entry.0.0, y)) entry.1.1) in
      let own = is.all entry.0.0 x has in
      none-by order entries index answer low place.1.0 place.1.1 own.0 (record { 0 = entry.0.0 }) x own.1 has (nat_lt own.0 low) refl

  -- so all nodes are left
  pub nodes-all : (order : R → R → Ordering) (entries : List (ℕ × R)) (index : List NodeNo) → IsIndex order entries index
      → (answer : R → Ordering) (low : ℕ) → IsPlace answer entries index (Err low)
      → entries ≡ nodes_without (λ x. is_eq (answer x)) entries
  nodes-all order entries index is answer low place =
      all-left (λ entry. is_eq (answer entry.1)) entries
      (λ k e at. none-equal order entries index is answer low place k e.1 (row-there entries k e at))

module _ {R Key : Type 0} (order : R → R → Ordering) (order_key : R → Key → Ordering) (one : IsOneKey order order_key) (entries : List (ℕ × R)) (different : HaveDifferentKeys order (rows_of entries)) (key : Key) where
  -- the row at a place where the key was found is the one that is found
  pub key-found : (n : ℕ) (x : R) → Has entries n x → order_key x key ≡ Equal
      → find (has_key order_key key) (rows_of entries) ≡ Some x
  key-found n x has is =
      one-found (has_key order_key key) (rows_of entries) has.0 x (row-there entries has.0 (n, x) has.1) (ap is_eq is)
      (λ k y at apart. one-alone order order_key one (rows_of entries) key has.0 k x y different (row-there entries has.0 (n, x) has.1) is at apart)

  -- the other rows are left
  pub rows-left : (n : ℕ) (x : R) (has : Has entries n x) → order_key x key ≡ Equal
      → remove (rows_of entries) has.0 ≡ without (has_key order_key key) (rows_of entries)
  rows-left n x has is =
      others-left (has_key order_key key) (rows_of entries) has.0 x (row-there entries has.0 (n, x) has.1) (ap is_eq is)
      (λ k y at apart. one-alone order order_key one (rows_of entries) key has.0 k x y different (row-there entries has.0 (n, x) has.1) is at apart)

  -- and so are their nodes
  pub nodes-left : (n : ℕ) (x : R) (has : Has entries n x) → order_key x key ≡ Equal
      → remove entries has.0 ≡ nodes_without (has_key order_key key) entries
  nodes-left n x has is =
      others-left (λ entry. has_key order_key key entry.1) entries has.0 (n, x) has.1 (ap is_eq is)
      (λ k e at apart. one-alone order order_key one (rows_of entries) key has.0 k x e.1 different (row-there entries has.0 (n, x) has.1) is (row-there entries k e at) apart)
