-- A row is taken out, and its node out of the index.
use Rattle.std.specs.Prelude.{◌≡◌, ◌≢◌, ℕ, zero, suc, ◌+◌, ◌<◌, List, [], ◌∷◌, length, Some, slice_get, remove, refl}
use Rattle.std.specs.Cmp.{IsTotalOrder, tied_itself}
use Rattle.std.specs.declared.cmp.Ordering.{Ordering}
use Rattle.std.specs.declared.cmp.Ordering.TheVariants.{Less, Equal}
use Rattle.std.proofs.Common.{sym, ◌∙◌, ap, subst, arith, inl, inr}
use Rattle.std.proofs.lemmas.Option.{slice_get_within}
use Rattle.herm_links.specs.declared.links.NodeNo.{NodeNo}
use Rattle.herm_rows.specs.Keys.{rows_of, HaveDifferentKeys}
use Rattle.herm_rows.specs.Nodes.{Has, HasNode, NodesDiffer, IsIndex}
use Rattle.herm_rows.proofs.Edits.{some-same, Stood, remove-cases, remove-keeps, stood-apart, places}
use Rattle.herm_rows.proofs.Different.{different-removed}
use Rattle.herm_rows.proofs.Found.{row-there}

module _ {X : Type 0} where
  pub removed-length : (xs : List X) (i : ℕ) → i < length xs → length (remove xs i) + 1 ≡ length xs
  removed-length [] i within = absurd (omega arith)
  removed-length (x ∷ xs) zero within = omega arith
  removed-length (x ∷ xs) (suc i) within = omega (arith, removed-length xs i (omega arith))

  rising-by : (xs : List X) (p i j : ℕ) (x y : X) (a : Stood xs p i x) (b : Stood xs p j y) → i < j → a.at < b.at
  rising-by xs p i j x y a b less =
      elim a.is [
        | inl low ↦ elim b.is [
          | inl high ↦ omega (arith, low.1, high.1, less)
          | inr high ↦ omega (arith, low.1, high.1, less)
        ]
        | inr low ↦ elim b.is [
          | inl high ↦ absurd (omega (arith, low.0, high.0, less))
          | inr high ↦ omega (arith, low.1, high.1, less)
        ]
      ]

  same-by : (xs : List X) (p i k : ℕ) (x y : X) (a : Stood xs p i x) (b : Stood xs p k y) → a.at ≡ b.at → i ≡ k
  same-by xs p i k x y a b same =
      elim a.is [
        | inl low ↦ elim b.is [
          | inl high ↦ omega (arith, low.1, high.1, same)
          | inr high ↦ absurd (omega (arith, low.0, low.1, high.0, high.1, same))
        ]
        | inr low ↦ elim b.is [
          | inl high ↦ absurd (omega (arith, low.0, low.1, high.0, high.1, same))
          | inr high ↦ omega (arith, low.1, high.1, same)
        ]
      ]

module _ {R : Type 0} where
  pub rows-removed : (entries : List (ℕ × R)) (p : ℕ) → rows_of (remove entries p) ≡ remove (rows_of entries) p
  rows-removed [] zero = refl
  rows-removed [] (suc p) = refl
  rows-removed (e ∷ es) zero = refl
  rows-removed (e ∷ es) (suc p) = ap (λ rows. e.1 ∷ rows) (rows-removed es p)

module _ {R : Type 0} (order : R → R → Ordering) (total : IsTotalOrder order) (entries : List (ℕ × R)) (index : List NodeNo) (is : IsIndex order entries index) (differ : NodesDiffer entries) (place : ℕ) (node : NodeNo) (row : R) (there : slice_get index place ≡ Some node) (has : Has entries node.0 row) where
  -- no two places of the index have one node
  index-differs : (i k : ℕ) (n : NodeNo) → slice_get index i ≡ Some n → slice_get index k ≡ Some n → i ≢ k → ⊥
  index-differs i k n first second apart =
      let own = is.standing i n first in
      let itself : order own.0 own.0 ≡ Equal = tied_itself total own.0 in
      elim (places i k apart) [
        | inl below ↦
            (let less : order own.0 own.0 ≡ Less = is.rising i k n n own.0 own.0 below first second own.1 own.1 in cc (less, itself))
        | inr above ↦
            (let less : order own.0 own.0 ≡ Less = is.rising k i n n own.0 own.0 above second first own.1 own.1 in cc (less, itself))
      ]

  has-was : (n : ℕ) (x : R) → Has (remove entries has.0) n x → Has entries n x
  has-was n x left = let case = remove-cases entries has.0 left.0 (n, x) left.1 in (case.at, case.stood)

  standing-left : (i : ℕ) (n : NodeNo) → Stood index place i n → HasNode (remove entries has.0) n.0
  standing-left i n case =
      let own = is.standing case.at n case.stood in (
        own.0,
        remove-keeps entries has.0 own.1.0 (n.0, own.0) own.1.1
            (λ same.
            let moved = subst (λ k. slice_get entries k ≡ Some (n.0, own.0)) same own.1.1 in
            let nodes : n.0 ≡ node.0 = ap (λ e. e.0) (some-same (n.0, own.0) (node.0, row) (sym moved ∙ has.1)) in
            let whole : n ≡ node = ap (λ k. record { 0 = k }) nodes in
            index-differs case.at place n case.stood (there ∙ ap Some (sym whole)) (stood-apart index place i n case)),
      )

  pub index-removed : IsIndex order (remove entries has.0) (remove index place)
  index-removed = record {
    standing = λ i n at. standing-left i n (remove-cases index place i n at);
    rising = λ i j n m x y less at thence first second.
        let a = remove-cases index place i n at in
        let b = remove-cases index place j m thence in
        is.rising a.at b.at n m x y (rising-by index place i j n m a b less) a.stood b.stood (has-was n.0 x first) (has-was m.0 y second);
    all = λ n x left.
        let case = remove-cases entries has.0 left.0 (n, x) left.1 in
        let own = is.all n x (case.at, case.stood) in
        remove-keeps index place own.0 (record { 0 = n }) own.1
        (λ same.
        let moved = subst (λ k. slice_get index k ≡ Some (record { 0 = n })) same own.1 in
        let whole : record { 0 = n } ≡ node = some-same (record { 0 = n }) node (sym moved ∙ there) in
        let nodes : n ≡ node.0 = ap (λ k. k.0) whole in
        stood-apart entries has.0 left.0 (n, x) case (differ case.at has.0 (n, x) (node.0, row) case.stood has.1 nodes));
    as_many =
        omega (arith, removed-length index place (slice_get_within index place node there), removed-length entries has.0 (slice_get_within entries has.0 (node.0, row) has.1), is.as_many);
  }

  pub nodes-removed : NodesDiffer (remove entries has.0)
  nodes-removed i k e f at thence same =
      let a = remove-cases entries has.0 i e at in
      let b = remove-cases entries has.0 k f thence in
      same-by entries has.0 i k e f a b (differ a.at b.at e f a.stood b.stood same)

  pub keys-removed : HaveDifferentKeys order (rows_of entries) → HaveDifferentKeys order (rows_of (remove entries has.0))
  keys-removed different =
      subst (λ rows. HaveDifferentKeys order rows) (sym (rows-removed entries has.0))
      (different-removed order (rows_of entries) has.0
      (slice_get_within (rows_of entries) has.0 row (row-there entries has.0 (node.0, row) has.1)) different)
