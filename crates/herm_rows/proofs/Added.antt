-- A row is put behind the others, and its node into the index.
use Rattle.std.specs.Prelude.{◌≡◌, ℕ, ◌<◌, ◌≤◌, ◌⊎◌, List, [], ◌∷◌, ◌++◌, length, Some, Err, slice_get, insert, refl}
use Rattle.std.specs.Cmp.{IsTotalOrder}
use Rattle.std.specs.Ordering.{ordering_reverse}
use Rattle.std.specs.declared.cmp.Ordering.{Ordering}
use Rattle.std.specs.declared.cmp.Ordering.TheVariants.{Less}
use Rattle.std.proofs.Common.{sym, ◌∙◌, ap, subst, arith, inl, inr, length-append}
use Rattle.std.proofs.lemmas.List.Edits.{length-insert}
use Rattle.herm_links.specs.declared.links.NodeNo.{NodeNo}
use Rattle.herm_rows.specs.Keys.{rows_of, is_key_of, HaveDifferentKeys}
use Rattle.herm_rows.specs.Nodes.{Has, HasNode, NodesDiffer, IsIndex, IsPlace}
use Rattle.herm_rows.proofs.Edits.{Inserted, insert-cases, insert-there, insert-keeps, push-cases, push-keeps, push-there}
use Rattle.herm_rows.proofs.Taken.{none-any}
use Rattle.herm_rows.proofs.Different.{different-pushed}
use Rattle.herm_rows.proofs.Found.{none-equal}

module _ {R : Type 0} where
  pub rows-pushed : (entries : List (ℕ × R)) (node : ℕ) (row : R)
      → rows_of (entries ++ (node, row) ∷ []) ≡ rows_of entries ++ row ∷ []
  rows-pushed [] node row = refl
  rows-pushed (e ∷ es) node row = ap (λ rows. e.1 ∷ rows) (rows-pushed es node row)

module _ {R : Type 0} (order : R → R → Ordering) (total : IsTotalOrder order) (entries : List (ℕ × R)) (index : List NodeNo) (is : IsIndex order entries index) (differ : NodesDiffer entries) (node : NodeNo) (row : R) (fresh : HasNode entries node.0 → ⊥) (place : ℕ) (at : IsPlace (λ other. order other row) entries index (Err place)) where
  -- a node of the longer list was there, or is the new one
  has-cases : (n : ℕ) (x : R) → Has (entries ++ (node.0, row) ∷ []) n x → Has entries n x ⊎ ((n ≡ node.0) × (x ≡ row))
  has-cases n x has =
      elim (push-cases entries (node.0, row) has.0 (n, x) has.1) [
        | inl kept ↦ inl (has.0, kept)
        | inr own ↦ inr (ap (λ e. e.0) own.1, ap (λ e. e.1) own.1)
      ]

  has-kept : (n : ℕ) (x : R) → Has entries n x → Has (entries ++ (node.0, row) ∷ []) n x
  has-kept n x has = (has.0, push-keeps entries (node.0, row) has.0 (n, x) has.1)

  -- a row of a node of the index was there
  old-row : (i : ℕ) (n : NodeNo) (x : R) → slice_get index i ≡ Some n → Has (entries ++ (node.0, row) ∷ []) n.0 x
      → Has entries n.0 x
  old-row i n x there has =
      elim (has-cases n.0 x has) [
        | inl kept ↦ kept
        | inr own ↦ absurd (fresh (subst (λ k. HasNode entries k) own.0 (is.standing i n there)))
      ]

  own-row : (n : NodeNo) (x : R) → n ≡ node → Has (entries ++ (node.0, row) ∷ []) n.0 x → x ≡ row
  own-row n x same has =
      elim (has-cases n.0 x has) [
        | inl kept ↦ absurd (fresh (subst (λ k. HasNode entries k.0) same (x, kept)))
        | inr own ↦ own.1
      ]

  -- the new row is behind those before the place
  behind-them : (i : ℕ) (n : NodeNo) (x y : R) → i < place → slice_get index i ≡ Some n → Has entries n.0 x → y ≡ row
      → order x y ≡ Less
  behind-them i n x y below there has same =
      subst (λ z. order x z ≡ Less) (sym same) (at.1.0 i n x below there has)

  -- and before those from the place on
  before-them : (i : ℕ) (n : NodeNo) (x y : R) → place ≤ i → slice_get index i ≡ Some n → Has entries n.0 y → x ≡ row
      → order x y ≡ Less
  before-them i n x y above there has same =
      subst (λ z. order z y ≡ Less) (sym same)
      (total.antisymm row y ∙ ap ordering_reverse (at.1.1 i n y above there has))

  rising-by : (i j : ℕ) (n m : NodeNo) (x y : R) → i < j → Has (entries ++ (node.0, row) ∷ []) n.0 x
      → Has (entries ++ (node.0, row) ∷ []) m.0 y → Inserted index place node i n → Inserted index place node j m
      → order x y ≡ Less
  rising-by i j n m x y less first second (inl low) (inl high) =
      is.rising i j n m x y less low.1 high.1 (old-row i n x low.1 first) (old-row j m y high.1 second)
  rising-by i j n m x y less first second (inl low) (inr (inl own)) =
      behind-them i n x y low.0 low.1 (old-row i n x low.1 first) (own-row m y own.1 second)
  rising-by i j n m x y less first second (inl low) (inr (inr high)) =
      is.rising i high.at n m x y (omega (arith, low.0, high.behind)) low.1 high.stood (old-row i n x low.1 first) (old-row high.at m y high.stood second)
  rising-by i j n m x y less first second (inr (inl own)) (inl high) = absurd (omega (arith, own.0, high.0))
  rising-by i j n m x y less first second (inr (inl own)) (inr (inl also)) = absurd (omega (arith, own.0, also.0))
  rising-by i j n m x y less first second (inr (inl own)) (inr (inr high)) =
      before-them high.at m x y high.behind high.stood (old-row high.at m y high.stood second) (own-row n x own.1 first)
  rising-by i j n m x y less first second (inr (inr low)) (inl high) =
      absurd (omega (arith, low.is, low.behind, high.0))
  rising-by i j n m x y less first second (inr (inr low)) (inr (inl own)) =
      absurd (omega (arith, low.is, low.behind, own.0))
  rising-by i j n m x y less first second (inr (inr low)) (inr (inr high)) =
      is.rising low.at high.at n m x y (omega (arith, low.is, high.is)) low.stood high.stood (old-row low.at n x low.stood first) (old-row high.at m y high.stood second)

  standing-by : (i : ℕ) (n : NodeNo) → Inserted index place node i n → HasNode (entries ++ (node.0, row) ∷ []) n.0
  standing-by i n (inl low) = let has = is.standing i n low.1 in (has.0, has-kept n.0 has.0 has.1)
  standing-by i n (inr (inl own)) =
      subst (λ k. HasNode (entries ++ (node.0, row) ∷ []) k.0) (sym own.1) (row, (length entries, push-there entries (node.0, row)))
  standing-by i n (inr (inr high)) = let has = is.standing high.at n high.stood in (has.0, has-kept n.0 has.0 has.1)

  pub index-added : IsIndex order (entries ++ (node.0, row) ∷ []) (insert index place node)
  index-added = record {
    standing = λ i n there. standing-by i n (insert-cases index place node i n at.0 there);
    rising = λ i j n m x y less there thence first second.
        rising-by i j n m x y less first second (insert-cases index place node i n at.0 there) (insert-cases index place node j m at.0 thence);
    all = λ n x has. elim (has-cases n x has) [
      | inl kept ↦ (let own = is.all n x kept in insert-keeps index place node own.0 (record { 0 = n }) own.1)
      | inr own ↦ (place, insert-there index place node at.0 ∙ ap (λ k. Some (record { 0 = k })) (sym own.0))
    ];
    as_many = omega (arith, length-insert index place node at.0, length-append entries ((node.0, row) ∷ []), is.as_many);
  }

  pub nodes-added : NodesDiffer (entries ++ (node.0, row) ∷ [])
  nodes-added i k e f there thence same =
      elim (push-cases entries (node.0, row) i e there) [
        | inl first ↦ elim (push-cases entries (node.0, row) k f thence) [
          | inl second ↦ differ i k e f first second same
          | inr own ↦ absurd (fresh (subst (λ n. HasNode entries n) (same ∙ ap (λ g. g.0) own.1) (e.1, (i, first))))
        ]
        | inr own ↦ elim (push-cases entries (node.0, row) k f thence) [
          | inl second ↦ absurd (fresh (subst (λ n. HasNode entries n) (sym same ∙ ap (λ g. g.0) own.1) (f.1, (k, second))))
          | inr also ↦ own.0 ∙ sym also.0
        ]
      ]

  pub keys-added : HaveDifferentKeys order (rows_of entries) → HaveDifferentKeys order (rows_of (entries ++ (node.0, row) ∷ []))
  keys-added different =
      subst (λ rows. HaveDifferentKeys order rows) (sym (rows-pushed entries node.0 row))
      (different-pushed order row (rows_of entries)
      (none-any (is_key_of order row) (rows_of entries) (none-equal order entries index is (λ other. order other row) place at))
      different)
