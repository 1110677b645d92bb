-- What a binary search in an index knows.
use Rattle.std.specs.Prelude.{◌≡◌, ◌≢◌, ℕ, ◌+◌, ◌-◌, ◌/◌, ◌<◌, ◌≤◌, List, [], ◌∷◌, length, Some, slice_get, slice_index_or, refl}
use Rattle.std.specs.Ordering.{ordering_index}
use Rattle.std.specs.declared.cmp.Ordering.{Ordering}
use Rattle.std.specs.declared.cmp.Ordering.TheVariants.{Less, Equal, Greater}
use Rattle.std.proofs.Common.{sym, ◌∙◌, ap, subst, arith, inl, inr}
use Rattle.std.proofs.lemmas.Option.{slice_get_read, slice_get-get_or}
use Rattle.herm_links.specs.Lists.{LinkedLists, entries_of, Stands, IsSplit}
use Rattle.herm_links.specs.declared.links.NodeNo.{NodeNo}
use Rattle.herm_rows.specs.Nodes.{Has, HasNode, NodesDiffer, IsIndex, AllBelow, AllAbove}
use Rattle.herm_rows.proofs.Edits.{some-same, sides-of, split-at}

-- answers do not fall where rows rise
abbrev pub IsMonotone : {R : Type 0} → (R → R → Ordering) → (R → Ordering) → Type 0
IsMonotone {R} order answer = (x y : R) → order x y ≢ Greater → ordering_index (answer x) ≤ ordering_index (answer y)

lowest : (o : Ordering) → ordering_index o ≤ 0 → o ≡ Less
lowest Less low = refl
lowest Equal low = absurd (omega arith)
lowest Greater low = absurd (omega arith)

highest : (o : Ordering) → 2 ≤ ordering_index o → o ≡ Greater
highest Less high = absurd (omega arith)
highest Equal high = absurd (omega arith)
highest Greater high = refl

not-after : (o : Ordering) → o ≡ Less → o ≢ Greater
not-after o less = λ greater. cc (less, greater)

module _ {R : Type 0} where
  -- where something stands in the first list, there is a first list
  pub there-first : (lists : List (List (ℕ × R))) (place : ℕ) (e : ℕ × R)
      → slice_get (slice_index_or lists 0 []) place ≡ Some e → slice_get lists 0 ≡ Some (slice_index_or lists 0 [])
  there-first [] place e at = absurd (cc at)
  there-first (xs ∷ rest) place e at = refl

  -- a node of the first list stands, and is split from the others
  pub split-of : (links : LinkedLists R) (node : ℕ) (row : R) (has : Has (entries_of links 0) node row)
      → IsSplit links 0 (split-at (entries_of links 0) has.0 (node, row) has.1).0 node row
      (split-at (entries_of links 0) has.0 (node, row) has.1).1.0
  split-of links node row has =
      there-first links.lists has.0 (node, row) has.1
      ∙ ap Some (split-at (entries_of links 0) has.0 (node, row) has.1).1.1.0

  pub stands-of : (links : LinkedLists R) (node : ℕ) → HasNode (entries_of links 0) node → Stands links node
  stands-of links node has =
      let split = split-at (entries_of links 0) has.1.0 (node, has.0) has.1.1 in
      (0, (split.0, (has.0, (split.1.0, split-of links node has.0 has.1))))

  pub one-row : (entries : List (ℕ × R)) → NodesDiffer entries → (node : ℕ) (x y : R) → Has entries node x
      → Has entries node y → x ≡ y
  one-row entries differ node x y first second =
      let same = differ first.0 second.0 (node, x) (node, y) first.1 second.1 refl in
      let there = subst (λ k. slice_get entries k ≡ Some (node, x)) same first.1 in
      ap (λ e. e.1) (some-same (node, x) (node, y) (sym there ∙ second.1))

pub index-read : (index : List NodeNo) (i : ℕ) (n : NodeNo) → i < length index → n ≡ slice_index_or index i n
    → slice_get index i ≡ Some n
index-read index i n within read = slice_get_read index (length index) i n refl within read

module _ {R : Type 0} (order : R → R → Ordering) (entries : List (ℕ × R)) (index : List NodeNo) (is : IsIndex order entries index) (differ : NodesDiffer entries) where
  same-answer : (answer : R → Ordering) (i m : ℕ) (k n : NodeNo) (x r : R) → i ≡ m → slice_get index i ≡ Some k
      → slice_get index m ≡ Some n → Has entries k.0 x → Has entries n.0 r → answer x ≡ answer r
  same-answer answer i m k n x r same at there first second =
      let own : k ≡ n = some-same k n (sym at ∙ ap (slice_get index) same ∙ there) in
      let moved = subst (λ j. Has entries j.0 x) own first in
      ap answer (one-row entries differ n.0 x r moved second)

  -- the rows up to one that answers Less answer Less
  pub below-step : (answer : R → Ordering) → IsMonotone order answer → (m : ℕ) (n : NodeNo) (r : R)
      → slice_get index m ≡ Some n → Has entries n.0 r → answer r ≡ Less → AllBelow answer entries index (m + 1)
  below-step answer monotone m n r there has less i k x within at own =
      elim (sides-of i m (omega arith)) [
        | inl before ↦
            let rises = not-after (order x r) (is.rising i m k n x r before at there own has) in
            let low : ordering_index (answer x) ≤ ordering_index (answer r) = monotone x r rises in
            let none : ordering_index (answer r) ≡ 0 = ap ordering_index less in
            lowest (answer x) (omega arith)
        | inr same ↦ same-answer answer i m k n x r same at there own has ∙ less
      ]

  -- the rows from one that answers Greater on answer Greater
  pub above-step : (answer : R → Ordering) → IsMonotone order answer → (m : ℕ) (n : NodeNo) (r : R)
      → slice_get index m ≡ Some n → Has entries n.0 r → answer r ≡ Greater → AllAbove answer entries index m
  above-step answer monotone m n r there has greater i k x within at own =
      elim (sides-of m i within) [
        | inl behind ↦
            let rises = not-after (order r x) (is.rising m i n k r x behind there at has own) in
            let high : ordering_index (answer r) ≤ ordering_index (answer x) = monotone r x rises in
            let two : ordering_index (answer r) ≡ 2 = ap ordering_index greater in
            highest (answer x) (omega arith)
        | inr same ↦ same-answer answer i m k n x r (sym same) at there own has ∙ greater
      ]

pub middle-there : (index : List NodeNo) (low high : ℕ) → low < high → high ≤ length index
    → slice_get index (low + (high - low) / 2) ≡ Some (slice_index_or index (low + (high - low) / 2) (record { 0 = 0 }))
middle-there index low high below within =
    slice_get-get_or index (low + (high - low) / 2) (record { 0 = 0 }) (omega arith)

module _ {R : Type 0} where
  -- what is read at a node is its row
  pub row-read : (links : LinkedLists R) (node : ℕ) (result : R) → HasNode (entries_of links 0) node
      → ((list : ℕ) (before : List (ℕ × R)) (value : R) (behind : List (ℕ × R)) → IsSplit links list before node value behind → result ≡ value)
      → Has (entries_of links 0) node result
  row-read links node result has read =
      let split = split-at (entries_of links 0) has.1.0 (node, has.0) has.1.1 in
      let same : result ≡ has.0 = read 0 split.0 has.0 split.1.0 (split-of links node has.0 has.1) in
      subst (λ x. Has (entries_of links 0) node x) (sym same) has.1
