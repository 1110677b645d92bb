-- The rows are kept in the first list, and their nodes in the index, through each change.
use Rattle.std.specs.Prelude.{◌≡◌, ℕ, zero, suc, ◌+◌, ◌<◌, ◌≤◌, List, [], ◌∷◌, ◌++◌, length, Option, Some, None, Err, IsSome, IfSome, option_map, slice_get, slice_set, slice_index_or, insert, remove, refl}
use Rattle.std.specs.Cmp.{IsTotalOrder}
use Rattle.std.specs.declared.cmp.Ordering.{Ordering}
use Rattle.std.proofs.Common.{sym, ◌∙◌, ap, subst, arith, length-append}
use Rattle.std.proofs.lemmas.Option.{slice_get_within, get_or_from_slice_get}
use Rattle.herm_links.specs.Lists.{LinkedLists, entries_of, IsSplit, Stands, first_node}
use Rattle.herm_links.specs.declared.links.NodeNo.{NodeNo}
use Rattle.herm_links.specs.declared.links.ListNo.{ListNo}
use Rattle.herm_rows.specs.Keys.{rows_of, HaveDifferentKeys, most_rows}
use Rattle.herm_rows.specs.Nodes.{Has, HasNode, NodesDiffer, IsIndex, IsPlace, IsMade, AreKept}
use Rattle.herm_rows.proofs.Edits.{some-same, split-at, push-there}
use Rattle.herm_rows.proofs.Searched.{there-first, split-of, stands-of}
use Rattle.herm_rows.proofs.Added.{index-added, nodes-added, keys-added}
use Rattle.herm_rows.proofs.Removed.{removed-length, index-removed, nodes-removed, keys-removed}

pub node-read : (index : List NodeNo) (place : ℕ) (n m : NodeNo) → slice_get index place ≡ Some n
    → m ≡ slice_index_or index place m → m ≡ n
node-read index place n m there read = read ∙ get_or_from_slice_get index place n m there

module _ {X : Type 0} where
  removed-last : (xs : List X) (y : X) → remove (xs ++ y ∷ []) (length xs) ≡ xs
  removed-last [] y = refl
  removed-last (x ∷ xs) y = ap (λ zs. x ∷ zs) (removed-last xs y)

  set-first : (lists : List (List X)) (ys : List X) → 0 < length lists → slice_index_or (slice_set lists 0 ys) 0 [] ≡ ys
  set-first [] ys live = absurd (omega arith)
  set-first (xs ∷ rest) ys live = refl

module _ {R : Type 0} where
  pub first-live : (links : LinkedLists R) (node : ℕ) (row : R) → Has (entries_of links 0) node row → 0 < length links.lists
  first-live links node row has =
      slice_get_within links.lists 0 (entries_of links 0) (there-first links.lists has.0 (node, row) has.1)

  pub still-made : (links now : LinkedLists R) (list : Option ListNo) → IsMade links list → 0 < length links.lists
      → length now.lists ≡ length links.lists → IsMade now list
  still-made links now None made live same = let none : length links.lists ≡ 0 = ap length made in absurd (omega arith)
  still-made links now (Some l) made live same = (made.0, omega arith)

  pub unlinked-entries : (links now : LinkedLists R) (node : ℕ) (row : R) (has : Has (entries_of links 0) node row)
      → ((list : ℕ) (before : List (ℕ × R)) (value : R) (behind : List (ℕ × R)) → IsSplit links list before node value behind
      → now.lists ≡ slice_set links.lists list (before ++ behind))
      → entries_of now 0 ≡ remove (entries_of links 0) has.0
  unlinked-entries links now node row has others =
      let split = split-at (entries_of links 0) has.0 (node, row) has.1 in
      ap (λ ls. slice_index_or ls 0 []) (others 0 split.0 row split.1.0 (split-of links node row has))
      ∙ set-first links.lists (split.0 ++ split.1.0) (first-live links node row has)
      ∙ split.1.1.1

  pub unlinked-row : (links : LinkedLists R) (node : ℕ) (row result : R) (has : Has (entries_of links 0) node row)
      → ((list : ℕ) (before : List (ℕ × R)) (value : R) (behind : List (ℕ × R)) → IsSplit links list before node value behind → result ≡ value)
      → result ≡ row
  unlinked-row links node row result has read =
      let split = split-at (entries_of links 0) has.0 (node, row) has.1 in
      read 0 split.0 row split.1.0 (split-of links node row has)

  pub pushed-entries : (links now : LinkedLists R) (list node : ℕ) (row : R) → list ≡ 0 → 0 < length links.lists
      → now.lists ≡ slice_set links.lists list (entries_of links list ++ (node, row) ∷ [])
      → entries_of now 0 ≡ entries_of links 0 ++ (node, row) ∷ []
  pushed-entries links now list node row first live pushed =
      ap
      (λ ls. slice_index_or ls 0 [])
      (subst (λ l. now.lists ≡ slice_set links.lists l (entries_of links l ++ (node, row) ∷ [])) first pushed)
      ∙ set-first links.lists (entries_of links 0 ++ (node, row) ∷ []) live

  abbrev pub pushed-has : (links now : LinkedLists R) (node : ℕ) (row : R)
      → entries_of now 0 ≡ entries_of links 0 ++ (node, row) ∷ [] → Has (entries_of now 0) node row
  pushed-has links now node row pushed = (
    length (entries_of links 0),
    subst
        (λ es. slice_get es (length (entries_of links 0)) ≡ Some (node, row))
        (sym pushed)
        (push-there (entries_of links 0) (node, row)),
  )

  -- a node that is pushed and taken out again leaves the list
  pub pushed-back : (links now : LinkedLists R) (node : ℕ) (row : R)
      → (pushed : entries_of now 0 ≡ entries_of links 0 ++ (node, row) ∷ [])
      → remove (entries_of now 0) (length (entries_of links 0)) ≡ entries_of links 0
  pushed-back links now node row pushed =
      ap (λ es. remove es (length (entries_of links 0))) pushed ∙ removed-last (entries_of links 0) (node, row)

module _ {R : Type 0} where
  middle-at : (before : List (ℕ × R)) (e : ℕ × R) (behind : List (ℕ × R))
      → slice_get (before ++ e ∷ behind) (length before) ≡ Some e
  middle-at [] e behind = refl
  middle-at (b ∷ before) e behind = middle-at before e behind

  -- a split of the rows is one of the first list
  pub split-whole : (links : LinkedLists R) (before : List (ℕ × R)) (node : ℕ) (row : R) (behind : List (ℕ × R))
      → entries_of links 0 ≡ before ++ (node, row) ∷ behind → IsSplit links 0 before node row behind
  split-whole links before node row behind e =
      there-first links.lists (length before) (node, row)
      (ap (λ es. slice_get es (length before)) e ∙ middle-at before (node, row) behind)
      ∙ ap Some e

  -- the node behind the one at a place
  pub next-at : (entries : List (ℕ × R)) (place node : ℕ) → Some node ≡ option_map (λ e. e.0) (slice_get entries place)
      → (before : List (ℕ × R)) × ((row : R) × ((behind : List (ℕ × R)) × ((entries ≡ before ++ (node, row) ∷ behind)
      × (first_node behind ≡ option_map (λ e. e.0) (slice_get entries (suc place))))))
  next-at [] place node at = absurd (cc at)
  next-at (e ∷ []) zero node at =
      ([], (e.1, ([], (ap (λ k. (k, e.1) ∷ []) (sym (some-same node e.0 at)), refl))))
  next-at (e ∷ (f ∷ es)) zero node at =
      ([], (e.1, (f ∷ es, (ap (λ k. (k, e.1) ∷ (f ∷ es)) (sym (some-same node e.0 at)), refl))))
  next-at (e ∷ es) (suc place) node at =
      let rest = next-at es place node at in
      (e ∷ rest.0, (rest.1.0, (rest.1.1.0, (ap (λ ys. e ∷ ys) rest.1.1.1.0, rest.1.1.1.1))))

  -- behind no node there is none
  pub none-behind : (entries : List (ℕ × R)) (place : ℕ) → None ≡ option_map (λ e. e.0) (slice_get entries place)
      → None ≡ option_map (λ e. e.0) (slice_get entries (suc place))
  none-behind [] place at = refl
  none-behind (e ∷ es) zero at = absurd (cc at)
  none-behind (e ∷ es) (suc place) at = none-behind es place at

  pub up : (entries : List (ℕ × R)) (place : ℕ)
      → option_map (λ e. e.0) (slice_get entries (suc place)) ≡ option_map (λ e. e.0) (slice_get entries (place + 1))
  up entries place =
      let one : suc place ≡ place + 1 = omega arith in ap (λ k. option_map (λ e. e.0) (slice_get entries k)) one

  pub at-place : (entries : List (ℕ × R)) (place node : ℕ) → option_map (λ e. e.0) (slice_get entries place) ≡ Some node
      → (row : R) × (slice_get entries place ≡ Some (node, row))
  at-place [] place node at = absurd (cc at)
  at-place (e ∷ es) zero node at = (e.1, ap (λ k. Some (k, e.1)) (some-same e.0 node at))
  at-place (e ∷ es) (suc place) node at = at-place es place node at

  -- a node that is the one at a place stands there
  pub has-behind : (entries : List (ℕ × R)) (node : Option NodeNo) (place : ℕ)
      → option_map (λ n. n.0) node ≡ option_map (λ e. e.0) (slice_get entries place)
      → IfSome node (λ n. HasNode entries n.0)
  has-behind entries None place at = tt
  has-behind entries (Some n) place at = let own = at-place entries place n.0 (sym at) in (own.0, (place, own.1))

  none-past : (entries : List (ℕ × R)) (place : ℕ) → None ≡ option_map (λ e. e.0) (slice_get entries place)
      → length entries ≤ place
  none-past [] place at = omega arith
  none-past (e ∷ es) zero at = absurd (cc at)
  none-past (e ∷ es) (suc place) at = omega (arith, none-past es place at)

  pub some-behind : (entries : List (ℕ × R)) (node : Option NodeNo) (place : ℕ) → place < length entries
      → option_map (λ n. n.0) node ≡ option_map (λ e. e.0) (slice_get entries place) → IsSome node
  some-behind entries None place within at = absurd (omega (arith, none-past entries place at))
  some-behind entries (Some n) place within at = refl

  -- the first node stands there
  pub first-has : (entries : List (ℕ × R)) (node : ℕ) → Some node ≡ first_node entries → HasNode entries node
  first-has [] node at = absurd (cc at)
  first-has (e ∷ es) node at = (e.1, (0, ap (λ k. Some (k, e.1)) (sym (some-same node e.0 at))))

  pub as-many-rows : (entries : List (ℕ × R)) → length (rows_of entries) ≡ length entries
  as-many-rows [] = refl
  as-many-rows (e ∷ es) = ap (λ n. suc n) (as-many-rows es)

module _ {R : Type 0} (order : R → R → Ordering) where
  pub kept-moved : (links now : LinkedLists R) (list made : Option ListNo) (index : List NodeNo)
      → AreKept order links list index → entries_of now 0 ≡ entries_of links 0 → IsMade now made
      → AreKept order now made index
  kept-moved links now list made index kept same is = record {
    made = is;
    indexed = subst (λ es. IsIndex order es index) (sym same) kept.indexed;
    nodes = subst (λ es. NodesDiffer es) (sym same) kept.nodes;
    keys = subst (λ es. HaveDifferentKeys order (rows_of es)) (sym same) kept.keys;
    few = subst (λ es. length es ≤ most_rows) (sym same) kept.few;
  }

module _ {R : Type 0} (order : R → R → Ordering) (total : IsTotalOrder order) (links now : LinkedLists R) (list : Option ListNo) (index : List NodeNo) (kept : AreKept order links list index) where
  pub kept-removed : (place : ℕ) (node : NodeNo) (row : R) → slice_get index place ≡ Some node
      → (has : Has (entries_of links 0) node.0 row) → entries_of now 0 ≡ remove (entries_of links 0) has.0
      → length now.lists ≡ length links.lists → AreKept order now list (remove index place)
  kept-removed place node row there has same long =
      let fewer = removed-length (entries_of links 0) has.0 (slice_get_within (entries_of links 0) has.0 (node.0, row) has.1) in
      record {
        made = still-made links now list kept.made (first-live links node.0 row has) long;
        indexed = subst (λ es. IsIndex order es (remove index place)) (sym same) (index-removed order total (entries_of links 0) index kept.indexed kept.nodes place node row there has);
        nodes = subst (λ es. NodesDiffer es) (sym same) (nodes-removed order total (entries_of links 0) index kept.indexed kept.nodes place node row there has);
        keys = subst (λ es. HaveDifferentKeys order (rows_of es)) (sym same) (keys-removed order total (entries_of links 0) index kept.indexed kept.nodes place node row there has kept.keys);
        few = subst (λ es. length es ≤ most_rows) (sym same) (omega (arith, fewer, kept.few));
      }

  pub kept-added : (place : ℕ) (node : NodeNo) (row : R) → (Stands links node.0 → ⊥)
      → IsPlace (λ other. order other row) (entries_of links 0) index (Err place) → length index < most_rows
      → 0 < length links.lists → entries_of now 0 ≡ entries_of links 0 ++ (node.0, row) ∷ []
      → length now.lists ≡ length links.lists → AreKept order now list (insert index place node)
  kept-added place node row fresh at few live same long =
      let new : HasNode (entries_of links 0) node.0 → ⊥ = λ has. fresh (stands-of links node.0 has) in
      record {
        made = still-made links now list kept.made live long;
        indexed = subst (λ es. IsIndex order es (insert index place node)) (sym same) (index-added order total (entries_of links 0) index kept.indexed kept.nodes node row new place at);
        nodes = subst (λ es. NodesDiffer es) (sym same) (nodes-added order total (entries_of links 0) index kept.indexed kept.nodes node row new place at);
        keys = subst (λ es. HaveDifferentKeys order (rows_of es)) (sym same) (keys-added order total (entries_of links 0) index kept.indexed kept.nodes node row new place at kept.keys);
        few = subst (λ es. length es ≤ most_rows) (sym same) (omega (arith, few, kept.indexed.as_many, length-append (entries_of links 0) ((node.0, row) ∷ [])));
      }
