-- A storage in which one list has changed.
use Rattle.std.specs.Prelude.{◌≡◌, ◌≢◌, ℕ, zero, suc, ◌+◌, ◌<◌, ◌≤◌, Bool, true, false, nat_eq, List, [], ◌∷◌, ◌++◌, length, map, Some, None, option_map, slice_get, slice_set, is_some, refl}
use Rattle.std.proofs.Common.{sym, ◌∙◌, ap, subst, arith, length-append}
use Rattle.std.proofs.lemmas.Option.{slice_get-map}
use Rattle.std.proofs.lemmas.List.Sums.{count_by-le-length}
use borrow.Author.Tests.{eqb-true, eqb-false}
use Rattle.slab.specs.Slab.{Slab, get, slab_len}
use Rattle.herm_links.specs.declared.nodes.Node.{Node}
use Rattle.herm_links.specs.declared.nodes.Ends.{Ends}
use Rattle.herm_links.specs.Lists.{LinkedLists, IsLive, entries_of}
use Rattle.herm_links.specs.Chains.{IsList, walk, lists_at, seen_of, count_all, AreLinked}
use Rattle.herm_links.proofs.ChainLaws.{chain-foreign, walk-is}
use Rattle.herm_links.proofs.Splits.{some-same, live-there}

module _ {A : Type 0} where
  pub set-same : (xs : List A) (i : ℕ) (y : A) → i < length xs → slice_get (slice_set xs i y) i ≡ Some y
  set-same [] i y within = absurd (omega arith)
  set-same (x ∷ xs) zero y within = refl
  set-same (x ∷ xs) (suc i) y within = set-same xs i y (omega arith)

  pub set-other : (xs : List A) (i k : ℕ) (y : A) → k ≢ i → slice_get (slice_set xs i y) k ≡ slice_get xs k
  set-other [] i k y apart = refl
  set-other (x ∷ xs) zero zero y apart = absurd (apart refl)
  set-other (x ∷ xs) zero (suc k) y apart = refl
  set-other (x ∷ xs) (suc i) zero y apart = refl
  set-other (x ∷ xs) (suc i) (suc k) y apart = set-other xs i k y (λ e. apart (ap (λ n. suc n) e))

  pub set-length : (xs : List A) (i : ℕ) (y : A) → length (slice_set xs i y) ≡ length xs
  set-length [] i y = refl
  set-length (x ∷ xs) zero y = refl
  set-length (x ∷ xs) (suc i) y = ap (λ n. suc n) (set-length xs i y)

  -- what stands at a place of a list that one more is put behind
  pub pushed-place : (xs : List A) (y x : A) (k : ℕ) → slice_get (xs ++ y ∷ []) k ≡ Some x
      → (P : ℕ → A → Type 0) → ((i : ℕ) (z : A) → slice_get xs i ≡ Some z → P i z) → P (length xs) y → P k x
  pushed-place [] y x zero at P held last = subst (λ z. P 0 z) (some-same y x at) last
  pushed-place [] y x (suc k) at P held last = absurd (cc at)
  pushed-place (z ∷ xs) y x zero at P held last = held 0 x at
  pushed-place (z ∷ xs) y x (suc k) at P held last =
      pushed-place xs y x k at (λ i w. P (suc i) w) (λ i w is. held (suc i) w is) last

  pub kept-place : (xs : List A) (y x : A) (k : ℕ) → slice_get xs k ≡ Some x → slice_get (xs ++ y ∷ []) k ≡ Some x
  kept-place [] y x k at = absurd (cc at)
  kept-place (z ∷ xs) y x zero at = at
  kept-place (z ∷ xs) y x (suc k) at = kept-place xs y x k at

  pub last-place : (xs : List A) (y : A) → slice_get (xs ++ y ∷ []) (length xs) ≡ Some y
  last-place [] y = refl
  last-place (z ∷ xs) y = last-place xs y

module _ {A B : Type 0} where
  mapped-is : (f : A → B) (xs : List A) (ys : List B) → length xs ≡ length ys
      → ((k : ℕ) (x : A) → slice_get xs k ≡ Some x → slice_get ys k ≡ Some (f x)) → map f xs ≡ ys
  mapped-is f [] [] same at = refl
  mapped-is f [] (y ∷ ys) same at = absurd (omega arith)
  mapped-is f (x ∷ xs) [] same at = absurd (omega arith)
  mapped-is f (x ∷ xs) (y ∷ ys) same at =
      let heads : f x ≡ y = sym (some-same y (f x) (at 0 x refl)) in
      let tails : map f xs ≡ ys = mapped-is f xs ys (omega arith) (λ k z is. at (suc k) z is) in
      cc

module _ {T : Type 0} where
  pub count-set : (xs : List (List (ℕ × T))) (i : ℕ) (old new : List (ℕ × T)) → slice_get xs i ≡ Some old
      → count_all (slice_set xs i new) + length old ≡ count_all xs + length new
  count-set [] i old new at = absurd (cc at)
  count-set (x ∷ xs) zero old new at =
      let same : length x ≡ length old = ap length (some-same x old at) in omega arith
  count-set (x ∷ xs) (suc i) old new at = omega (arith, count-set xs i old new at)

  pub count-within : (xs : List (List (ℕ × T))) (i : ℕ) (entries : List (ℕ × T)) → slice_get xs i ≡ Some entries
      → length entries ≤ count_all xs
  count-within [] i entries at = absurd (cc at)
  count-within (x ∷ xs) zero entries at =
      let same : length x ≡ length entries = ap length (some-same x entries at) in omega arith
  count-within (x ∷ xs) (suc i) entries at = omega (arith, count-within xs i entries at)

  pub count-push : (xs : List (List (ℕ × T))) → count_all (xs ++ [] ∷ []) ≡ count_all xs
  count-push [] = refl
  count-push (x ∷ xs) = ap (λ n. length x + n) (count-push xs)

  -- a storage that holds these lists is linked, and they are seen of it
  pub relinked : (now : Slab (Node T)) (lists : List Ends) (seen : List (List (ℕ × T))) (room : ℕ)
      → length lists ≡ length seen
      → ((k : ℕ) (ends : Ends) → slice_get lists k ≡ Some ends
      → (entries : List (ℕ × T)) × ((slice_get seen k ≡ Some entries) × IsList (get now) k ends entries))
      → count_all seen ≡ slab_len now → slab_len now + room ≤ now.capacity
      → AreLinked now lists room × (lists_at now lists ≡ seen)
  relinked now lists seen room long placed counted roomy =
      let read : Ends → List (ℕ × T) = λ ends. walk (get now) (length now.slots) ends.first in
      let few : slab_len now ≤ length now.slots = count_by-le-length is_some now.slots in
      let walked : (k : ℕ) (ends : Ends) (at : slice_get lists k ≡ Some ends) → walk (get now) (length now.slots) ends.first ≡ (placed k ends at).0 =
      λ k ends at.
      let found = placed k ends at in
      let short : length found.0 ≤ count_all seen = count-within seen k found.0 found.1.0 in
      let within : length found.0 ≤ length now.slots = omega arith in
      ap (λ o. walk (get now) (length now.slots) o) found.1.1.first
      ∙ walk-is (get now) k found.0 None (length now.slots) found.1.1.chain within in
      let same : lists_at now lists ≡ seen =
      mapped-is
      (λ ends. walk (get now) (length now.slots) ends.first)
      lists
      seen
      long
      (λ k ends at. (placed k ends at).1.0 ∙ ap (λ es. Some es) (sym (walked k ends at))) in (
        record {
          linked = λ k ends at. subst (λ es. IsList (get now) k ends es) (sym (walked k ends at)) (placed k ends at).1.1;
          counted = ap count_all same ∙ counted;
          room = roomy;
        },
        same,
      )

module _ {T : Type 0} where
  roomier-by : (nodes : Slab (Node T)) (capacity : ℕ) (lists : List Ends) (spare room : ℕ)
      → AreLinked nodes lists spare → slab_len nodes + room ≤ capacity
      → AreLinked (record nodes { capacity = capacity }) lists room
  roomier-by nodes capacity lists spare room is roomy =
      record { linked = is.linked; counted = is.counted; room = roomy }

  -- a storage that has another capacity holds the same lists
  pub roomier : (nodes now : Slab (Node T)) (lists : List Ends) (spare room : ℕ) → AreLinked nodes lists spare
      → now ≡ record nodes { capacity = now.capacity } → slab_len nodes + room ≤ now.capacity
      → AreLinked now lists room
  roomier nodes now lists spare room is same roomy =
      subst (λ s. AreLinked s lists room) (sym same) (roomier-by nodes now.capacity lists spare room is roomy)

module _ {T : Type 0} (nodes now : Slab (Node T)) (lists : List Ends) (spare : ℕ) (is : AreLinked nodes lists spare) (s : LinkedLists T) (seen : seen_of nodes lists spare ≡ s) where
  -- the list that is seen of its ends
  seen-at : (k : ℕ) (ends : Ends) → slice_get lists k ≡ Some ends
      → slice_get s.lists k ≡ Some (walk (get nodes) (length nodes.slots) ends.first)
  seen-at k ends at =
      subst
      (λ t. slice_get t.lists k ≡ Some (walk (get nodes) (length nodes.slots) ends.first))
      seen
      (slice_get-map (λ e. walk (get nodes) (length nodes.slots) e.first) lists k
      ∙ ap (option_map (λ e. walk (get nodes) (length nodes.slots) e.first)) at)

  map-length : {A B : Type 0} (f : A → B) (xs : List A) → length (map f xs) ≡ length xs
  map-length f [] = refl
  map-length f (x ∷ xs) = ap (λ n. suc n) (map-length f xs)

  pub as-many : length lists ≡ length s.lists
  as-many =
      sym (map-length (λ e. walk (get nodes) (length nodes.slots) e.first) lists) ∙ ap (λ t. length t.lists) seen

  pub all-counted : count_all s.lists ≡ slab_len nodes
  all-counted = sym (ap (λ t. count_all t.lists) seen) ∙ is.counted

  -- the other lists stay where no node of theirs changes
  kept : (k : ℕ) (ends : Ends) → slice_get lists k ≡ Some ends
      → ((key : ℕ) (node : Node T) → get nodes key ≡ Some node → node.list ≡ k → get now key ≡ Some node)
      → IsList (get now) k ends (walk (get nodes) (length nodes.slots) ends.first)
  kept k ends at same =
      let old = is.linked k ends at in
      record {
        first = old.first;
        last = old.last;
        chain = chain-foreign (get nodes) (get now) k (walk (get nodes) (length nodes.slots) ends.first) None None same old.chain;
        distinct = old.distinct;
      }

  placed-by : (list : ℕ) (ends : Ends) (entries : List (ℕ × T)) → IsLive s list → IsList (get now) list ends entries
      → ((key : ℕ) (node : Node T) → get nodes key ≡ Some node → node.list ≢ list → get now key ≡ Some node)
      → (k : ℕ) (e : Ends) → slice_get (slice_set lists list ends) k ≡ Some e → (b : Bool) → nat_eq k list ≡ b
      → (es : List (ℕ × T)) × ((slice_get (slice_set s.lists list entries) k ≡ Some es) × IsList (get now) k e es)
  placed-by list ends entries live held foreign k e at true test =
      let own : k ≡ list = eqb-true k list test in
      let within : list < length lists = omega (arith, as-many) in
      let there = subst (λ i. slice_get (slice_set lists list ends) i ≡ Some e) own at in
      let same : ends ≡ e = some-same ends e (sym (set-same lists list ends within) ∙ there) in (
        entries,
        (
          subst (λ i. slice_get (slice_set s.lists list entries) i ≡ Some entries) (sym own) (set-same s.lists list entries live),
          subst (λ i. IsList (get now) i e entries) (sym own) (subst (λ x. IsList (get now) list x entries) same held),
        ),
      )
  placed-by list ends entries live held foreign k e at false test =
      let apart : k ≢ list = eqb-false k list test in
      let there : slice_get lists k ≡ Some e = sym (set-other lists list k ends apart) ∙ at in (
        walk (get nodes) (length nodes.slots) e.first,
        (
          set-other s.lists list k entries apart ∙ seen-at k e there,
          kept k e there (λ key node read own. foreign key node read (λ same. apart (sym own ∙ same))),
        ),
      )

  -- one list has other nodes, and no node of another list has changed
  pub changed : (list : ℕ) (ends : Ends) (entries : List (ℕ × T)) (room : ℕ) → IsLive s list
      → IsList (get now) list ends entries
      → ((key : ℕ) (node : Node T) → get nodes key ≡ Some node → node.list ≢ list → get now key ≡ Some node)
      → slab_len now + length (entries_of s list) ≡ slab_len nodes + length entries
      → slab_len now + room ≤ now.capacity
      → AreLinked now (slice_set lists list ends) room
      × (lists_at now (slice_set lists list ends) ≡ slice_set s.lists list entries)
  changed list ends entries room live held foreign counts roomy =
      relinked
      now
      (slice_set lists list ends)
      (slice_set s.lists list entries)
      room
      (set-length lists list ends ∙ as-many ∙ sym (set-length s.lists list entries))
      (λ k e at. placed-by list ends entries live held foreign k e at (nat_eq k list) refl)
      (omega (arith, count-set s.lists list (entries_of s list) entries (live-there s list live), all-counted))
      roomy

  -- an empty list is added
  pub added : (ends : Ends) → ends.first ≡ None → ends.last ≡ None → get now ≡ get nodes
      → slab_len now ≡ slab_len nodes → slab_len now + spare ≤ now.capacity
      → AreLinked now (lists ++ ends ∷ []) spare × (lists_at now (lists ++ ends ∷ []) ≡ s.lists ++ [] ∷ [])
  added ends first last same long roomy =
      relinked
      now
      (lists ++ ends ∷ [])
      (s.lists ++ [] ∷ [])
      spare
      (omega (arith, length-append lists (ends ∷ []), length-append s.lists ([] ∷ []), as-many))
      (λ k e at. pushed-place
      lists
      ends
      e
      k
      at
      (λ i x. (es : List (ℕ × T)) × ((slice_get (s.lists ++ [] ∷ []) i ≡ Some es) × IsList (get now) i x es))
      (λ i x is_at. (
        walk (get nodes) (length nodes.slots) x.first,
        (
          kept-place s.lists [] (walk (get nodes) (length nodes.slots) x.first) i (seen-at i x is_at),
          kept i x is_at (λ key node read own. ap (λ f. f key) same ∙ read),
        ),
      )) (
        [],
        (
          subst (λ n. slice_get (s.lists ++ [] ∷ []) n ≡ Some []) (sym as-many) (last-place s.lists []),
          record { first = first; last = last; chain = tt; distinct = tt },
        ),
      ))
      (count-push s.lists ∙ all-counted ∙ sym long)
      roomy
