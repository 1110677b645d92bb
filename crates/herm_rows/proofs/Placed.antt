-- The places of nodes in a list of nodes that differ.
use Rattle.std.specs.Prelude.{◌≡◌, ◌≢◌, ℕ, zero, suc, ◌+◌, ◌≤◌, List, [], ◌∷◌, ◌++◌, length, true, false, nat_eq, Option, Some, None, IfSome, option_map, slice_get, refl}
use Rattle.std.proofs.Common.{sym, ◌∙◌, ap, arith}
use Rattle.std.proofs.lemmas.Bool.Decides.{nat_tests}
use Rattle.std.proofs.lemmas.Option.{slice_get_within}
use Rattle.herm_links.specs.Lists.{first_node}
use Rattle.herm_links.specs.declared.links.NodeNo.{NodeNo}
use Rattle.herm_rows.specs.Nodes.{Has, HasNode, NodesDiffer, place_of, place_at}
use Rattle.herm_rows.proofs.Edits.{some-same}
use Rattle.herm_rows.proofs.Kept.{next-at, first-has, has-behind}

eq-self : (n : ℕ) → nat_eq n n ≡ true
eq-self n = grind (arith, nat_tests)

eq-not : (n m : ℕ) → n ≢ m → nat_eq n m ≡ false
eq-not n m other = grind (arith, nat_tests, other)

zero-not : (i : ℕ) → 0 ≡ suc i → ⊥
zero-not i same = omega (arith, same)

module _ {R : Type 0} where
  own-place : (e : ℕ × R) (es : List (ℕ × R)) → place_of (e ∷ es) (Some e.0) ≡ 0
  own-place e es = rw (eq-self e.0) refl

  further-place : (e : ℕ × R) (es : List (ℕ × R)) (node : ℕ) → e.0 ≢ node
      → place_of (e ∷ es) (Some node) ≡ suc (place_of es (Some node))
  further-place e es node other = rw (eq-not e.0 node other) refl

  rest-differ : (e : ℕ × R) (es : List (ℕ × R)) → NodesDiffer (e ∷ es) → NodesDiffer es
  rest-differ e es differ i k x y at there same =
      let up : suc i ≡ suc k = differ (suc i) (suc k) x y at there same in omega arith

  -- a node has the place at which it stands
  pub place-there : (es : List (ℕ × R)) → NodesDiffer es → (i : ℕ) (node : ℕ) (row : R)
      → slice_get es i ≡ Some (node, row) → place_of es (Some node) ≡ i
  place-there [] differ i node row at = absurd (cc at)
  place-there (e ∷ es) differ zero node row at =
      let own : e ≡ (node, row) = some-same e (node, row) at in
      ap (λ n. place_of (e ∷ es) (Some n)) (sym (ap (λ x. x.0) own)) ∙ own-place e es
  place-there (e ∷ es) differ (suc i) node row at =
      further-place e es node (λ same. zero-not i (differ 0 (suc i) e (node, row) refl at same))
      ∙ ap (λ n. suc n) (place-there es (rest-differ e es differ) i node row at)

  -- none has the place behind the last
  none-place : (es : List (ℕ × R)) → place_of es None ≡ length es
  none-place [] = refl
  none-place (e ∷ es) = ap (λ n. suc n) (none-place es)

  -- the node of a place has it, also where there is none
  place-found : (es : List (ℕ × R)) → NodesDiffer es → (i : ℕ) → i ≤ length es
      → place_of es (option_map (λ e. e.0) (slice_get es i)) ≡ i
  place-found [] differ i within = omega (arith, within)
  place-found (e ∷ es) differ zero within = own-place e es
  place-found (e ∷ es) differ (suc i) within =
      by-there (slice_get es i) refl (place-found es (rest-differ e es differ) i (omega (arith, within)))
    where
      by-there : (o : Option (ℕ × R)) → slice_get es i ≡ o → place_of es (option_map (λ x. x.0) o) ≡ i
          → place_of (e ∷ es) (option_map (λ x. x.0) o) ≡ suc i
      by-there None is rest = ap (λ n. suc n) rest
      by-there (Some x) is rest =
          further-place e es x.0 (λ same. zero-not i (differ 0 (suc i) e x refl is same))
          ∙ ap (λ n. suc n) rest

  pub first-place : (es : List (ℕ × R)) (first : Option NodeNo) → option_map (λ n. n.0) first ≡ first_node es
      → place_at es first ≡ 0
  first-place [] first is = refl
  first-place (e ∷ es) first is = ap (place_of (e ∷ es)) is ∙ own-place e es

  pub first-stands : (es : List (ℕ × R)) (first : Option NodeNo) → option_map (λ n. n.0) first ≡ first_node es
      → IfSome first (λ n. HasNode es n.0)
  first-stands es None is = tt
  first-stands es (Some n) is = first-has es n.0 is

  -- what is behind a node has the next place
  pub after-node : (es : List (ℕ × R)) (node : ℕ) (next : Option NodeNo) (has : HasNode es node)
      → ((before : List (ℕ × R)) (row : R) (behind : List (ℕ × R)) → es ≡ before ++ (node, row) ∷ behind → option_map (λ n. n.0) next ≡ first_node behind)
      → option_map (λ n. n.0) next ≡ option_map (λ e. e.0) (slice_get es (suc has.1.0))
  after-node es node next has behind =
      let found = next-at es has.1.0 node (ap (option_map (λ e. e.0)) (sym has.1.1)) in
      behind found.0 found.1.0 found.1.1.0 found.1.1.1.0 ∙ found.1.1.1.1

  pub after-place : (es : List (ℕ × R)) (differ : NodesDiffer es) (node : ℕ) (next : Option NodeNo) (has : HasNode es node)
      → option_map (λ n. n.0) next ≡ option_map (λ e. e.0) (slice_get es (suc has.1.0))
      → place_at es next ≡ place_of es (Some node) + 1
  after-place es differ node next has is =
      let own = place-there es differ has.1.0 node has.0 has.1.1 in
      let within = slice_get_within es has.1.0 (node, has.0) has.1.1 in
      let there : place_at es next ≡ suc has.1.0 = ap (place_of es) is ∙ place-found es differ (suc has.1.0) (omega (arith, within)) in
      omega (arith, own, there)

  pub after-stands : (es : List (ℕ × R)) (node : ℕ) (next : Option NodeNo) (has : HasNode es node)
      → option_map (λ n. n.0) next ≡ option_map (λ e. e.0) (slice_get es (suc has.1.0))
      → IfSome next (λ n. HasNode es n.0)
  after-stands es node next has is = has-behind es next (suc has.1.0) is

  pub row-place : (es : List (ℕ × R)) (differ : NodesDiffer es) (node : ℕ) (row : R) (has : Has es node row)
      → slice_get es (place_of es (Some node)) ≡ Some (node, row)
  row-place es differ node row has = ap (slice_get es) (place-there es differ has.0 node row has.1) ∙ has.1
