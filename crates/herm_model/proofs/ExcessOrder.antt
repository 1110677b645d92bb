-- The excess of a set of facts apart from types is the list that goes down by the types.
use Rattle.std.proofs.Common.{◌≡◌, ◌↔◌, ℕ, zero, suc, ◌<◌, ◌≤◌, List, [], ◌∷◌, ◌++◌, map, flat_map, Bool, true, false, cond, ◌&&◌, ◌||◌, ◌⊎◌, inl, inr, nat_eq, nat_lt, Option, Some, None, is_some, option_map, slice_get, IsTrue, IsFalse, refl, sym, ap, ap₂, subst, ◌∙◌, arith, append_assoc, append-nil, true≢false}
use Rattle.std.proofs.lemmas.Bool.{eq-eqb, eqb-true, lt-ltb, ltb-true}
use Rattle.std.proofs.Math.Path.{fun_ext}
use Rattle.herm_model.specs.Lists.{IsIn, all_pass, map_or, list_of, numbered}
use Rattle.herm_model.specs.Paths.{Path, Fact, init}
use Rattle.herm_model.specs.Types.{Parameter, Shape, fields, cases, callmessage, TypeTable, named_types, part_type, is_cases, type_below, enters_component, is_within_depth, greatest_depth, held_parts, IsPartPath}
use Rattle.herm_model.specs.Facts.{IsFactOf}
use Rattle.herm_model.specs.Values.{has_value}
use Rattle.herm_model.specs.Finalising.{excess_from, excess_at, excess}
use Rattle.herm_model.specs.laws.ExcessLaws.{comes_before, AreInOrder, is_beyond, IsExcess, FactsHaveTheirExcess, ValuesHaveTheirExcess}
use Rattle.herm_model.proofs.Lists.{not_true, or-either, or-left, or-right, and-both, both-and, in-append_cases, in-flat_map, in-flat_map_from, cons-head, cons-tail, numbered-in, every-in, slice_get-map}
use Rattle.herm_model.proofs.FactTests.{at-numbered, got-IsIn}
use Rattle.herm_model.proofs.Steps.{within-known}
use Rattle.herm_model.proofs.Excess.{excess-top, top-excess}
use Rattle.herm_model.proofs.TypesBelow.{known-above}
use Rattle.herm_model.proofs.Keys.{same-tests}

-- the order of paths
before-irreflexive : (p : Path) → IsTrue (comes_before p p) → ⊥
before-irreflexive [] h = not_true h
before-irreflexive (i ∷ p) h = by (or-either (nat_lt i i) _ h) (before-irreflexive p)
  where
    by : IsTrue (nat_lt i i) ⊎ IsTrue (nat_eq i i && comes_before p p) → (IsTrue (comes_before p p) → ⊥) → ⊥
    by (inl a) again = let l : i < i = ltb-true i i a in omega arith
    by (inr b) again = again (and-both (nat_eq i i) _ b).1

before-asymmetric : (p q : Path) → IsTrue (comes_before p q) → IsTrue (comes_before q p) → ⊥
before-asymmetric [] [] h k = not_true h
before-asymmetric [] (j ∷ q) h k = not_true k
before-asymmetric (i ∷ p) [] h k = not_true h
before-asymmetric (i ∷ p) (j ∷ q) h k = by (or-either (nat_lt i j) _ h) (or-either (nat_lt j i) _ k) (before-asymmetric p q)
  where
    by : IsTrue (nat_lt i j) ⊎ IsTrue (nat_eq i j && comes_before p q) → IsTrue (nat_lt j i) ⊎ IsTrue (nat_eq j i && comes_before q p) → (IsTrue (comes_before p q) → IsTrue (comes_before q p) → ⊥) → ⊥
    by (inl a) (inl b) again = let l : i < j = ltb-true i j a in let m : j < i = ltb-true j i b in omega arith
    by (inl a) (inr b) again = let l : i < j = ltb-true i j a in let m : j ≡ i = eqb-true j i (and-both (nat_eq j i) _ b).0 in omega arith
    by (inr a) (inl b) again = let l : i ≡ j = eqb-true i j (and-both (nat_eq i j) _ a).0 in let m : j < i = ltb-true j i b in omega arith
    by (inr a) (inr b) again = again (and-both (nat_eq i j) _ a).1 (and-both (nat_eq j i) _ b).1

before-parts : (p : Path) (i j : ℕ) (a b : List ℕ) → i < j → IsTrue (comes_before (p ++ i ∷ a) (p ++ j ∷ b))
before-parts [] i j a b l = or-left (nat_lt i j) _ (lt-ltb i j l)
before-parts (k ∷ p) i j a b l = or-right (nat_lt k k) _ (both-and (nat_eq k k) _ (eq-eqb k k refl) (before-parts p i j a b l))

-- two lists in order with the same members are equal
same-members : (xs ys : List Path) → AreInOrder xs → AreInOrder ys → ((z : Path) → IsIn z xs → IsIn z ys) → ((z : Path) → IsIn z ys → IsIn z xs) → xs ≡ ys
same-members [] [] a b f g = refl
same-members [] (y ∷ ys) a b f g = absurd (g y (inl refl))
same-members (x ∷ xs) [] a b f g = absurd (f x (inl refl))
same-members (x ∷ xs) (y ∷ ys) a b f g = ap₂ ◌∷◌ first (same-members xs ys a.1 b.1 onward back)
  where
    first : x ≡ y
    first = by (f x (inl refl)) (g y (inl refl))
      where
        by : IsIn x (y ∷ ys) → IsIn y (x ∷ xs) → x ≡ y
        by (inl e) k = e
        by (inr i) (inl e) = sym e
        by (inr i) (inr j) = absurd (before-asymmetric x y (a.0 y j) (b.0 x i))

    onward : (z : Path) → IsIn z xs → IsIn z ys
    onward z i = by (f z (inr i))
      where
        by : IsIn z (y ∷ ys) → IsIn z ys
        by (inl e) = absurd (before-irreflexive x (subst (λ w. IsTrue (comes_before x w)) (e ∙ sym first) (a.0 z i)))
        by (inr k) = k

    back : (z : Path) → IsIn z ys → IsIn z xs
    back z i = by (g z (inr i))
      where
        by : IsIn z (x ∷ xs) → IsIn z xs
        by (inl e) = absurd (before-irreflexive y (subst (λ w. IsTrue (comes_before y w)) (e ∙ first) (b.0 z i)))
        by (inr k) = k

order-append : (xs ys : List Path) → AreInOrder xs → AreInOrder ys → ((x y : Path) → IsIn x xs → IsIn y ys → IsTrue (comes_before x y)) → AreInOrder (xs ++ ys)
order-append [] ys a b h = b
order-append (x ∷ xs) ys a b h = (λ y i. by y (in-append_cases y xs ys i), order-append xs ys a.1 b (λ u v i j. h u v (inr i) j))
  where
    by : (y : Path) → IsIn y xs ⊎ IsIn y ys → IsTrue (comes_before x y)
    by y (inl i) = a.0 y i
    by y (inr j) = h x y (inl refl) j

-- the places of parts rise
abbrev RisePlaces : List (ℕ × ℕ) → Type 0
RisePlaces [] = Unit {0}
RisePlaces (x ∷ xs) = ((y : ℕ × ℕ) → IsIn y xs → x.0 < y.0) × RisePlaces xs

numbered-from : (k : ℕ) (ts : List ℕ) (y : ℕ × ℕ) → IsIn y (numbered k ts) → k ≤ y.0
numbered-from k [] y h = absurd h
numbered-from k (t ∷ ts) y (inl e) = let p : y.0 ≡ k = ap (λ (z : ℕ × ℕ). z.0) e in omega arith
numbered-from k (t ∷ ts) y (inr h) = omega (arith, numbered-from (suc k) ts y h)

numbered-rise : (k : ℕ) (ts : List ℕ) → RisePlaces (numbered k ts)
numbered-rise k [] = tt
numbered-rise k (t ∷ ts) = (λ y i. omega (arith, numbered-from (suc k) ts y i), numbered-rise (suc k) ts)

held-rise : (s : Shape) → RisePlaces (held_parts s)
held-rise (fields ts) = numbered-rise 0 ts
held-rise (callmessage ps raises) = numbered-rise 0 (map (λ (p : Parameter). p.content) ps)
held-rise s = tt

module _ (left : Path → Bool) (table : TypeTable) where
  -- lists of parts whose paths go on from theirs, in order
  parts-order : (p : Path) (next : ℕ × ℕ → List Path) (parts : List (ℕ × ℕ)) → RisePlaces parts → ((x : ℕ × ℕ) → IsIn x parts → AreInOrder (next x) × ((y : Path) → IsIn y (next x) → (more : List ℕ) × (y ≡ p ++ x.0 ∷ more))) → AreInOrder (flat_map next parts)
  parts-order p next [] rise each = tt
  parts-order p next (x ∷ xs) rise each = order-append (next x) (flat_map next xs) (each x (inl refl)).0 (parts-order p next xs rise.1 (λ y i. each y (inr i))) between
    where
      between : (u v : Path) → IsIn u (next x) → IsIn v (flat_map next xs) → IsTrue (comes_before u v)
      between u v i j =
          let r = in-flat_map_from next v xs j in
          let a = (each x (inl refl)).1 u i in
          let b = (each r.0 (inr r.1)).1 v r.2 in
          subst (λ w. IsTrue (comes_before w v)) (sym a.1) (subst (λ w. IsTrue (comes_before (p ++ x.0 ∷ a.0) w)) (sym b.1) (before-parts p x.0 (r.0).0 a.0 b.0 (rise.0 r.0 r.1)))

  abbrev in_parts : ℕ → Path → Option Shape → List Path
  in_parts n p o = map_or [] (λ s. flat_map (λ (part : ℕ × ℕ). excess_from left n table (p ++ part.0 ∷ []) part.1) (held_parts s)) o

  -- each path goes on from the one that the excess is asked for
  excess-begins : (n : ℕ) (p : Path) (t : ℕ) (x : Path) → IsIn x (excess_from left n table p t) → (more : List ℕ) × (x ≡ p ++ more)
  excess-begins zero p t x h = absurd h
  excess-begins (suc n) p t x h = by (left p) h (λ o. below o) (λ i u. excess-begins n (p ++ i ∷ []) u x)
    where
      Again : Type 0
      Again = (i u : ℕ) → IsIn x (excess_from left n table (p ++ i ∷ []) u) → (more : List ℕ) × (x ≡ (p ++ i ∷ []) ++ more)

      below : (o : Option Shape) → IsIn x (in_parts n p o) → Again → (more : List ℕ) × (x ≡ p ++ more)
      below None h again = absurd h
      below (Some s) h again =
          let r = in-flat_map_from (λ (part : ℕ × ℕ). excess_from left n table (p ++ part.0 ∷ []) part.1) x (held_parts s) h in
          let k = again (r.0).0 (r.0).1 r.2 in ((r.0).0 ∷ k.0, k.1 ∙ append_assoc p ((r.0).0 ∷ []) k.0)

      by : (b : Bool) → IsIn x (cond b (p ∷ []) (in_parts n p (slice_get table t))) → ((o : Option Shape) → IsIn x (in_parts n p o) → Again → (more : List ℕ) × (x ≡ p ++ more)) → Again → (more : List ℕ) × (x ≡ p ++ more)
      by true (inl e) deep again = ([], e ∙ sym (append-nil p))
      by true (inr h) deep again = absurd h
      by false h deep again = deep (slice_get table t) h again

  excess-order : (n : ℕ) (p : Path) (t : ℕ) → AreInOrder (excess_from left n table p t)
  excess-order zero p t = tt
  excess-order (suc n) p t = by (left p) (slice_get table t) (λ i u. excess-order n (p ++ i ∷ []) u)
    where
      Again : Type 0
      Again = (i u : ℕ) → AreInOrder (excess_from left n table (p ++ i ∷ []) u)

      begun : (x : ℕ × ℕ) (y : Path) → IsIn y (excess_from left n table (p ++ x.0 ∷ []) x.1) → (more : List ℕ) × (y ≡ p ++ x.0 ∷ more)
      begun x y i = let k = excess-begins n (p ++ x.0 ∷ []) x.1 y i in (k.0, k.1 ∙ append_assoc p (x.0 ∷ []) k.0)

      by : (b : Bool) (o : Option Shape) → Again → AreInOrder (cond b (p ∷ []) (in_parts n p o))
      by true o again = ((λ y i. absurd i), tt)
      by false None again = tt
      by false (Some s) again = parts-order p (λ (part : ℕ × ℕ). excess_from left n table (p ++ part.0 ∷ []) part.1) (held_parts s) (held-rise s) (λ x i. (again x.0 x.1, begun x))

-- a path that has a type and passes through no component leads through parts that hold values
module _ (table : TypeTable) where
  abbrev part_at_shape : Option Shape → ℕ → Option ℕ
  part_at_shape o i = map_or None (λ s. part_type s i) o

  pub typed-leads : (n : ℕ) (q : List ℕ) (t : ℕ) → IsTrue (is_within_depth n table t) → IsTrue (is_some (type_below table (Some t) q)) → IsFalse (enters_component table (Some t) q) → IsPartPath held_parts table t q
  typed-leads zero q t w h f = not_true w
  typed-leads (suc n) [] t w h f = within-known table (suc n) t w
  typed-leads (suc n) (i ∷ q) t w h f = by (slice_get table t) w h f (typed-leads n q)
    where
      Again : Type 0
      Again = (u : ℕ) → IsTrue (is_within_depth n table u) → IsTrue (is_some (type_below table (Some u) q)) → IsFalse (enters_component table (Some u) q) → IsPartPath held_parts table u q

      part : (ts : List ℕ) (o : Option ℕ) → slice_get ts i ≡ o → IsTrue (all_pass (is_within_depth n table) ts) → IsTrue (is_some (type_below table o q)) → IsFalse (enters_component table o q) → Again → (u : ℕ) × IsIn (i, u) (numbered 0 ts) × IsPartPath held_parts table u q
      part ts None e w h f again = not_true (known-above table None q h)
      part ts (Some u) e w h f again = (u, at-numbered ts i u e, again u (every-in (is_within_depth n table) u ts w (got-IsIn ts i u e)) h f)

      by : (o : Option Shape) → IsTrue (map_or false (λ s. all_pass (is_within_depth n table) (named_types s)) o) → IsTrue (is_some (type_below table (part_at_shape o i) q)) → IsFalse (map_or false (λ s. is_cases s) o || enters_component table (part_at_shape o i) q) → Again → (u : ℕ) × IsIn (i, u) (list_of held_parts o) × IsPartPath held_parts table u q
      by None w h f again = not_true w
      by (Some (fields ts)) w h f again = part ts (slice_get ts i) refl w h f again
      by (Some (cases ts)) w h f again = absurd (true≢false f)
      by (Some (callmessage ps rs)) w h f again =
          let same : slice_get (map (λ (p : Parameter). p.content) ps) i ≡ option_map (λ (p : Parameter). p.content) (slice_get ps i) = slice_get-map (λ (p : Parameter). p.content) ps i in
          part (map (λ (p : Parameter). p.content) ps) (option_map (λ (p : Parameter). p.content) (slice_get ps i)) same w h f again
      by (Some s) w h f again = not_true (known-above table None q h)

module _ (table : TypeTable) (variables : List ℕ) (here low : Fact → Bool) (deep : (t : ℕ) → IsIn t variables → IsTrue (is_within_depth greatest_depth table t)) (facts : (p : Path) → IsTrue (here (init p)) → IsFactOf table variables (init p)) where
  abbrev the_excess : List Path
  the_excess = excess table variables (λ p. here (init p)) (λ p. low (init p))

  abbrev at_variable : ℕ × ℕ → List Path
  at_variable v = excess_at table (λ p. here (init p)) (λ p. low (init p)) (v.0 ∷ []) v.1

  abbrev Topmost : Path → Type 0
  Topmost x = IsTrue (is_beyond here low x) × ((q : Path) (i : ℕ) (more : List ℕ) → x ≡ q ++ i ∷ more → IsFalse (is_beyond here low q))

  is-false : (b : Bool) → (IsTrue b → ⊥) → IsFalse b
  is-false true f = absurd (f refl)
  is-false false f = refl

  no-root : IsFalse (is_beyond here low [])
  no-root = is-false (is_beyond here low []) (λ h. not_true (facts [] (and-both (here (init [])) _ h).0).0)

  listed-top : (x : Path) → IsIn x the_excess → Topmost x
  listed-top x h =
      let r = in-flat_map_from at_variable x (numbered 0 variables) h in
      let w = deep (r.0).1 (numbered-in (r.0).0 0 (r.0).1 variables r.1) in
      let top = excess-top (is_beyond here low) table greatest_depth ((r.0).0 ∷ []) (r.0).1 x w r.2 in
      (top.is_left, λ q i more e. before (r.0).0 top.steps top.whole top.first q i more e)
    where
      before : (v : ℕ) (steps : List ℕ) → x ≡ (v ∷ []) ++ steps → ((r : List ℕ) (i : ℕ) (more : List ℕ) → steps ≡ r ++ i ∷ more → IsFalse (is_beyond here low ((v ∷ []) ++ r))) → (q : Path) (i : ℕ) (more : List ℕ) → x ≡ q ++ i ∷ more → IsFalse (is_beyond here low q)
      before v steps whole first [] i more e = no-root
      before v steps whole first (u ∷ q) i more e =
          let same : v ∷ steps ≡ u ∷ (q ++ i ∷ more) = sym whole ∙ e in
          subst (λ z. IsFalse (is_beyond here low (z ∷ q))) (cons-head same) (first q i more (cons-tail same))

  top-listed : (x : Path) → Topmost x → IsIn x the_excess
  top-listed [] h = absurd (true≢false (sym h.0 ∙ no-root))
  top-listed (v ∷ q) h = by (slice_get variables v) refl (facts (v ∷ q) (and-both (here (init (v ∷ q))) _ h.0).0)
    where
      by : (o : Option ℕ) → slice_get variables v ≡ o → IsTrue (is_some (type_below table o q)) × IsFalse (enters_component table o q) → IsIn (v ∷ q) the_excess
      by None e f = not_true (known-above table None q f.0)
      by (Some t) e f =
          let w = deep t (got-IsIn variables v t e) in
          in-flat_map at_variable (v, t) (v ∷ q) (numbered 0 variables) (at-numbered variables v t e)
          (top-excess (is_beyond here low) table greatest_depth (v ∷ []) t q (v ∷ q) w refl (typed-leads table greatest_depth q t w f.0 f.1) h.0 (λ r i more k. h.1 (v ∷ r) i more (ap (v ∷◌) k)))

  listed-order : AreInOrder the_excess
  listed-order =
      parts-order (is_beyond here low) table [] at_variable (numbered 0 variables) (numbered-rise 0 variables)
      (λ x i. (excess-order (is_beyond here low) table greatest_depth (x.0 ∷ []) x.1, λ y j. let k = excess-begins (is_beyond here low) table greatest_depth (x.0 ∷ []) x.1 y j in (k.0, k.1)))

  pub is-excess : (xs : List Path) → IsExcess here low xs ↔ (xs ≡ the_excess)
  is-excess xs = (
    λ e. same-members xs the_excess e.order listed-order (λ z i. top-listed z ((e.topmost z).0 i)) (λ z i. (e.topmost z).1 (listed-top z i)),
    λ e. subst (IsExcess here low) (sym e) (record { order = listed-order; topmost = λ x. (listed-top x, top-listed x) }),
  )

pub facts-excess : FactsHaveTheirExcess
facts-excess table variables here low deep facts xs = is-excess table variables here low deep facts xs

pub values-excess : ValuesHaveTheirExcess
values-excess table variables has ps kept exact = ap (λ (here : Path → Bool). excess table variables here kept) (fun_ext (λ p. same-tests (has_value ps p) (has (init p)) (exact.values p).0 (exact.values p).1))
