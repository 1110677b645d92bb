-- What is left of the facts behind an edge, by what is left of those before it.
use Rattle.std.proofs.Common.{◌≡◌, ◌⊎◌, inl, inr, ℕ, List, [], ◌∷◌, ◌++◌, filter, nat_eq, Bool, true, false, cond, not, IsTrue, IsFalse, refl, sym, ap, subst, ◌∙◌, true≢false, append_assoc, append-nil}
use Rattle.herm_model.specs.Lists.{IsIn, any_pass}
use Rattle.herm_model.specs.Paths.{Path, Fact, init, same_fact, is_at_or_below}
use Rattle.herm_model.specs.ControlPaths.{Edge, held_after_edge}
use Rattle.herm_model.specs.laws.ExcessLaws.{IsExcess, AreInOrder, is_beyond}
use Rattle.herm_model.proofs.Lists.{in-filter, in-filter_from, and-both, both-and, or-either, or-left, or-right, cons-head, cons-tail}
use Rattle.herm_coerce.specs.Coerced.{behind_edge}

-- the first of the paths on the way to a path that pass a test
record First (test : Path → Bool) (q : Path) : Type 0 where
  path : Path
  more : List ℕ
  whole : q ≡ path ++ more
  passes : test path ≡ true
  first : (r : Path) (i : ℕ) (rest : List ℕ) → path ≡ r ++ i ∷ rest → IsFalse (test r)

no-shorter : (test : Path → Bool) (r : Path) (i : ℕ) (rest : List ℕ) → [] ≡ r ++ i ∷ rest → IsFalse (test r)
no-shorter test [] i rest e = absurd (let k : ⊥ = cc in k)
no-shorter test (j ∷ r) i rest e = absurd (let k : ⊥ = cc in k)

first-on : (test : Path → Bool) (q : Path) → test q ≡ true → First test q
first-on test [] h = record { path = []; more = []; whole = refl; passes = h; first = no-shorter test }
first-on test (i ∷ q) h = by (test []) refl (first-on (λ p. test (i ∷ p)) q h)
  where
    by : (b : Bool) → test [] ≡ b → First (λ p. test (i ∷ p)) q → First test (i ∷ q)
    by true e f = record { path = []; more = i ∷ q; whole = refl; passes = e; first = no-shorter test }
    by false e f = record { path = i ∷ f.path; more = f.more; whole = ap (i ∷◌) f.whole; passes = f.passes; first = first }
      where
        first : (r : Path) (j : ℕ) (rest : List ℕ) → i ∷ f.path ≡ r ++ j ∷ rest → IsFalse (test r)
        first [] j rest eq = e
        first (k ∷ r) j rest eq = subst (λ m. IsFalse (test (m ∷ r))) (cons-head eq) (f.first r j rest (cons-tail eq))

-- a path that goes on from another one
longer : (x z : Path) (m : List ℕ) (i : ℕ) (more : List ℕ) → x ≡ (z ++ m) ++ i ∷ more → (j : ℕ) × (rest : List ℕ) × (x ≡ z ++ j ∷ rest)
longer x z [] i more e = (i, more, e ∙ ap (λ p. p ++ i ∷ more) (append-nil z))
longer x z (j ∷ m) i more e = (j, m ++ i ∷ more, e ∙ append_assoc z (j ∷ m) (i ∷ more))

-- what is below a path is below those before it
below-more : (k z more : Path) → is_at_or_below k z ≡ true → is_at_or_below k (z ++ more) ≡ true
below-more [] z more h = refl
below-more (i ∷ k) [] more h = absurd (true≢false (sym h))
below-more (i ∷ k) (j ∷ z) more h =
    let both = and-both (nat_eq i j) (is_at_or_below k z) h in
    both-and (nat_eq i j) (is_at_or_below k (z ++ more)) both.0 (below-more k z more both.1)

abbrev killed : List Path → Path → Bool
killed ks z = any_pass (λ k. is_at_or_below k z) ks

killed-more : (ks : List Path) (z more : Path) → killed ks z ≡ true → killed ks (z ++ more) ≡ true
killed-more [] z more h = h
killed-more (k ∷ ks) z more h = by (or-either (is_at_or_below k z) (killed ks z) h) (killed-more ks z more)
  where
    by : IsTrue (is_at_or_below k z) ⊎ IsTrue (killed ks z) → (killed ks z ≡ true → killed ks (z ++ more) ≡ true) → killed (k ∷ ks) (z ++ more) ≡ true
    by (inl a) again = or-left (is_at_or_below k (z ++ more)) (killed ks (z ++ more)) (below-more k z more a)
    by (inr b) again = or-right (is_at_or_below k (z ++ more)) (killed ks (z ++ more)) (again b)

in-order_filter : (keep : Path → Bool) (xs : List Path) → AreInOrder xs → AreInOrder (filter keep xs)
in-order_filter keep [] o = tt
in-order_filter keep (x ∷ xs) o = by (keep x) (in-order_filter keep xs o.1)
  where
    by : (b : Bool) → AreInOrder (filter keep xs) → AreInOrder (cond b (x ∷ filter keep xs) (filter keep xs))
    by true again = (λ y m. o.0 y (in-filter_from keep y xs m).0, again)
    by false again = again

pub filter-all : (keep : Path → Bool) (xs : List Path) → ((x : Path) → IsIn x xs → keep x ≡ true) → filter keep xs ≡ xs
filter-all keep [] h = refl
filter-all keep (x ∷ xs) h = ap (λ b. cond b (x ∷ filter keep xs) (filter keep xs)) (h x (inl refl)) ∙ ap (x ∷◌) (filter-all keep xs (λ y m. h y (inr m)))

pub filter-push : (keep : Path → Bool) (xs : List Path) (x : Path) → filter keep (xs ++ x ∷ []) ≡ filter keep xs ++ cond (keep x) (x ∷ []) []
filter-push keep [] x = refl
filter-push keep (y ∷ ys) x = by (keep y) (filter-push keep ys x)
  where
    by : (b : Bool) → filter keep (ys ++ x ∷ []) ≡ filter keep ys ++ cond (keep x) (x ∷ []) [] → cond b (y ∷ filter keep (ys ++ x ∷ [])) (filter keep (ys ++ x ∷ [])) ≡ cond b (y ∷ filter keep ys) (filter keep ys) ++ cond (keep x) (x ∷ []) []
    by true e = ap (y ∷◌) e
    by false e = e

-- a value at the path is held behind the edge, where it is held before it
abbrev pub kept : Edge → Path → Bool
kept e x = held_after_edge e (init x) true

made-or : (m k b : Bool) → cond m true (cond k false b) ≡ true → (m ≡ true) ⊎ (b ≡ true)
made-or true k b h = inl refl
made-or false true b h = absurd (true≢false (sym h))
made-or false false b h = inr h

lost-by : (m k : Bool) → cond m true (cond k false true) ≡ false → k ≡ true
lost-by true k h = absurd (true≢false h)
lost-by false true h = refl
lost-by false false h = absurd (true≢false h)

made-where : (m k b : Bool) → k ≡ true → cond m true (cond k false b) ≡ true → m ≡ true
made-where true k b e h = refl
made-where false true b e h = absurd (true≢false (sym h))
made-where false false b e h = absurd (true≢false (sym e))

off : (b : Bool) → not b ≡ true → b ≡ false
off true h = absurd (true≢false (sym h))
off false h = refl

against : (a b : Bool) → (a ≡ true → b ≡ true) → b ≡ false → a ≡ false
against true b f e = absurd (true≢false (sym (f refl) ∙ e))
against false b f e = refl

module _ (e : Edge) (low before : Fact → Bool) (xs : List Path) (is : IsExcess before low xs)
    (shrinks : (f : Fact) → any_pass (same_fact f) e.makes ≡ true → low f ≡ false → before f ≡ true)
    (lost : (z : Path) → IsIn z xs → kept e z ≡ false → (f : Fact) → any_pass (same_fact f) e.makes ≡ true → low f ≡ true) where
  before-behind : (p : Path) → is_beyond (behind_edge before e) low p ≡ true → is_beyond before low p ≡ true
  before-behind p h =
      let both = and-both (behind_edge before e (init p)) (not (low (init p))) h in
      both-and (before (init p)) (not (low (init p))) (by (made-or (any_pass (same_fact (init p)) e.makes) (killed e.kills p) (before (init p)) both.0) (off (low (init p)) both.1)) both.1
    where
      by : (any_pass (same_fact (init p)) e.makes ≡ true) ⊎ (before (init p) ≡ true) → low (init p) ≡ false → before (init p) ≡ true
      by (inl m) l = shrinks (init p) m l
      by (inr b) l = b

  forth : (x : Path) → IsIn x (filter (kept e) xs) → IsTrue (is_beyond (behind_edge before e) low x) × ((q : Path) (i : ℕ) (more : List ℕ) → x ≡ q ++ i ∷ more → IsFalse (is_beyond (behind_edge before e) low q))
  forth x m =
      let both = in-filter_from (kept e) x xs m in
      let top = (is.topmost x).0 both.0 in
      let now = and-both (before (init x)) (not (low (init x))) top.0 in (
        both-and (behind_edge before e (init x)) (not (low (init x))) (ap (held_after_edge e (init x)) now.0 ∙ both.1) now.1,
        λ q i more eq. against (is_beyond (behind_edge before e) low q) (is_beyond before low q) (before-behind q) (top.1 q i more eq),
      )

  -- before a path that is topmost behind the edge nothing is left before it
  none-before : (x : Path) → IsTrue (is_beyond (behind_edge before e) low x) → ((q : Path) (i : ℕ) (more : List ℕ) → x ≡ q ++ i ∷ more → IsFalse (is_beyond (behind_edge before e) low q))
      → (q : Path) (i : ℕ) (more : List ℕ) → x ≡ q ++ i ∷ more → IsFalse (is_beyond before low q)
  none-before x h none q i more eq = by (is_beyond before low q) refl
    where
      by : (b : Bool) → is_beyond before low q ≡ b → b ≡ false
      by false t = refl
      by true t =
          let f = first-on (is_beyond before low) q t in
          let member : IsIn f.path xs = (is.topmost f.path).1 (f.passes, f.first) in
          let on = longer x f.path f.more i more (eq ∙ ap (λ p. p ++ i ∷ more) f.whole) in
          absurd (here f.path member f.passes on.0 on.1 on.2 (kept e f.path) refl)
        where
          here : (z : Path) → IsIn z xs → is_beyond before low z ≡ true → (j : ℕ) (rest : List ℕ) → x ≡ z ++ j ∷ rest → (b : Bool) → kept e z ≡ b → ⊥
          here z member passes j rest on true k =
              let now = and-both (before (init z)) (not (low (init z))) passes in
              let there : is_beyond (behind_edge before e) low z ≡ true = both-and (behind_edge before e (init z)) (not (low (init z))) (ap (held_after_edge e (init z)) now.0 ∙ k) now.1 in
              true≢false (sym there ∙ none z j rest on)
          here z member passes j rest on false k =
              let gone : killed e.kills x ≡ true = subst (λ p. killed e.kills p ≡ true) (sym on) (killed-more e.kills z (j ∷ rest) (lost-by (any_pass (same_fact (init z)) e.makes) (killed e.kills z) k)) in
              let both = and-both (behind_edge before e (init x)) (not (low (init x))) h in
              let made = made-where (any_pass (same_fact (init x)) e.makes) (killed e.kills x) (before (init x)) gone both.0 in
              true≢false (sym (lost z member k (init x) made) ∙ off (low (init x)) both.1)

  back : (x : Path) → IsTrue (is_beyond (behind_edge before e) low x) → ((q : Path) (i : ℕ) (more : List ℕ) → x ≡ q ++ i ∷ more → IsFalse (is_beyond (behind_edge before e) low q)) → IsIn x (filter (kept e) xs)
  back x h none =
      let b = before-behind x h in
      let now = and-both (before (init x)) (not (low (init x))) b in
      let there = and-both (behind_edge before e (init x)) (not (low (init x))) h in
      in-filter (kept e) x xs ((is.topmost x).1 (b, none-before x h none)) (sym (ap (held_after_edge e (init x)) now.0) ∙ there.0)

  -- Where the edge makes what is held before it or what is in the label, and the latter alone where a value is lost, what is left behind it is
  -- that part of what is left before it which the edge does not take away.
  pub left-behind : IsExcess (behind_edge before e) low (filter (kept e) xs)
  left-behind = record { order = in-order_filter (kept e) xs is.order; topmost = λ x. (forth x, λ both. back x both.0 both.1) }
