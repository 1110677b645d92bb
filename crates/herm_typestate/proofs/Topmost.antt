-- Lists of topmost paths are made place by place.
use Rattle.std.proofs.Common.{◌≡◌, ℕ, ◌+◌, ◌<◌, ◌≤◌, List, [], ◌∷◌, ◌++◌, map, Bool, true, false, ◌&&◌, ◌⊎◌, inl, inr, nat_eq, nat_lt, IsTrue, IsFalse, refl, sym, ◌∙◌, ap, ap₂, subst, arith, append_assoc, append-nil, true≢false}
use Rattle.std.proofs.lemmas.Bool.{eq-eqb, lt-ltb, ltb-true}
use Rattle.std.proofs.lemmas.Bool.Decides.{nat_tests}
use Rattle.herm_model.specs.Lists.{IsIn}
use Rattle.herm_model.specs.Paths.{Path}
use Rattle.herm_model.specs.laws.ExcessLaws.{AreInOrder, comes_before}
use Rattle.herm_model.proofs.Lists.{cons-head, cons-tail, cons-not_nil, in-append_left, in-append_right, in-append_cases, in-map, in-map_from, not_true, and-both, both-and, or-left, or-right}
use Rattle.herm_typestate.specs.Topmost.{AreTopmost, AddTopmost}

abbrev HasNoneAbove : (Path → Bool) → Path → Type 0
HasNoneAbove test x = (q : Path) (i : ℕ) (more : List ℕ) → x ≡ q ++ i ∷ more → IsFalse (test q)

pub topmost-same : (a b : Path → Bool) (xs : List Path) → ((p : Path) → a p ≡ b p) → AreTopmost a xs → AreTopmost b xs
topmost-same a b xs h t = record {
  order = t.order;
  topmost = λ x. (
    λ member. let both = (t.topmost x).0 member in (subst IsTrue (h x) both.0, λ q i more e. subst IsFalse (h q) (both.1 q i more e)),
    λ both. (t.topmost x).1 (subst IsTrue (sym (h x)) both.0, λ q i more e. subst IsFalse (sym (h q)) (both.1 q i more e)),
  );
}

nothing_before : (q : Path) (i : ℕ) (more : List ℕ) → [] ≡ q ++ i ∷ more → ⊥
nothing_before [] i more e = cons-not_nil i more (sym e)
nothing_before (j ∷ q) i more e = cons-not_nil j (q ++ i ∷ more) (sym e)

-- the root alone, where the test is true there
pub topmost-root : (a : Path → Bool) → a [] ≡ true → AreTopmost a ([] ∷ [])
topmost-root a h = record { order = (λ y member. absurd member, tt); topmost = λ x. (forth x, λ both. back x both.1) }
  where
    forth : (x : Path) → IsIn x ([] ∷ []) → IsTrue (a x) × HasNoneAbove a x
    forth x (inl e) = subst (λ y. IsTrue (a y) × HasNoneAbove a y) (sym e) (h, λ q i more f. absurd (nothing_before q i more f))
    forth x (inr n) = absurd n

    back : (x : Path) → HasNoneAbove a x → IsIn x ([] ∷ [])
    back [] none = inl refl
    back (j ∷ q) none = absurd (true≢false (sym h ∙ none [] j q refl))

pub topmost-none : (a : Path → Bool) → ((p : Path) → a p ≡ false) → AreTopmost a []
topmost-none a h = record { order = tt; topmost = λ x. (λ member. absurd member, λ both. absurd (true≢false (sym both.0 ∙ h x))) }

in_order-append : (xs ys : List Path) → AreInOrder xs → AreInOrder ys → ((x y : Path) → IsIn x xs → IsIn y ys → IsTrue (comes_before x y)) → AreInOrder (xs ++ ys)
in_order-append [] ys a b h = b
in_order-append (x ∷ xs) ys a b h = (λ y member. by y (in-append_cases y xs ys member), in_order-append xs ys a.1 b (λ z y m n. h z y (inr m) n))
  where
    by : (y : Path) → IsIn y xs ⊎ IsIn y ys → IsTrue (comes_before x y)
    by y (inl m) = a.0 y m
    by y (inr m) = h x y (inl refl) m

before-behind : (i : ℕ) (p q : Path) → IsTrue (comes_before p q) → IsTrue (comes_before (i ∷ p) (i ∷ q))
before-behind i p q h = or-right (nat_lt i i) _ (both-and (nat_eq i i) _ (eq-eqb i i refl) h)

in_order-map : (i : ℕ) (ys : List Path) → AreInOrder ys → AreInOrder (map (i ∷◌) ys)
in_order-map i [] a = tt
in_order-map i (y ∷ ys) a = (λ z member. by z (in-map_from (i ∷◌) z ys member), in_order-map i ys a.1)
  where
    by : (z : Path) → (x : Path) × IsIn x ys × (z ≡ i ∷ x) → IsTrue (comes_before (i ∷ y) z)
    by z m = subst (λ w. IsTrue (comes_before (i ∷ y) w)) (sym m.2) (before-behind i y m.0 (a.0 m.0 m.1))

-- the test at the paths whose first step is below a place
abbrev pub up_to : ℕ → (Path → Bool) → Path → Bool
up_to i b [] = false
up_to i b (j ∷ q) = nat_lt j i && b (j ∷ q)

pub up_to_none : (b : Path → Bool) (p : Path) → up_to 0 b p ≡ false
up_to_none b [] = refl
up_to_none b (j ∷ q) = by (nat_lt j 0) refl
  where
    by : (c : Bool) → nat_lt j 0 ≡ c → (c && b (j ∷ q)) ≡ false
    by true e = let l : j < 0 = ltb-true j 0 e in absurd (omega arith)
    by false e = refl

pub up_to_all : (b : Path → Bool) (i : ℕ) → b [] ≡ false → ((j : ℕ) (q : Path) → i ≤ j → b (j ∷ q) ≡ false) → (p : Path) → up_to i b p ≡ b p
up_to_all b i root past [] = sym root
up_to_all b i root past (j ∷ q) = by (nat_lt j i) refl
  where
    not_below : nat_lt j i ≡ false → i ≤ j
    not_below e = grind (arith, nat_tests)

    by : (c : Bool) → nat_lt j i ≡ c → (c && b (j ∷ q)) ≡ b (j ∷ q)
    by true e = refl
    by false e = sym (past j q (not_below e))

module _ (b : Path → Bool) (i : ℕ) where
  raised : (x : Path) → IsTrue (up_to i b x) → IsTrue (up_to (i + 1) b x)
  raised [] h = not_true h
  raised (j ∷ q) h = let both = and-both (nat_lt j i) _ h in let l : j < i = ltb-true j i both.0 in both-and (nat_lt j (i + 1)) _ (lt-ltb j (i + 1) (omega arith)) both.1

  lowered : (x : Path) → IsFalse (up_to (i + 1) b x) → IsFalse (up_to i b x)
  lowered x h = by (up_to i b x) refl
    where
      by : (c : Bool) → up_to i b x ≡ c → IsFalse c
      by true e = absurd (true≢false (sym (raised x e) ∙ h))
      by false e = refl

  here_below : nat_lt i (i + 1) ≡ true
  here_below = lt-ltb i (i + 1) (omega arith)

  -- where the first step is below, the two tests are one
  same_below : (j : ℕ) (q : Path) → j < i → up_to (i + 1) b (j ∷ q) ≡ up_to i b (j ∷ q)
  same_below j q l = ap (λ c. c && b (j ∷ q)) (lt-ltb j (i + 1) (omega arith) ∙ sym (lt-ltb j i l))

  first_below : (x : Path) (j : ℕ) (q : Path) → IsTrue (up_to i b x) → x ≡ j ∷ q → j < i
  first_below x j q h e = let l : j < i = ltb-true j i (and-both (nat_lt j i) _ (subst (λ y. IsTrue (up_to i b y)) e h)).0 in l

  none_raised : (x : Path) → IsTrue (up_to i b x) → HasNoneAbove (up_to i b) x → HasNoneAbove (up_to (i + 1) b) x
  none_raised x h none [] k more e = refl
  none_raised x h none (j ∷ q) k more e = same_below j q (first_below x j (q ++ k ∷ more) h e) ∙ none (j ∷ q) k more e

  none_here : (y : Path) → HasNoneAbove (λ p. b (i ∷ p)) y → HasNoneAbove (up_to (i + 1) b) (i ∷ y)
  none_here y none [] k more e = refl
  none_here y none (j ∷ q) k more e =
      subst (λ n. IsFalse (up_to (i + 1) b (n ∷ q))) (cons-head e) (ap (λ c. c && b (i ∷ q)) here_below ∙ none q k more (cons-tail e))

  pub topmost-next : (xs ys : List Path) → AreTopmost (up_to i b) xs → AreTopmost (λ p. b (i ∷ p)) ys → AreTopmost (up_to (i + 1) b) (xs ++ map (i ∷◌) ys)
  topmost-next xs ys s t = record {
    order = in_order-append xs (map (i ∷◌) ys) s.order (in_order-map i ys t.order) (λ x y m n. before x y m (in-map_from (i ∷◌) y ys n));
    topmost = λ x. (λ member. forth x (in-append_cases x xs (map (i ∷◌) ys) member), λ both. back x both.0 both.1);
  }
    where
      before : (x y : Path) → IsIn x xs → (z : Path) × IsIn z ys × (y ≡ i ∷ z) → IsTrue (comes_before x y)
      before x y m n = by x ((s.topmost x).0 m).0
        where
          by : (w : Path) → IsTrue (up_to i b w) → IsTrue (comes_before w y)
          by [] h = not_true h
          by (j ∷ q) h = subst (λ v. IsTrue (comes_before (j ∷ q) v)) (sym n.2) (or-left (nat_lt j i) _ (and-both (nat_lt j i) _ h).0)

      forth : (x : Path) → IsIn x xs ⊎ IsIn x (map (i ∷◌) ys) → IsTrue (up_to (i + 1) b x) × HasNoneAbove (up_to (i + 1) b) x
      forth x (inl m) = let both = (s.topmost x).0 m in (raised x both.0, none_raised x both.0 both.1)
      forth x (inr m) =
          let n = in-map_from (i ∷◌) x ys m in
          let both = (t.topmost n.0).0 n.1 in
          subst (λ y. IsTrue (up_to (i + 1) b y) × HasNoneAbove (up_to (i + 1) b) y) (sym n.2) (both-and (nat_lt i (i + 1)) _ here_below both.0, none_here n.0 both.1)

      back : (x : Path) → IsTrue (up_to (i + 1) b x) → HasNoneAbove (up_to (i + 1) b) x → IsIn x (xs ++ map (i ∷◌) ys)
      back [] h none = not_true h
      back (j ∷ q) h none = by (below_or_here j (let l : j < i + 1 = ltb-true j (i + 1) (and-both (nat_lt j (i + 1)) _ h).0 in l))
        where
          below_or_here : (k : ℕ) → k < i + 1 → (k < i) ⊎ (k ≡ i)
          below_or_here k l = grind arith

          by : (j < i) ⊎ (j ≡ i) → IsIn (j ∷ q) (xs ++ map (i ∷◌) ys)
          by (inl l) = in-append_left (j ∷ q) xs (map (i ∷◌) ys) ((s.topmost (j ∷ q)).1 (sym (same_below j q l) ∙ h, λ p k more e. lowered p (none p k more e)))
          by (inr e) =
              subst (λ n. IsIn (n ∷ q) (xs ++ map (i ∷◌) ys)) (sym e) (in-append_right (i ∷ q) xs (map (i ∷◌) ys) (in-map (i ∷◌) q ys ((t.topmost q).1 (
                subst (λ n. IsTrue (b (n ∷ q))) e (and-both (nat_lt j (i + 1)) _ h).1,
                λ p k more f. sym (ap (λ c. c && b (i ∷ p)) here_below) ∙ none (i ∷ p) k more (ap₂ ◌∷◌ e f),
              ))))

pub map-append : {X Y : Type 0} (f : X → Y) (xs ys : List X) → map f (xs ++ ys) ≡ map f xs ++ map f ys
map-append f [] ys = refl
map-append f (x ∷ xs) ys = ap (λ zs. f x ∷ zs) (map-append f xs ys)

map-on : (at : Path) (i : ℕ) (ys : List Path) → map ((at ++ i ∷ []) ++◌) ys ≡ map (at ++◌) (map (i ∷◌) ys)
map-on at i [] = refl
map-on at i (y ∷ ys) = ap₂ ◌∷◌ (append_assoc at (i ∷ []) y) (map-on at i ys)

pub add-begin : (b : Path → Bool) (at : Path) (old : List Path) → AddTopmost (up_to 0 b) at old old
add-begin b at old = record { paths = []; topmost = topmost-none (up_to 0 b) (up_to_none b); added = sym (append-nil old) }

pub add-next : (b : Path → Bool) (i : ℕ) (at : Path) (old mid new : List Path) → AddTopmost (up_to i b) at old mid → AddTopmost (λ p. b (i ∷ p)) (at ++ i ∷ []) mid new → AddTopmost (up_to (i + 1) b) at old new
add-next b i at old mid new s t = record {
  paths = s.paths ++ map (i ∷◌) t.paths;
  topmost = topmost-next b i s.paths t.paths s.topmost t.topmost;
  added = t.added ∙ (ap₂ ◌++◌ s.added (map-on at i t.paths) ∙ (append_assoc old (map (at ++◌) s.paths) (map (at ++◌) (map (i ∷◌) t.paths)) ∙ ap (λ zs. old ++ zs) (sym (map-append (at ++◌) s.paths (map (i ∷◌) t.paths)))));
}

pub add-same : (a b : Path → Bool) (at : Path) (old new : List Path) → ((p : Path) → a p ≡ b p) → AddTopmost a at old new → AddTopmost b at old new
add-same a b at old new h s = record { paths = s.paths; topmost = topmost-same a b s.paths h s.topmost; added = s.added }

pub add-root : (b : Path → Bool) (at : Path) (old new : List Path) → b [] ≡ true → new ≡ old ++ at ∷ [] → AddTopmost b at old new
add-root b at old new h e = record { paths = [] ∷ []; topmost = topmost-root b h; added = e ∙ ap (λ p. old ++ p ∷ []) (sym (append-nil at)) }
