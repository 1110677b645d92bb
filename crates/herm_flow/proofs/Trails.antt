-- Numbers of the paths that begin a path, while more paths get numbers.
use Rattle.std.proofs.Common.{◌≡◌, ◌<◌, ◌≤◌, nat_lt, nat_eq, ltb-true, ltb-false, ◌+◌, ◌-◌, ◌*◌, ℕ, zero, suc, List, [], ◌∷◌, ◌++◌, ◌⊎◌, map, drop, take, length, get_or, Bool, true, false, Option, Some, None, slice_get, option_map, Vec, inl, inr, refl, sym, ap, subst, ◌∙◌, arith, true≢false}
use Rattle.std.specs.Global.{Global}
use Rattle.std.proofs.lemmas.Bool.{eqb-true}
use Rattle.std.proofs.lemmas.List.{take_more}
use Rattle.std.proofs.lemmas.Option.{slice_get_past, slice_get_read, slice_get-get_or}
use Rattle.std.proofs.Math.Seq.{drop-cons}
use Rattle.herm_model.specs.Lists.{IsIn, list_of, map_or}
use Rattle.herm_model.specs.Paths.{Path}
use Rattle.herm_model.specs.Expressions.{Atom, literal, path}
use Rattle.herm_model.proofs.Lists.{in-append_cases, in-append_left, in-append_right, not_true, or-either}
use Rattle.herm_flow.specs.Listed.{is_marked}
use Rattle.herm_flow.specs.Touched.{Numbers, number_by, Stay, IsTrail, IsTrailOf, numbers_at, last_of, is_before_last, touched_by}

pub trail-stays : (p : Path) (old new : Numbers) (before : ℕ) (ns : List ℕ) → Stay old new → IsTrail p (number_by old) before ns → IsTrail p (number_by new) before ns
trail-stays [] old new before ns stay t = t
trail-stays (s ∷ p) old new before [] stay t = absurd t
trail-stays (s ∷ p) old new before (n ∷ ns) stay t = (t.0, stay (before * 4294967296 + s) n t.1, trail-stays p old new n ns stay t.2)

-- the number at the end of a trail
abbrev pub end_of : List ℕ → ℕ → ℕ
end_of [] before = before
end_of (n ∷ ns) before = end_of ns n

pub trail-more : (p : Path) (m : Numbers) (before : ℕ) (ns : List ℕ) (s n : ℕ) → s < 4294967296 → number_by m (end_of ns before) s ≡ Some n → IsTrail p (number_by m) before ns → IsTrail (p ++ s ∷ []) (number_by m) before (ns ++ n ∷ [])
trail-more [] m before [] s n small is t = (small, is, refl)
trail-more [] m before (k ∷ ns) s n small is t = cc
trail-more (i ∷ p) m before [] s n small is t = absurd t
trail-more (i ∷ p) m before (k ∷ ns) s n small is t = (t.0, t.1, trail-more p m k ns s n small is t.2)

pub end-more : (ns : List ℕ) (n before : ℕ) → end_of (ns ++ n ∷ []) before ≡ n
end-more [] n before = refl
end-more (k ∷ ns) n before = end-more ns n k

-- a trail one step on
pub trail-next : (v : ℕ) (steps : List ℕ) (i : ℕ) (old new : Numbers) (ns more : List ℕ) (n before : ℕ) → i < length steps → get_or steps i 0 < 4294967296 → Stay old new → number_by new before (get_or steps i 0) ≡ Some n → end_of ns 0 ≡ before → more ≡ ns ++ n ∷ []
    → IsTrail (v ∷ take i steps) (number_by old) 0 ns → IsTrail (v ∷ take (i + 1) steps) (number_by new) 0 more
trail-next v steps i old new ns more n before within small stay is end e t =
    subst (IsTrail (v ∷ take (i + 1) steps) (number_by new) 0) (sym e)
    (subst (λ p. IsTrail (v ∷ p) (number_by new) 0 (ns ++ n ∷ [])) (sym (take_more steps i 0 within))
    (trail-more (v ∷ take i steps) new 0 ns (get_or steps i 0) n small (subst (λ b. number_by new b (get_or steps i 0) ≡ Some n) (sym end) is) (trail-stays (v ∷ take i steps) old new 0 ns stay t)))

pub trail_of-stays : (o : Option Atom) (old new : Numbers) (ns : List ℕ) → Stay old new → IsTrailOf o (number_by old) ns → IsTrailOf o (number_by new) ns
trail_of-stays (Some (path p)) old new ns stay t = trail-stays p old new 0 ns stay t
trail_of-stays (Some (literal l)) old new ns stay t = t
trail_of-stays None old new ns stay t = t

-- ---- numbers beside parameters

-- what is so below a place and at it
pub each-next : (P : ℕ → Type 0) (i : ℕ) → ((j : ℕ) → j < i → P j) → P i → (j : ℕ) → j < i + 1 → P j
each-next P i below at j h = by (nat_lt j i) refl
  where
    by : (b : Bool) → nat_lt j i ≡ b → P j
    by true e = below j (ltb-true j i e)
    by false e =
        let over : i ≤ j = ltb-false j i e in
        let same : i ≡ j = omega (arith, over, h) in
        subst P same at

-- what is so of each place in a list and of each behind it
pub each-place : (P : ℕ → Type 0) (count : ℕ) → ((j : ℕ) → j < count → P j) → ((j : ℕ) → count ≤ j → P j) → (j : ℕ) → P j
each-place P count below behind j = by (nat_lt j count) refl
  where
    by : (b : Bool) → nat_lt j count ≡ b → P j
    by true e = below j (ltb-true j count e)
    by false e = behind j (ltb-false j count e)

pub numbers-here : (lists : List (Vec ℕ Global)) (i : ℕ) (v : Vec ℕ Global) → i < length lists → v ≡ get_or lists i v → numbers_at lists i ≡ v.items
numbers-here lists i v within is = ap (list_of (λ (w : Vec ℕ Global). w.items)) (slice_get_read lists (length lists) i v refl within is)

pub numbers-behind : (lists : List (Vec ℕ Global)) (i : ℕ) → length lists ≤ i → numbers_at lists i ≡ []
numbers-behind lists i over = ap (list_of (λ (w : Vec ℕ Global). w.items)) (slice_get_past lists i over)

pub numbers-before : (lists : List (Vec ℕ Global)) (v : Vec ℕ Global) (k : ℕ) → k < length lists → numbers_at (lists ++ v ∷ []) k ≡ numbers_at lists k
numbers-before [] v k h = absurd (omega (arith, h))
numbers-before (x ∷ lists) v zero h = refl
numbers-before (x ∷ lists) v (suc k) h = numbers-before lists v k (omega (arith, h))

pub numbers-last : (lists : List (Vec ℕ Global)) (v : Vec ℕ Global) → numbers_at (lists ++ v ∷ []) (length lists) ≡ v.items
numbers-last [] v = refl
numbers-last (x ∷ lists) v = numbers-last lists v

pub trails-next : (arguments : List Atom) (wanted : ℕ → Bool) (old new : Numbers) (lists more : List (Vec ℕ Global)) (v : Vec ℕ Global) (i : ℕ) (a : Atom) → length lists ≡ i → slice_get arguments i ≡ Some a → Stay old new → more ≡ lists ++ v ∷ []
    → ((k : ℕ) → k < i → wanted k ≡ true → IsTrailOf (slice_get arguments k) (number_by old) (numbers_at lists k)) → (wanted i ≡ true → IsTrailOf (Some a) (number_by new) v.items)
    → (k : ℕ) → k < i + 1 → wanted k ≡ true → IsTrailOf (slice_get arguments k) (number_by new) (numbers_at more k)
trails-next arguments wanted old new lists more v i a many is stay e earlier here =
    each-next (λ k. wanted k ≡ true → IsTrailOf (slice_get arguments k) (number_by new) (numbers_at more k)) i
    (λ k h w. subst (IsTrailOf (slice_get arguments k) (number_by new)) (sym (ap (λ ls. numbers_at ls k) e ∙ numbers-before lists v k (omega (arith, h, many)))) (trail_of-stays (slice_get arguments k) old new (numbers_at lists k) stay (earlier k h w)))
    (λ w. subst (IsTrailOf (slice_get arguments i) (number_by new)) (sym (ap (λ ls. numbers_at ls i) e ∙ (ap (numbers_at (lists ++ v ∷ [])) (sym many) ∙ numbers-last lists v))) (subst (λ o. IsTrailOf o (number_by new) v.items) (sym is) (here w)))

pub trails-all : (arguments : List Atom) (wanted : ℕ → Bool) (m : Numbers) (lists : List (Vec ℕ Global)) → length lists ≤ length arguments → ((k : ℕ) → k < length arguments → wanted k ≡ true → IsTrailOf (slice_get arguments k) (number_by m) (numbers_at lists k))
    → (k : ℕ) → wanted k ≡ true → IsTrailOf (slice_get arguments k) (number_by m) (numbers_at lists k)
trails-all arguments wanted m lists few each =
    each-place (λ k. wanted k ≡ true → IsTrailOf (slice_get arguments k) (number_by m) (numbers_at lists k)) (length arguments) each
    (λ k over w. subst (λ o. IsTrailOf o (number_by m) (numbers_at lists k)) (sym (slice_get_past arguments k over)) (numbers-behind lists k (omega (arith, few, over))))

pub length-more : {X : Type 0} (xs : List X) (x : X) → length (xs ++ x ∷ []) ≡ length xs + 1
length-more [] x = omega arith
length-more (y ∷ xs) x = omega (arith, length-more xs x)

pub marked-get : (marks : List Bool) (i : ℕ) (d : Bool) → i < length marks → is_marked marks i ≡ true → get_or marks i d ≡ true
marked-get marks i d within h = sym (ap (map_or true (λ b. b)) (slice_get-get_or marks i d within)) ∙ h

-- ---- the last of them

pub last_got : (ns : List ℕ) (n : ℕ) → last_of ns ≡ Some n → slice_get ns (length ns - 1) ≡ Some n
last_got [] n h = cc
last_got (m ∷ []) n h = h
last_got (m ∷ k ∷ ns) n h =
    let at : length (m ∷ k ∷ ns) - 1 ≡ suc (length (k ∷ ns) - 1) = omega arith in
    subst (λ i. slice_get (m ∷ k ∷ ns) i ≡ Some n) (sym at) (last_got (k ∷ ns) n h)

pub so-not : (b s : Bool) → s ≡ true → (b ≡ true → s ≡ false) → b ≡ false
so-not true s h k = absurd (true≢false (sym h ∙ k refl))
so-not false s h k = refl

pub before-nothing : {A : Type 0} (ns : List ℕ) (n : ℕ) → ns ≡ [] → is_before_last ns n ≡ true → A
before-nothing [] n e h = not_true h
before-nothing (m ∷ ns) n e h = cc

pub last-none : {A : Type 0} (ns : List ℕ) (n : ℕ) → ns ≡ [] → last_of ns ≡ Some n → A
last-none [] n e h = cc
last-none (m ∷ ns) n e h = cc

-- the first of the numbers left, or a later one, but not the last
before-at : (ns : List ℕ) (j d n : ℕ) → suc j < length ns → is_before_last (drop j ns) n ≡ true → (n ≡ get_or ns j d) ⊎ (is_before_last (drop (suc j) ns) n ≡ true)
before-at [] j d n within h = absurd (omega (arith, within))
before-at (m ∷ []) j d n within h = absurd (omega (arith, within))
before-at (m ∷ k ∷ ns) zero d n within h = by (or-either (nat_eq n m) (is_before_last (k ∷ ns) n) h)
  where
    by : (nat_eq n m ≡ true) ⊎ (is_before_last (k ∷ ns) n ≡ true) → (n ≡ m) ⊎ (is_before_last (k ∷ ns) n ≡ true)
    by (inl e) = inl (eqb-true n m e)
    by (inr r) = inr r
before-at (m ∷ k ∷ ns) (suc j) d n within h = before-at (k ∷ ns) j d n (omega (arith, within)) h

pub before-next : (ns : List ℕ) (i d n : ℕ) → 1 ≤ i → i < length ns → is_before_last (drop (i - 1) ns) n ≡ true → (n ≡ get_or ns (i - 1) d) ⊎ (is_before_last (drop (i + 1 - 1) ns) n ≡ true)
before-next ns i d n one within h =
    let step : suc (i - 1) ≡ i + 1 - 1 = omega (arith, one) in
    subst (λ j. (n ≡ get_or ns (i - 1) d) ⊎ (is_before_last (drop j ns) n ≡ true)) step (before-at ns (i - 1) d n (omega (arith, one, within)) h)

pub before-none : {A : Type 0} (ns : List ℕ) (j n : ℕ) → length ns ≤ j + 1 → is_before_last (drop j ns) n ≡ true → A
before-none [] zero n over h = not_true h
before-none [] (suc j) n over h = not_true h
before-none (m ∷ []) zero n over h = not_true h
before-none (m ∷ k ∷ ns) zero n over h = absurd (omega (arith, over))
before-none (m ∷ ns) (suc j) n over h = before-none ns j n (omega (arith, over)) h

-- an element is in its list
pub get-in : {X : Type 0} (xs : List X) (i : ℕ) (d : X) → i < length xs → IsIn (get_or xs i d) xs
get-in [] i d h = absurd (omega (arith, h))
get-in (x ∷ xs) zero d h = inl refl
get-in (x ∷ xs) (suc i) d h = inr (get-in xs i d (omega (arith, h)))

-- ---- what parameters touch

pub touched-next : (numbers : ℕ → List ℕ) (ks : List ℕ) (i d n : ℕ) → i < length ks → IsIn n (touched_by numbers (drop i ks)) → IsIn n (numbers (get_or ks i d)) ⊎ IsIn n (touched_by numbers (drop (i + 1) ks))
touched-next numbers ks i d n within m =
    let step : suc i ≡ i + 1 = omega arith in
    in-append_cases n (numbers (get_or ks i d)) (touched_by numbers (drop (i + 1) ks)) (subst (λ xs. IsIn n (touched_by numbers xs)) (drop-cons ks i d within ∙ ap (λ j. get_or ks i d ∷ drop j ks) step) m)

pub touched-at : (numbers : ℕ → List ℕ) (ks : List ℕ) (i d n : ℕ) → i < length ks → IsIn n (numbers (get_or ks i d)) → IsIn n (touched_by numbers ks)
touched-at numbers [] i d n h m = absurd (omega (arith, h))
touched-at numbers (k ∷ ks) zero d n h m = in-append_left n (numbers k) (touched_by numbers ks) m
touched-at numbers (k ∷ ks) (suc i) d n h m = in-append_right n (numbers k) (touched_by numbers ks) (touched-at numbers ks i d n (omega (arith, h)) m)

-- the view of an element, or of one behind it
pub viewed-next : {X Y : Type 0} (view : X → Y) (xs : List X) (i : ℕ) (d : X) (y : Y) → i < length xs → IsIn y (map view (drop i xs)) → (y ≡ view (get_or xs i d)) ⊎ IsIn y (map view (drop (i + 1) xs))
viewed-next view xs i d y within m =
    let step : suc i ≡ i + 1 = omega arith in
    subst (λ ys. IsIn y (map view ys)) (drop-cons xs i d within ∙ ap (λ j. get_or xs i d ∷ drop j xs) step) m
