-- What is left of typed variables where the topmost of what is not kept is dropped.
use Rattle.std.proofs.Common.{◌≡◌, ◌≢◌, ◌⊎◌, inl, inr, ℕ, zero, suc, ◌<◌, ◌≤◌, List, [], ◌∷◌, map, length, Bool, true, false, not, ◌&&◌, Option, Some, None, option_map, refl, sym, ap, ap₂, ◌∙◌, subst, arith}
use Rattle.std.proofs.Math.Bool.{and-true, and-false, and_assoc}
use Rattle.std.specs.Prelude.{nat_eq, is_some, IsTrue, filter}
use mathlib.Core.Bool.{true≢false, false≢true}
use borrow.Author.Tests.{not-true, eqb-true, eq-eqb}
use Rattle.herm_model.specs.Lists.{IsIn, all_pass}
use Rattle.herm_model.specs.Paths.{Path, is_at_or_below}
use Rattle.herm_model.specs.Values.{a_scalar, a_record, a_variant, a_table, a_polymorph, a_callmessage, an_inport, an_outport, Cell, cell, Parts, no_parts, gap, part, part_at, inside, has_value, set_part, set_at, change_inside, clear_at, read_at, readable_of}
use Rattle.herm_model.specs.FactsOfValues.{is_component}
use Rattle.herm_model.specs.Finalising.{is_left, clear_all}
use Rattle.herm_model.proofs.Lists.{and-both, in-map, in-map_from, in-filter, in-filter_from}
use Rattle.herm_model.proofs.Options.{is_some-map}
use Rattle.herm_model.proofs.Beginnings.{below-self, below-trans}
use Rattle.herm_model.proofs.Places.{cell_below, cell-below, read_below, read-below, part_at-set_other, part_at-change_same, part_at-change_other, set_at-none, inside-change}
use Rattle.herm_model.proofs.NothingThere.{nothing-there}

pub same_test : (i k : ℕ) → nat_eq i k ≡ false → i ≢ k
same_test i k e s = true≢false (sym (eq-eqb i k s) ∙ e)

abbrev pub is_path_at : Path → Bool
is_path_at [] = false
is_path_at (i ∷ q) = true

module _ (N : Type 0) where
  pub cleared_part : (i : ℕ) (ps : Parts N) → part_at i (set_part i None ps) ≡ None
  cleared_part i no_parts = refl
  cleared_part zero (gap ps) = refl
  cleared_part zero (part c ps) = refl
  cleared_part (suc i) (gap ps) = cleared_part i ps
  cleared_part (suc i) (part c ps) = cleared_part i ps

  -- a value at a path, by the cell at its first step
  abbrev value_at : Path → Option (Cell N) → Bool
  value_at r o = is_some (cell_below r o)

  value_by : (k : ℕ) (r : Path) (ps : Parts N) → has_value ps (k ∷ r) ≡ value_at r (part_at k ps)
  value_by k r ps = ap is_some (cell-below k r ps)

  none_at : (r : Path) → value_at r None ≡ false
  none_at [] = refl
  none_at (j ∷ r) = nothing-there N (j ∷ r)

  pub set-other : (i : ℕ) (q : Path) (k : ℕ) (o : Option (Cell N)) (ps : Parts N) → i ≢ k → part_at k (set_at (i ∷ q) o ps) ≡ part_at k ps
  set-other i [] k o ps d = part_at-set_other i k o ps d
  set-other i (j ∷ q) k o ps d = part_at-change_other i k (change_inside (set_at (j ∷ q) o)) ps d

  same-end : (i : ℕ) (r : Path) (ps : Parts N) → has_value (set_at (i ∷ []) None ps) (i ∷ r) ≡ has_value ps (i ∷ r) && false
  same-end i r ps = value_by i r (set_part i None ps) ∙ ap (value_at r) (cleared_part i ps) ∙ none_at r ∙ sym (and-false (has_value ps (i ∷ r)))

  same-on : (i j : ℕ) (q r : Path) (ps : Parts N) → ((p : Path) (qs : Parts N) → has_value (set_at (j ∷ q) None qs) p ≡ has_value qs p && not (is_at_or_below (j ∷ q) p))
      → has_value (set_at (i ∷ j ∷ q) None ps) (i ∷ r) ≡ has_value ps (i ∷ r) && not (is_at_or_below (j ∷ q) r)
  same-on i j q [] ps again =
      ap is_some (part_at-change_same i (change_inside (set_at (j ∷ q) None)) ps) ∙ is_some-map (change_inside (set_at (j ∷ q) None)) (part_at i ps) ∙ sym (and-true (is_some (part_at i ps)))
  same-on i j q (s ∷ r) ps again =
      ap (λ o. has_value (inside o) (s ∷ r)) (part_at-change_same i (change_inside (set_at (j ∷ q) None)) ps)
      ∙ ap (λ qs. has_value qs (s ∷ r)) (inside-change (set_at (j ∷ q) None) (part_at i ps) (set_at-none (j ∷ q) None))
      ∙ again (s ∷ r) (inside (part_at i ps))

  by-step : (i : ℕ) (q : Path) (k : ℕ) (r : Path) (ps : Parts N) → has_value (set_at (i ∷ q) None ps) (i ∷ r) ≡ has_value ps (i ∷ r) && not (is_at_or_below q r)
      → (b : Bool) → nat_eq i k ≡ b → has_value (set_at (i ∷ q) None ps) (k ∷ r) ≡ has_value ps (k ∷ r) && not (b && is_at_or_below q r)
  by-step i q k r ps same true e = subst (λ k. has_value (set_at (i ∷ q) None ps) (k ∷ r) ≡ has_value ps (k ∷ r) && not (is_at_or_below q r)) (eqb-true i k e) same
  by-step i q k r ps same false e =
      value_by k r (set_at (i ∷ q) None ps) ∙ ap (value_at r) (set-other i q k None ps (same_test i k e)) ∙ sym (value_by k r ps) ∙ sym (and-true (has_value ps (k ∷ r)))

  -- what is cleared is gone, with what is below it, and nothing else is
  pub cleared-has : (q : Path) (i : ℕ) (p : Path) (ps : Parts N) → has_value (set_at (i ∷ q) None ps) p ≡ has_value ps p && not (is_at_or_below (i ∷ q) p)
  cleared-has q i [] ps = refl
  cleared-has [] i (k ∷ r) ps = by-step i [] k r ps (same-end i r ps) (nat_eq i k) refl
  cleared-has (j ∷ q) i (k ∷ r) ps = by-step i (j ∷ q) k r ps (same-on i j q r ps (cleared-has q j)) (nat_eq i k) refl

  pub all_cleared-has : (lost : List Path) (p : Path) (ps : Parts N) → IsTrue (all_pass is_path_at lost) → has_value (clear_all lost ps) p ≡ has_value ps p && all_pass (λ q. not (is_at_or_below q p)) lost
  all_cleared-has [] p ps h = sym (and-true (has_value ps p))
  all_cleared-has ([] ∷ lost) p ps h = absurd (false≢true h)
  all_cleared-has ((i ∷ q) ∷ lost) p ps h =
      all_cleared-has lost p (clear_at (i ∷ q) ps) h
      ∙ ap (λ b. b && all_pass (λ q. not (is_at_or_below q p)) lost) (cleared-has q i p ps)
      ∙ and_assoc (has_value ps p) (not (is_at_or_below (i ∷ q) p)) (all_pass (λ q. not (is_at_or_below q p)) lost)

  -- the kind of what is read elsewhere stays
  component-changed : (h : Parts N → Parts N) (o : Option (Cell N)) (c : ℕ) → is_component (option_map (change_inside h) o) c ≡ is_component o c
  component-changed h None c = refl
  component-changed h (Some (cell n (a_variant d) qs)) c = refl
  component-changed h (Some (cell n (a_scalar s) qs)) c = refl
  component-changed h (Some (cell n a_record qs)) c = refl
  component-changed h (Some (cell n a_table qs)) c = refl
  component-changed h (Some (cell n (a_polymorph t) qs)) c = refl
  component-changed h (Some (cell n (a_callmessage x y) qs)) c = refl
  component-changed h (Some (cell n (an_inport x) qs)) c = refl
  component-changed h (Some (cell n (an_outport x) qs)) c = refl

  readable-changed : (h : Parts N → Parts N) (r : Path) (c : ℕ) → ((qs : Parts N) → is_component (read_at r (h qs)) c ≡ is_component (read_at r qs) c) → (o : Option (Cell N))
      → is_component (read_at r (readable_of (option_map (change_inside h) o))) c ≡ is_component (read_at r (readable_of o)) c
  readable-changed h r c e None = refl
  readable-changed h r c e (Some (cell n (a_variant d) qs)) = refl
  readable-changed h r c e (Some (cell n (a_scalar s) qs)) = refl
  readable-changed h r c e (Some (cell n a_record qs)) = e qs
  readable-changed h r c e (Some (cell n a_table qs)) = refl
  readable-changed h r c e (Some (cell n (a_polymorph t) qs)) = refl
  readable-changed h r c e (Some (cell n (a_callmessage x y) qs)) = e qs
  readable-changed h r c e (Some (cell n (an_inport x) qs)) = refl
  readable-changed h r c e (Some (cell n (an_outport x) qs)) = refl

  read-step : (i : ℕ) (q : Path) (k : ℕ) (r : Path) (c : ℕ) (o : Option (Cell N)) (ps : Parts N) → (is_at_or_below q r ≡ false → is_component (read_at (i ∷ r) (set_at (i ∷ q) o ps)) c ≡ is_component (read_at (i ∷ r) ps) c)
      → (b : Bool) → nat_eq i k ≡ b → b && is_at_or_below q r ≡ false → is_component (read_at (k ∷ r) (set_at (i ∷ q) o ps)) c ≡ is_component (read_at (k ∷ r) ps) c
  read-step i q k r c o ps same true e h = subst (λ k. is_component (read_at (k ∷ r) (set_at (i ∷ q) o ps)) c ≡ is_component (read_at (k ∷ r) ps) c) (eqb-true i k e) (same h)
  read-step i q k r c o ps same false e h =
      ap (λ x. is_component x c) (read-below k r (set_at (i ∷ q) o ps) ∙ ap (read_below r) (set-other i q k o ps (same_test i k e)) ∙ sym (read-below k r ps))

  read-on : (i j : ℕ) (q r : Path) (c : ℕ) (o : Option (Cell N)) (ps : Parts N) → ((p : Path) (qs : Parts N) → is_at_or_below (j ∷ q) p ≡ false → is_component (read_at p (set_at (j ∷ q) o qs)) c ≡ is_component (read_at p qs) c)
      → is_at_or_below (j ∷ q) r ≡ false → is_component (read_at (i ∷ r) (set_at (i ∷ j ∷ q) o ps)) c ≡ is_component (read_at (i ∷ r) ps) c
  read-on i j q [] c o ps again h =
      ap (λ x. is_component x c) (part_at-change_same i (change_inside (set_at (j ∷ q) o)) ps) ∙ component-changed (set_at (j ∷ q) o) (part_at i ps) c
  read-on i j q (s ∷ r) c o ps again h =
      ap (λ x. is_component (read_at (s ∷ r) (readable_of x)) c) (part_at-change_same i (change_inside (set_at (j ∷ q) o)) ps)
      ∙ readable-changed (set_at (j ∷ q) o) (s ∷ r) c (λ qs. again (s ∷ r) qs h) (part_at i ps)

  pub set-reads : (q : Path) (i : ℕ) (p : Path) (c : ℕ) (o : Option (Cell N)) (ps : Parts N) → is_at_or_below (i ∷ q) p ≡ false → is_component (read_at p (set_at (i ∷ q) o ps)) c ≡ is_component (read_at p ps) c
  set-reads q i [] c o ps h = refl
  set-reads [] i (k ∷ r) c o ps h = read-step i [] k r c o ps (λ e. absurd (true≢false e)) (nat_eq i k) refl h
  set-reads (j ∷ q) i (k ∷ r) c o ps h = read-step i (j ∷ q) k r c o ps (read-on i j q r c o ps (λ p qs. set-reads q j p c o qs)) (nat_eq i k) refl h

  -- values elsewhere stay
  has-step : (i : ℕ) (q : Path) (k : ℕ) (r : Path) (o : Option (Cell N)) (ps : Parts N) → (is_at_or_below q r ≡ false → has_value (set_at (i ∷ q) o ps) (i ∷ r) ≡ has_value ps (i ∷ r))
      → (b : Bool) → nat_eq i k ≡ b → b && is_at_or_below q r ≡ false → has_value (set_at (i ∷ q) o ps) (k ∷ r) ≡ has_value ps (k ∷ r)
  has-step i q k r o ps same true e h = subst (λ k. has_value (set_at (i ∷ q) o ps) (k ∷ r) ≡ has_value ps (k ∷ r)) (eqb-true i k e) (same h)
  has-step i q k r o ps same false e h = value_by k r (set_at (i ∷ q) o ps) ∙ ap (value_at r) (set-other i q k o ps (same_test i k e)) ∙ sym (value_by k r ps)

  has-on : (i j : ℕ) (q r : Path) (o : Option (Cell N)) (ps : Parts N) → ((p : Path) (qs : Parts N) → is_at_or_below (j ∷ q) p ≡ false → has_value (set_at (j ∷ q) o qs) p ≡ has_value qs p)
      → is_at_or_below (j ∷ q) r ≡ false → has_value (set_at (i ∷ j ∷ q) o ps) (i ∷ r) ≡ has_value ps (i ∷ r)
  has-on i j q [] o ps again h = ap is_some (part_at-change_same i (change_inside (set_at (j ∷ q) o)) ps) ∙ is_some-map (change_inside (set_at (j ∷ q) o)) (part_at i ps)
  has-on i j q (s ∷ r) o ps again h =
      ap (λ x. has_value (inside x) (s ∷ r)) (part_at-change_same i (change_inside (set_at (j ∷ q) o)) ps)
      ∙ ap (λ qs. has_value qs (s ∷ r)) (inside-change (set_at (j ∷ q) o) (part_at i ps) (set_at-none (j ∷ q) o))
      ∙ again (s ∷ r) (inside (part_at i ps)) h

  pub set-has : (q : Path) (i : ℕ) (p : Path) (o : Option (Cell N)) (ps : Parts N) → is_at_or_below (i ∷ q) p ≡ false → has_value (set_at (i ∷ q) o ps) p ≡ has_value ps p
  set-has q i [] o ps h = refl
  set-has [] i (k ∷ r) o ps h = has-step i [] k r o ps (λ e. absurd (true≢false e)) (nat_eq i k) refl h
  set-has (j ∷ q) i (k ∷ r) o ps h = has-step i (j ∷ q) k r o ps (has-on i j q r o ps (λ p qs. set-has q j p o qs)) (nat_eq i k) refl h

  pub all_cleared-reads : (lost : List Path) (p : Path) (c : ℕ) (ps : Parts N) → IsTrue (all_pass is_path_at lost) → IsTrue (all_pass (λ q. not (is_at_or_below q p)) lost)
      → is_component (read_at p (clear_all lost ps)) c ≡ is_component (read_at p ps) c
  all_cleared-reads [] p c ps h e = refl
  all_cleared-reads ([] ∷ lost) p c ps h e = absurd (false≢true h)
  all_cleared-reads ((i ∷ q) ∷ lost) p c ps h e =
      let both = and-both (not (is_at_or_below (i ∷ q) p)) (all_pass (λ q. not (is_at_or_below q p)) lost) e in
      all_cleared-reads lost p c (clear_at (i ∷ q) ps) h both.1 ∙ set-reads q i p c None ps (not-true (is_at_or_below (i ∷ q) p) both.0)

-- the beginnings of a path that are not the path itself, shortest first
abbrev pub proper_prefixes : Path → List Path
proper_prefixes [] = []
proper_prefixes (i ∷ []) = []
proper_prefixes (i ∷ j ∷ p) = (i ∷ []) ∷ map (i ∷◌) (proper_prefixes (j ∷ p))

-- of listed paths the topmost at which something is left
abbrev pub topmost : (here kept : Path → Bool) → List Path → List Path
topmost here kept paths = filter (λ p. is_left here kept p && all_pass (λ q. not (is_left here kept q)) (proper_prefixes p)) paths

longer-above : (i j k l : ℕ) (q p : Path) → i ≡ j → (k ∷ q ≡ l ∷ p) ⊎ IsIn (k ∷ q) (proper_prefixes (l ∷ p)) → (i ∷ k ∷ q ≡ j ∷ l ∷ p) ⊎ IsIn (i ∷ k ∷ q) (proper_prefixes (j ∷ l ∷ p))
longer-above i j k l q p e (inl s) = inl (ap₂ ◌∷◌ e s)
longer-above i j k l q p e (inr s) = inr (inr (subst (λ i'. IsIn (i ∷ k ∷ q) (map (i' ∷◌) (proper_prefixes (l ∷ p)))) e (in-map (i ∷◌) (k ∷ q) (proper_prefixes (l ∷ p)) s)))

-- a path at or above another is a proper prefix of it, or it
pub at_or_above : (q p : Path) (i j : ℕ) → is_at_or_below (i ∷ q) (j ∷ p) ≡ true → (i ∷ q ≡ j ∷ p) ⊎ IsIn (i ∷ q) (proper_prefixes (j ∷ p))
at_or_above [] [] i j h = inl (ap (λ i. i ∷ []) (eqb-true i j (and-both (nat_eq i j) true h).0))
at_or_above [] (l ∷ p) i j h = inr (inl (ap (λ i. i ∷ []) (eqb-true i j (and-both (nat_eq i j) true h).0)))
at_or_above (k ∷ q) [] i j h = absurd (false≢true (and-both (nat_eq i j) false h).1)
at_or_above (k ∷ q) (l ∷ p) i j h =
    let both = and-both (nat_eq i j) (is_at_or_below (k ∷ q) (l ∷ p)) h in
    longer-above i j k l q p (eqb-true i j both.0) (at_or_above q p k l both.1)

-- a proper prefix is above, and shorter
prefix-shorter : (q p : Path) → IsIn q (proper_prefixes p) → (length q < length p) × (is_at_or_below q p ≡ true) × IsTrue (is_path_at q)
prefix-shorter q [] h = absurd h
prefix-shorter q (i ∷ []) h = absurd h
prefix-shorter q (i ∷ j ∷ p) (inl e) = subst (λ q. (length q < length (i ∷ j ∷ p)) × (is_at_or_below q (i ∷ j ∷ p) ≡ true) × IsTrue (is_path_at q)) (sym e) (omega arith, ap₂ ◌&&◌ (eq-eqb i i refl) refl, refl)
prefix-shorter q (i ∷ j ∷ p) (inr h) =
    let x = in-map_from (i ∷◌) q (proper_prefixes (j ∷ p)) h in
    let r = prefix-shorter x.0 (j ∷ p) x.1 in
    subst (λ q. (length q < length (i ∷ j ∷ p)) × (is_at_or_below q (i ∷ j ∷ p) ≡ true) × IsTrue (is_path_at q)) (sym x.2) (omega arith, ap₂ ◌&&◌ (eq-eqb i i refl) r.1, refl)

some_if : (test : Path → Bool) (q : Path) (qs : List Path) → ((all_pass (λ q. not (test q)) qs ≡ true) ⊎ ((x : Path) × IsIn x qs × (test x ≡ true))) → (b : Bool) → test q ≡ b
    → (not b && all_pass (λ q. not (test q)) qs ≡ true) ⊎ ((x : Path) × IsIn x (q ∷ qs) × (test x ≡ true))
some_if test q qs rest true e = inr (q, inl refl, e)
some_if test q qs (inl none) false e = inl none
some_if test q qs (inr x) false e = inr (x.0, inr x.1, x.2)

some_or_none : (test : Path → Bool) (qs : List Path) → (all_pass (λ q. not (test q)) qs ≡ true) ⊎ ((x : Path) × IsIn x qs × (test x ≡ true))
some_or_none test [] = inl refl
some_or_none test (q ∷ qs) = some_if test q qs (some_or_none test qs) (test q) refl

-- of paths at which something is left, one above is listed among the topmost
module _ (here kept : Path → Bool) (paths : List Path) (listed : (q : Path) → here q ≡ true → IsIn q paths) where
  top_from : (n : ℕ) (p : Path) → length p ≤ n → is_left here kept p ≡ true
      → ((all_pass (λ q. not (is_left here kept q)) (proper_prefixes p) ≡ true) ⊎ ((x : Path) × IsIn x (proper_prefixes p) × (is_left here kept x ≡ true)))
      → ((q : Path) → length q < length p → is_left here kept q ≡ true → (t : Path) × IsIn t (topmost here kept paths) × (is_at_or_below t q ≡ true))
      → (t : Path) × IsIn t (topmost here kept paths) × (is_at_or_below t p ≡ true)
  top_from n p short h (inl none) on =
      (p, in-filter (λ p. is_left here kept p && all_pass (λ q. not (is_left here kept q)) (proper_prefixes p)) p paths (listed p (and-both (here p) (not (kept p)) h).0) (ap₂ ◌&&◌ h none), below-self p)
  top_from n p short h (inr x) on =
      let s = prefix-shorter x.0 p x.1 in
      let t = on x.0 s.0 x.2 in (t.0, t.1, below-trans t.0 x.0 p t.2 s.1)

  pub top_of : (n : ℕ) (p : Path) → length p ≤ n → is_left here kept p ≡ true → (t : Path) × IsIn t (topmost here kept paths) × (is_at_or_below t p ≡ true)
  top_of zero p short h = top_from zero p short h (some_or_none (is_left here kept) (proper_prefixes p)) (λ q shorter left. absurd (omega arith))
  top_of (suc n) p short h = top_from (suc n) p short h (some_or_none (is_left here kept) (proper_prefixes p)) (λ q shorter left. top_of n q (omega arith) left)

  pub from_topmost : (t : Path) → IsIn t (topmost here kept paths) → (is_left here kept t ≡ true) × (all_pass (λ q. not (is_left here kept q)) (proper_prefixes t) ≡ true) × IsIn t paths
  from_topmost t h =
      let r = in-filter_from (λ p. is_left here kept p && all_pass (λ q. not (is_left here kept q)) (proper_prefixes p)) t paths h in
      let both = and-both (is_left here kept t) (all_pass (λ q. not (is_left here kept q)) (proper_prefixes t)) r.1 in
      (both.0, both.1, r.0)
