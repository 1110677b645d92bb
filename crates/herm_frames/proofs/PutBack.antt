-- What is taken out of a path and put back there.
use Rattle.std.proofs.Common.{◌≡◌, ◌<◌, ℕ, zero, suc, List, [], ◌∷◌, Bool, true, false, cond, Option, Some, None, option_map, refl, sym, ap, ap₂, subst, ◌∙◌, arith}
use Rattle.std.proofs.lemmas.Bool.{lt-ltb}
use Rattle.std.specs.Prelude.{⊤, nat_lt}
use Rattle.herm_model.specs.Paths.{Path}
use Rattle.herm_model.specs.Values.{Kind, Cell, cell, Parts, no_parts, gap, part, part_at, place, set_part, size, opens, inside, cell_at, change_inside, change_part, set_at, put_at, clear_at, has_place}
use Rattle.herm_model.proofs.Places.{part_at-change_same, inside-change, set_at-none}
use Rattle.herm_model.proofs.Options.{some-injective}

module _ {N : Type 0} where
  nothing-in : (j : ℕ) (p : Path) → cell_at {N = N} (j ∷ p) no_parts ≡ None
  nothing-in j [] = refl
  nothing-in j (k ∷ p) = nothing-in k p

  pub set-own : (i : ℕ) (ps : Parts N) → part_at i ps ≡ None → set_part i None ps ≡ ps
  set-own i no_parts h = refl
  set-own zero (gap ps) h = refl
  set-own zero (part c ps) h = cc
  set-own (suc i) (gap ps) h = ap gap (set-own i ps h)
  set-own (suc i) (part c ps) h = ap (part c) (set-own i ps h)

  set-back : (i : ℕ) (c : Cell N) (ps : Parts N) → part_at i ps ≡ Some c → set_part i (Some c) (set_part i None ps) ≡ ps
  set-back i c no_parts h = cc
  set-back zero c (gap ps) h = cc
  set-back zero c (part d ps) h = ap (λ c. part c ps) (sym (some-injective h))
  set-back (suc i) c (gap ps) h = ap gap (set-back i c ps h)
  set-back (suc i) c (part d ps) h = ap (part d) (set-back i c ps h)

  set-within : (i : ℕ) (c : Cell N) (ps : Parts N) → part_at i ps ≡ Some c → i < size (set_part i None ps)
  set-within i c no_parts h = cc
  set-within zero c (gap ps) h = cc
  set-within zero c (part d ps) h = omega arith
  set-within (suc i) c (gap ps) h = omega (arith, set-within i c ps h)
  set-within (suc i) c (part d ps) h = omega (arith, set-within i c ps h)

  -- a change that leaves the cell there as it is
  pub change-own : (i : ℕ) (g : Cell N → Cell N) (ps : Parts N) → ((d : Cell N) → part_at i ps ≡ Some d → g d ≡ d) → change_part i g ps ≡ ps
  change-own i g no_parts h = refl
  change-own zero g (gap ps) h = refl
  change-own zero g (part c ps) h = ap (λ d. part d ps) (h c refl)
  change-own (suc i) g (gap ps) h = ap gap (change-own i g ps h)
  change-own (suc i) g (part c ps) h = ap (part c) (change-own i g ps h)

  change-twice : (i : ℕ) (g f : Cell N → Cell N) (ps : Parts N) → change_part i g (change_part i f ps) ≡ change_part i (λ d. g (f d)) ps
  change-twice i g f no_parts = refl
  change-twice zero g f (gap ps) = refl
  change-twice zero g f (part c ps) = refl
  change-twice (suc i) g f (gap ps) = ap gap (change-twice i g f ps)
  change-twice (suc i) g f (part c ps) = ap (part c) (change-twice i g f ps)

  inside-own : (f : Parts N → Parts N) (d : Cell N) → f (inside (Some d)) ≡ inside (Some d) → change_inside f d ≡ d
  inside-own f (cell n k ps) h = by (opens k) h
    where
      by : (b : Bool) → f (cond b ps no_parts) ≡ cond b ps no_parts → cell n k (cond b (f ps) ps) ≡ cell n k ps
      by true e = ap (cell n k) e
      by false e = refl

  inside-twice : (g f : Parts N → Parts N) (d : Cell N) → g (f (inside (Some d))) ≡ inside (Some d) → change_inside g (change_inside f d) ≡ d
  inside-twice g f (cell n k ps) h = by (opens k) h
    where
      by : (b : Bool) → g (f (cond b ps no_parts)) ≡ cond b ps no_parts → cell n k (cond b (g (cond b (f ps) ps)) (cond b (f ps) ps)) ≡ cell n k ps
      by true e = ap (cell n k) e
      by false e = refl

  pub cleared-own : (p : Path) (ps : Parts N) → cell_at p ps ≡ None → clear_at p ps ≡ ps
  cleared-own [] ps h = refl
  cleared-own (i ∷ []) ps h = set-own i ps h
  cleared-own (i ∷ j ∷ p) ps h = change-own i (change_inside (set_at (j ∷ p) None)) ps (λ d at. inside-own (set_at (j ∷ p) None) d (cleared-own (j ∷ p) (inside (Some d)) (ap (λ o. cell_at (j ∷ p) (inside o)) (sym at) ∙ h)))

  pub put-own : (p : Path) (c : Cell N) (ps : Parts N) → cell_at p ps ≡ Some c → put_at p c (clear_at p ps) ≡ ps
  put-own [] c ps h = refl
  put-own (i ∷ []) c ps h = set-back i c ps h
  put-own (i ∷ j ∷ p) c ps h =
      change-twice i (change_inside (set_at (j ∷ p) (Some c))) (change_inside (set_at (j ∷ p) None)) ps
      ∙ change-own i (λ d. change_inside (set_at (j ∷ p) (Some c)) (change_inside (set_at (j ∷ p) None) d)) ps (λ d at. inside-twice (set_at (j ∷ p) (Some c)) (set_at (j ∷ p) None) d (put-own (j ∷ p) c (inside (Some d)) (ap (λ o. cell_at (j ∷ p) (inside o)) (sym at) ∙ h)))

  pub place-own : (p : Path) (c : Cell N) (ps : Parts N) → cell_at p ps ≡ Some c → has_place (clear_at p ps) p ≡ true
  place-own [] c ps h = cc
  place-own (i ∷ []) c ps h = lt-ltb i (size (set_part i None ps)) (set-within i c ps h)
  place-own (i ∷ j ∷ p) c ps h =
      ap (λ o. has_place (inside o) (j ∷ p)) (part_at-change_same i (change_inside (set_at (j ∷ p) None)) ps)
      ∙ ap (λ qs. has_place qs (j ∷ p)) (inside-change (set_at (j ∷ p) None) (part_at i ps) (set_at-none (j ∷ p) None))
      ∙ place-own (j ∷ p) c (inside (part_at i ps)) h

pub put_back_none : (p : Path) (ps now : Parts ⊤) → None ≡ cell_at p ps → now ≡ clear_at p ps → now ≡ ps
put_back_none p ps now at is = is ∙ cleared-own p ps (sym at)

pub put_back_some : (p : Path) (c : Cell ⊤) (ps mid now : Parts ⊤) → Some c ≡ cell_at p ps → mid ≡ clear_at p ps → now ≡ put_at p c mid → now ≡ ps
put_back_some p c ps mid now at is put = put ∙ ap (put_at p c) is ∙ put-own p c ps (sym at)

pub put_back_not : {A : Type 0} (p : Path) (c : Cell ⊤) (ps mid : Parts ⊤) → Some c ≡ cell_at p ps → mid ≡ clear_at p ps → false ≡ has_place mid p → A
put_back_not p c ps mid at is no_place = absurd (let e : false ≡ true = no_place ∙ ap (λ qs. has_place qs p) is ∙ place-own p c ps (sym at) in cc (e))

pub ruleset putting_back = (put_back_none, put_back_some)
