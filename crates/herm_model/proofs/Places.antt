-- What is at a path behind a change at another, and the names of a copy.
use Rattle.std.proofs.Common.{◌≡◌, ◌≢◌, ◌⊎◌, inl, inr, ◌<◌, ℕ, zero, suc, ◌+◌, List, [], ◌∷◌, ◌++◌, map, Bool, true, false, cond, not, ◌||◌, Option, Some, None, option_map, nat_eq, IsTrue, refl, sym, ap, ap₂, subst, length, length-append, ◌∙◌, arith, true≢false}
use Rattle.std.proofs.lemmas.Bool.{eq-eqb, eqb-true, ltb-true}
use Rattle.herm_model.specs.Lists.{range}
use Rattle.herm_model.specs.Paths.{Path, are_apart}
use Rattle.herm_model.specs.Values.{Cell, cell, Parts, no_parts, gap, part, part_at, place, set_part, size, opens, inside, cell_at, has_place, behind_gaps, readable_of, read_at, change_readable, change_behind, change_from, change_at, a_variant, a_record, a_callmessage, change_inside, change_part, set_at}
use Rattle.herm_model.specs.CellNames.{names_of, names_in, count, count_in, copy_from, copy_in}
use Rattle.herm_model.proofs.Lists.{not_true}
use Rattle.herm_model.proofs.Renaming.{map-append}
use Rattle.herm_model.proofs.NothingThere.{none-read}

pub apart-cases : (i j : ℕ) (p q : Path) → IsTrue (not (nat_eq i j) || are_apart p q) → (i ≢ j) ⊎ ((i ≡ j) × IsTrue (are_apart p q))
apart-cases i j p q h = by (nat_eq i j) refl h
  where
    by : (b : Bool) → nat_eq i j ≡ b → IsTrue (not b || are_apart p q) → (i ≢ j) ⊎ ((i ≡ j) × IsTrue (are_apart p q))
    by true e k = inr (eqb-true i j e, k)
    by false e k = inl (λ s. true≢false (sym (eq-eqb i j s) ∙ e))

module _ {N : Type 0} where
  -- what is at a path, by the part at its first place
  abbrev pub cell_below : Path → Option (Cell N) → Option (Cell N)
  cell_below [] o = o
  cell_below (j ∷ q) o = cell_at (j ∷ q) (inside o)

  pub cell-below : (i : ℕ) (q : Path) (ps : Parts N) → cell_at (i ∷ q) ps ≡ cell_below q (part_at i ps)
  cell-below i [] ps = refl
  cell-below i (j ∷ q) ps = refl

  abbrev pub read_below : Path → Option (Cell N) → Option (Cell N)
  read_below [] o = o
  read_below (j ∷ q) o = read_at (j ∷ q) (readable_of o)

  pub read-below : (i : ℕ) (q : Path) (ps : Parts N) → read_at (i ∷ q) ps ≡ read_below q (part_at i ps)
  read-below i [] ps = refl
  read-below i (j ∷ q) ps = refl

  part_at-place_zero : (o : Option (Cell N)) (ps : Parts N) → part_at zero (place o ps) ≡ o
  part_at-place_zero None ps = refl
  part_at-place_zero (Some c) ps = refl

  part_at-place_suc : (j : ℕ) (o : Option (Cell N)) (ps : Parts N) → part_at (suc j) (place o ps) ≡ part_at j ps
  part_at-place_suc j None ps = refl
  part_at-place_suc j (Some c) ps = refl

  pub part_at-set_same : (i : ℕ) (o : Option (Cell N)) (ps : Parts N) → i < size ps → part_at i (set_part i o ps) ≡ o
  part_at-set_same i o no_parts h = absurd (omega arith)
  part_at-set_same zero o (gap ps) h = part_at-place_zero o ps
  part_at-set_same zero o (part c ps) h = part_at-place_zero o ps
  part_at-set_same (suc i) o (gap ps) h = part_at-set_same i o ps (omega arith)
  part_at-set_same (suc i) o (part c ps) h = part_at-set_same i o ps (omega arith)

  pub part_at-set_other : (i j : ℕ) (o : Option (Cell N)) (ps : Parts N) → i ≢ j → part_at j (set_part i o ps) ≡ part_at j ps
  part_at-set_other i j o no_parts d = refl
  part_at-set_other zero zero o (gap ps) d = absurd (d refl)
  part_at-set_other zero zero o (part c ps) d = absurd (d refl)
  part_at-set_other zero (suc j) o (gap ps) d = part_at-place_suc j o ps
  part_at-set_other zero (suc j) o (part c ps) d = part_at-place_suc j o ps
  part_at-set_other (suc i) zero o (gap ps) d = refl
  part_at-set_other (suc i) zero o (part c ps) d = refl
  part_at-set_other (suc i) (suc j) o (gap ps) d = part_at-set_other i j o ps (λ e. d (ap suc e))
  part_at-set_other (suc i) (suc j) o (part c ps) d = part_at-set_other i j o ps (λ e. d (ap suc e))

  pub part_at-change_same : (i : ℕ) (g : Cell N → Cell N) (ps : Parts N) → part_at i (change_part i g ps) ≡ option_map g (part_at i ps)
  part_at-change_same i g no_parts = refl
  part_at-change_same zero g (gap ps) = refl
  part_at-change_same zero g (part c ps) = refl
  part_at-change_same (suc i) g (gap ps) = part_at-change_same i g ps
  part_at-change_same (suc i) g (part c ps) = part_at-change_same i g ps

  pub part_at-change_other : (i j : ℕ) (g : Cell N → Cell N) (ps : Parts N) → i ≢ j → part_at j (change_part i g ps) ≡ part_at j ps
  part_at-change_other i j g no_parts d = refl
  part_at-change_other zero zero g (gap ps) d = absurd (d refl)
  part_at-change_other zero zero g (part c ps) d = absurd (d refl)
  part_at-change_other zero (suc j) g (gap ps) d = refl
  part_at-change_other zero (suc j) g (part c ps) d = refl
  part_at-change_other (suc i) zero g (gap ps) d = refl
  part_at-change_other (suc i) zero g (part c ps) d = refl
  part_at-change_other (suc i) (suc j) g (gap ps) d = part_at-change_other i j g ps (λ e. d (ap suc e))
  part_at-change_other (suc i) (suc j) g (part c ps) d = part_at-change_other i j g ps (λ e. d (ap suc e))

  change_part-none : (i : ℕ) (g : Cell N → Cell N) → change_part i g no_parts ≡ no_parts
  change_part-none i g = refl

  pub set_at-none : (p : Path) (o : Option (Cell N)) → set_at p o no_parts ≡ no_parts
  set_at-none [] o = refl
  set_at-none (i ∷ []) o = refl
  set_at-none (i ∷ j ∷ p) o = refl

  by-opens : (b : Bool) (h : Parts N → Parts N) (ps : Parts N) → h no_parts ≡ no_parts → cond b (cond b (h ps) ps) no_parts ≡ h (cond b ps no_parts)
  by-opens true h ps e = refl
  by-opens false h ps e = sym e

  pub inside-change : (h : Parts N → Parts N) (o : Option (Cell N)) → h no_parts ≡ no_parts → inside (option_map (change_inside h) o) ≡ h (inside o)
  inside-change h None e = sym e
  inside-change h (Some (cell n k ps)) e = by-opens (opens k) h ps e

  -- below a changed part
  inside-set : (i j : ℕ) (p : Path) (o : Option (Cell N)) (ps : Parts N) → inside (part_at i (set_at (i ∷ j ∷ p) o ps)) ≡ set_at (j ∷ p) o (inside (part_at i ps))
  inside-set i j p o ps = ap inside (part_at-change_same i (change_inside (set_at (j ∷ p) o)) ps) ∙ inside-change (set_at (j ∷ p) o) (part_at i ps) (set_at-none (j ∷ p) o)

  pub cell_at-set_same : (p : Path) (o : Option (Cell N)) (ps : Parts N) → IsTrue (has_place ps p) → cell_at p (set_at p o ps) ≡ o
  cell_at-set_same [] o ps h = not_true h
  cell_at-set_same (i ∷ []) o ps h = part_at-set_same i o ps (ltb-true i (size ps) h)
  cell_at-set_same (i ∷ j ∷ p) o ps h = ap (cell_at (j ∷ p)) (inside-set i j p o ps) ∙ cell_at-set_same (j ∷ p) o (inside (part_at i ps)) h

  pub cell_at-set_below : (p : Path) (j : ℕ) (r : Path) (o : Option (Cell N)) (ps : Parts N) → IsTrue (has_place ps p) → cell_at (p ++ j ∷ r) (set_at p o ps) ≡ cell_at (j ∷ r) (inside o)
  cell_at-set_below [] j r o ps h = not_true h
  cell_at-set_below (i ∷ []) j r o ps h = ap (λ c. cell_at (j ∷ r) (inside c)) (part_at-set_same i o ps (ltb-true i (size ps) h))
  cell_at-set_below (i ∷ k ∷ p) j r o ps h = ap (cell_at ((k ∷ p) ++ j ∷ r)) (inside-set i k p o ps) ∙ cell_at-set_below (k ∷ p) j r o (inside (part_at i ps)) h

  pub cell_at-set_above : (i : ℕ) (q : Path) (j : ℕ) (r : Path) (o : Option (Cell N)) (ps : Parts N) → cell_at (i ∷ q) (set_at ((i ∷ q) ++ j ∷ r) o ps) ≡ option_map (change_inside (set_at (j ∷ r) o)) (cell_at (i ∷ q) ps)
  cell_at-set_above i [] j r o ps = part_at-change_same i (change_inside (set_at (j ∷ r) o)) ps
  cell_at-set_above i (k ∷ q) j r o ps = ap (cell_at (k ∷ q)) (inside-set i k (q ++ j ∷ r) o ps) ∙ cell_at-set_above k q j r o (inside (part_at i ps))

  pub cell_at-set_apart : (p q : Path) (o : Option (Cell N)) (ps : Parts N) → IsTrue (are_apart p q) → cell_at q (set_at p o ps) ≡ cell_at q ps
  cell_at-set_apart [] q o ps h = not_true h
  cell_at-set_apart (i ∷ p) [] o ps h = refl
  cell_at-set_apart (i ∷ []) (j ∷ q) o ps h = by (apart-cases i j [] q h) q
    where
      by : (i ≢ j) ⊎ ((i ≡ j) × IsTrue (are_apart [] q)) → (r : Path) → cell_at (j ∷ r) (set_part i o ps) ≡ cell_at (j ∷ r) ps
      by (inl d) [] = part_at-set_other i j o ps d
      by (inl d) (k ∷ r) = ap (λ c. cell_at (k ∷ r) (inside c)) (part_at-set_other i j o ps d)
      by (inr e) r = not_true e.1
  cell_at-set_apart (i ∷ k ∷ p) (j ∷ []) o ps h = by (apart-cases i j (k ∷ p) [] h)
    where
      by : (i ≢ j) ⊎ ((i ≡ j) × IsTrue (are_apart (k ∷ p) [])) → cell_at (j ∷ []) (set_at (i ∷ k ∷ p) o ps) ≡ cell_at (j ∷ []) ps
      by (inl d) = part_at-change_other i j (change_inside (set_at (k ∷ p) o)) ps d
      by (inr e) = not_true e.1
  cell_at-set_apart (i ∷ k ∷ p) (j ∷ l ∷ q) o ps h = by (apart-cases i j (k ∷ p) (l ∷ q) h) (cell_at-set_apart (k ∷ p) (l ∷ q) o (inside (part_at i ps)))
    where
      by : (i ≢ j) ⊎ ((i ≡ j) × IsTrue (are_apart (k ∷ p) (l ∷ q))) → (IsTrue (are_apart (k ∷ p) (l ∷ q)) → cell_at (l ∷ q) (set_at (k ∷ p) o (inside (part_at i ps))) ≡ cell_at (l ∷ q) (inside (part_at i ps))) → cell_at (j ∷ l ∷ q) (set_at (i ∷ k ∷ p) o ps) ≡ cell_at (j ∷ l ∷ q) ps
      by (inl d) again = ap (λ c. cell_at (l ∷ q) (inside c)) (part_at-change_other i j (change_inside (set_at (k ∷ p) o)) ps d)
      by (inr e) again = subst (λ m. cell_at (m ∷ l ∷ q) (set_at (i ∷ k ∷ p) o ps) ≡ cell_at (m ∷ l ∷ q) ps) e.0 (ap (cell_at (l ∷ q)) (inside-set i k p o ps) ∙ again e.1)

-- the names of a copy are those of the serials from the first on, as many as there are cells
pub range-add : (s m n : ℕ) → range s (m + n) ≡ range s m ++ range (s + m) n
range-add s zero n = let e : s ≡ s + 0 = omega arith in let z : 0 + n ≡ n = omega arith in ap₂ range e z
range-add s (suc m) n =
    let e : suc m + n ≡ suc (m + n) = omega arith in
    let z : suc s + m ≡ s + suc m = omega arith in
    ap (range s) e ∙ ap (s ∷◌) (range-add (suc s) m n ∙ ap (λ k. range (suc s) m ++ range k n) z)

module _ {N M : Type 0} (name : ℕ → M) where
  mutual
    pub names-copy_from : (s : ℕ) (c : Cell N) → names_of (copy_from name s c) ≡ map name (range s (count c))
    names-copy_from s (cell n k ps) = ap (name s ∷◌) (names-copy_in (suc s) ps)

    pub names-copy_in : (s : ℕ) (ps : Parts N) → names_in (copy_in name s ps) ≡ map name (range s (count_in ps))
    names-copy_in s no_parts = refl
    names-copy_in s (gap ps) = names-copy_in s ps
    names-copy_in s (part c ps) = ap₂ ◌++◌ (names-copy_from s c) (names-copy_in (s + count c) ps) ∙ sym (map-append name (range s (count c)) (range (s + count c) (count_in ps))) ∙ ap (map name) (sym (range-add s (count c) (count_in ps)))

module _ {N : Type 0} where
  mutual
    pub length-names_of : (c : Cell N) → length (names_of c) ≡ count c
    length-names_of (cell n k ps) = omega (arith, length-names_in ps)

    pub length-names_in : (ps : Parts N) → length (names_in ps) ≡ count_in ps
    length-names_in no_parts = refl
    length-names_in (gap ps) = length-names_in ps
    length-names_in (part c ps) = omega (arith, length-append (names_of c) (names_in ps), length-names_of c, length-names_in ps)

-- a change through components
module _ {N : Type 0} where
  pub change_behind_same : (i j : ℕ) (g : Cell N → Cell N) (ps : Parts N) → part_at j (behind_gaps i (change_behind i j g ps)) ≡ option_map g (part_at j (behind_gaps i ps))
  change_behind_same zero j g ps = part_at-change_same j g ps
  change_behind_same (suc i) zero g ps = refl
  change_behind_same (suc i) (suc j) g ps = change_behind_same i j g ps

  abbrev Follows : (List ℕ) → (Cell N → Cell N) → Type 0
  Follows p g = (i : ℕ) (ps : Parts N) → read_at p (behind_gaps i (change_from p g i ps)) ≡ option_map g (read_at p (behind_gaps i ps))

  read-none : (j : ℕ) (p : Path) (g : Cell N → Cell N) → read_at (j ∷ p) no_parts ≡ option_map g (read_at (j ∷ p) no_parts)
  read-none j p g = none-read (j ∷ p) ∙ sym (ap (option_map g) (none-read (j ∷ p)))

  read-readable : (j : ℕ) (p : Path) (g : Cell N → Cell N) → Follows (j ∷ p) g → (o : Option (Cell N)) → read_at (j ∷ p) (readable_of (option_map (change_readable (change_from (j ∷ p) g)) o)) ≡ option_map g (read_at (j ∷ p) (readable_of o))
  read-readable j p g again None = read-none j p g
  read-readable j p g again (Some (cell n (a_variant c) ps)) = again c ps
  read-readable j p g again (Some (cell n a_record ps)) = again 0 ps
  read-readable j p g again (Some (cell n (a_callmessage caller call) ps)) = again 0 ps
  read-readable j p g again (Some (cell n k ps)) = read-none j p g

  read_at-change_from : (p : Path) (g : Cell N → Cell N) → Follows p g
  read_at-change_from [] g i ps = refl
  read_at-change_from (j ∷ []) g i ps = change_behind_same i j g ps
  read_at-change_from (j ∷ k ∷ p) g i ps = ap (λ o. read_at (k ∷ p) (readable_of o)) (change_behind_same i j (change_readable (change_from (k ∷ p) g)) ps) ∙ read-readable k p g (read_at-change_from (k ∷ p) g) (part_at j (behind_gaps i ps))

  pub read_at-change_at : (p : Path) (g : Cell N → Cell N) (ps : Parts N) → read_at p (change_at p g ps) ≡ option_map g (read_at p ps)
  read_at-change_at p g ps = read_at-change_from p g 0 ps
