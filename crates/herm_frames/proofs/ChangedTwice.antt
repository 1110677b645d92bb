-- Two changes of what is read at one path.
use Rattle.std.proofs.Common.{◌≡◌, ℕ, zero, suc, List, [], ◌∷◌, Option, Some, None, refl, sym, ap, ◌∙◌}
use Rattle.herm_model.specs.Paths.{Path}
use Rattle.herm_model.specs.Values.{a_record, a_variant, a_callmessage, Cell, cell, Parts, no_parts, gap, part, part_at, behind_gaps, readable_of, read_at, change_part, change_readable, change_behind, change_from, change_at}

module _ {N : Type 0} where
  part-twice : (i : ℕ) (g f h : Cell N → Cell N) (ps : Parts N) → ((c : Cell N) → part_at i ps ≡ Some c → g (f c) ≡ h c) → change_part i g (change_part i f ps) ≡ change_part i h ps
  part-twice i g f h no_parts is = refl
  part-twice zero g f h (gap ps) is = refl
  part-twice zero g f h (part c ps) is = ap (λ d. part d ps) (is c refl)
  part-twice (suc i) g f h (gap ps) is = ap gap (part-twice i g f h ps is)
  part-twice (suc i) g f h (part c ps) is = ap (part c) (part-twice i g f h ps is)

  part-own : (i : ℕ) (h : Cell N → Cell N) (ps : Parts N) → ((c : Cell N) → part_at i ps ≡ Some c → h c ≡ c) → change_part i h ps ≡ ps
  part-own i h no_parts is = refl
  part-own zero h (gap ps) is = refl
  part-own zero h (part c ps) is = ap (λ d. part d ps) (is c refl)
  part-own (suc i) h (gap ps) is = ap gap (part-own i h ps is)
  part-own (suc i) h (part c ps) is = ap (part c) (part-own i h ps is)

  behind-twice : (i j : ℕ) (g f h : Cell N → Cell N) (ps : Parts N) → ((c : Cell N) → part_at j (behind_gaps i ps) ≡ Some c → g (f c) ≡ h c) → change_behind i j g (change_behind i j f ps) ≡ change_behind i j h ps
  behind-twice zero j g f h ps is = part-twice j g f h ps is
  behind-twice (suc i) zero g f h ps is = refl
  behind-twice (suc i) (suc j) g f h ps is = behind-twice i j g f h ps is

  behind-own : (i j : ℕ) (h : Cell N → Cell N) (ps : Parts N) → ((c : Cell N) → part_at j (behind_gaps i ps) ≡ Some c → h c ≡ c) → change_behind i j h ps ≡ ps
  behind-own zero j h ps is = part-own j h ps is
  behind-own (suc i) zero h ps is = refl
  behind-own (suc i) (suc j) h ps is = behind-own i j h ps is

  -- the two changes come to one at the path
  abbrev Twice : Path → (Cell N → Cell N) → (Cell N → Cell N) → (Cell N → Cell N) → Type 0
  Twice p g f h = (i : ℕ) (ps : Parts N) → ((c : Cell N) → read_at p (behind_gaps i ps) ≡ Some c → g (f c) ≡ h c) → change_from p g i (change_from p f i ps) ≡ change_from p h i ps

  readable-twice : (k : ℕ) (p : Path) (g f h : Cell N → Cell N) → Twice (k ∷ p) g f h → (c : Cell N) → ((d : Cell N) → read_at (k ∷ p) (readable_of (Some c)) ≡ Some d → g (f d) ≡ h d)
      → change_readable (change_from (k ∷ p) g) (change_readable (change_from (k ∷ p) f) c) ≡ change_readable (change_from (k ∷ p) h) c
  readable-twice k p g f h again (cell n (a_variant m) ps) is = ap (cell n (a_variant m)) (again m ps is)
  readable-twice k p g f h again (cell n a_record ps) is = ap (cell n a_record) (again 0 ps is)
  readable-twice k p g f h again (cell n (a_callmessage x y) ps) is = ap (cell n (a_callmessage x y)) (again 0 ps is)
  readable-twice k p g f h again (cell n kind ps) is = refl

  from-twice : (p : Path) (g f h : Cell N → Cell N) → Twice p g f h
  from-twice [] g f h i ps is = refl
  from-twice (j ∷ []) g f h i ps is = behind-twice i j g f h ps is
  from-twice (j ∷ k ∷ p) g f h i ps is =
      behind-twice i j (change_readable (change_from (k ∷ p) g)) (change_readable (change_from (k ∷ p) f)) (change_readable (change_from (k ∷ p) h)) ps
      (λ c at. readable-twice k p g f h (from-twice (k ∷ p) g f h) c (λ d r. is d (ap (λ o. read_at (k ∷ p) (readable_of o)) at ∙ r)))

  -- the change leaves what is at the path as it is
  abbrev Own : Path → (Cell N → Cell N) → Type 0
  Own p h = (i : ℕ) (ps : Parts N) → ((c : Cell N) → read_at p (behind_gaps i ps) ≡ Some c → h c ≡ c) → change_from p h i ps ≡ ps

  readable-own : (k : ℕ) (p : Path) (h : Cell N → Cell N) → Own (k ∷ p) h → (c : Cell N) → ((d : Cell N) → read_at (k ∷ p) (readable_of (Some c)) ≡ Some d → h d ≡ d) → change_readable (change_from (k ∷ p) h) c ≡ c
  readable-own k p h again (cell n (a_variant m) ps) is = ap (cell n (a_variant m)) (again m ps is)
  readable-own k p h again (cell n a_record ps) is = ap (cell n a_record) (again 0 ps is)
  readable-own k p h again (cell n (a_callmessage x y) ps) is = ap (cell n (a_callmessage x y)) (again 0 ps is)
  readable-own k p h again (cell n kind ps) is = refl

  from-own : (p : Path) (h : Cell N → Cell N) → Own p h
  from-own [] h i ps is = refl
  from-own (j ∷ []) h i ps is = behind-own i j h ps is
  from-own (j ∷ k ∷ p) h i ps is =
      behind-own i j (change_readable (change_from (k ∷ p) h)) ps
      (λ c at. readable-own k p h (from-own (k ∷ p) h) c (λ d r. is d (ap (λ o. read_at (k ∷ p) (readable_of o)) at ∙ r)))

  -- what is there is taken out, and this put there in its place
  pub put-twice : (p : Path) (away back : Cell N) (h : Cell N → Cell N) (ps : Parts N) → ((c : Cell N) → read_at p ps ≡ Some c → back ≡ h c) → change_at p (λ d. back) (change_at p (λ d. away) ps) ≡ change_at p h ps
  put-twice p away back h ps is = from-twice p (λ d. back) (λ d. away) h 0 ps is

  -- what is there stands there again
  pub same-own : (p : Path) (back : Cell N) (ps : Parts N) → read_at p ps ≡ Some back → change_at p (λ d. back) ps ≡ ps
  same-own p back ps at = from-own p (λ d. back) 0 ps (λ c is. Rattle.herm_model.proofs.Options.some-injective (sym at ∙ is))

  pub put-own : (p : Path) (away back : Cell N) (ps : Parts N) → read_at p ps ≡ Some back → change_at p (λ d. back) (change_at p (λ d. away) ps) ≡ ps
  put-own p away back ps at =
      put-twice p away back (λ d. back) ps (λ c is. refl) ∙ same-own p back ps at
