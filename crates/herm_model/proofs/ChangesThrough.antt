-- A change at a path through components leaves what is elsewhere.
use Rattle.std.proofs.Common.{◌≡◌, ◌≢◌, ◌⊎◌, inl, inr, ℕ, zero, suc, [], ◌∷◌, ◌++◌, Bool, true, false, ◌&&◌, Option, Some, None, option_map, is_some, nat_eq, IsTrue, IsFalse, refl, sym, ap, subst, ◌∙◌, true≢false}
use Rattle.std.proofs.lemmas.Bool.{eq-eqb, eqb-true}
use Rattle.herm_model.specs.Paths.{Path, Fact, init, case, path_of, are_apart, is_at_or_below}
use Rattle.herm_model.specs.Values.{a_record, a_variant, a_callmessage, Cell, cell, Parts, no_parts, part_at, inside, cell_at, behind_gaps, readable_of, read_at, change_readable, change_behind, change_from, change_at}
use Rattle.herm_model.specs.FactsOfValues.{is_component, satisfies}
use Rattle.herm_model.proofs.Options.{is_some-map}
use Rattle.herm_model.proofs.NothingThere.{none-there}
use Rattle.herm_model.proofs.Places.{apart-cases, cell_below, cell-below, read_below, read-below, part_at-change_same, part_at-change_other, change_behind_same, read_at-change_at}

-- The second path is neither the first nor below it; where it is above, there is an A.
abbrev IsElsewhere : Type 0 → Path → Path → Type 0
IsElsewhere A [] q = ⊥
IsElsewhere A (j ∷ p) [] = A
IsElsewhere A (j ∷ p) (i ∷ q) = (j ≢ i) ⊎ ((j ≡ i) × IsElsewhere A p q)

apart-elsewhere : (p q : Path) → IsTrue (are_apart p q) → IsElsewhere ⊥ p q
apart-elsewhere [] q h = absurd (true≢false (sym h))
apart-elsewhere (j ∷ p) [] h = absurd (true≢false (sym h))
apart-elsewhere (j ∷ p) (i ∷ q) h = by (apart-cases j i p q h) (apart-elsewhere p q)
  where
    by : (j ≢ i) ⊎ ((j ≡ i) × IsTrue (are_apart p q)) → (IsTrue (are_apart p q) → IsElsewhere ⊥ p q) → (j ≢ i) ⊎ ((j ≡ i) × IsElsewhere ⊥ p q)
    by (inl d) again = inl d
    by (inr e) again = inr (e.0, again e.1)

above-elsewhere : (p q : Path) → IsFalse (is_at_or_below p q) → IsElsewhere (Unit {0}) p q
above-elsewhere [] q h = absurd (true≢false h)
above-elsewhere (j ∷ p) [] h = tt
above-elsewhere (j ∷ p) (i ∷ q) h = by (nat_eq j i) refl h (above-elsewhere p q)
  where
    by : (b : Bool) → nat_eq j i ≡ b → IsFalse (b && is_at_or_below p q) → (IsFalse (is_at_or_below p q) → IsElsewhere (Unit {0}) p q) → (j ≢ i) ⊎ ((j ≡ i) × IsElsewhere (Unit {0}) p q)
    by true e k again = inr (eqb-true j i e, again k)
    by false e k again = inl (λ s. true≢false (sym (eq-eqb j i s) ∙ e))

module _ {N : Type 0} where
  pub behind_other : (m j i : ℕ) (g : Cell N → Cell N) (ps : Parts N) → j ≢ i → part_at i (behind_gaps m (change_behind m j g ps)) ≡ part_at i (behind_gaps m ps)
  behind_other zero j i g ps d = part_at-change_other j i g ps d
  behind_other (suc m) zero i g ps d = refl
  behind_other (suc m) (suc j) zero g ps d = refl
  behind_other (suc m) (suc j) (suc i) g ps d = behind_other m j i g ps (λ e. d (ap suc e))

  -- a cell changed at the end of these steps into it
  abbrev pub changed : Path → (Cell N → Cell N) → Cell N → Cell N
  changed [] g c = g c
  changed (k ∷ r) g c = change_readable (change_from (k ∷ r) g) c

  pub from-behind : (j : ℕ) (p : Path) (g : Cell N → Cell N) (m : ℕ) (ps : Parts N) → change_from (j ∷ p) g m ps ≡ change_behind m j (changed p g) ps
  from-behind j [] g m ps = refl
  from-behind j (k ∷ r) g m ps = refl

  -- What is looked at of an option of a cell; where a path above is looked at, a change inside makes no difference.
  module _ {X : Type 0} (A : Type 0) (F : Option (Cell N) → X) (above : A → (h : ℕ → Parts N → Parts N) (o : Option (Cell N)) → F (option_map (change_readable h) o) ≡ F o) (g : Cell N → Cell N) where
    abbrev ReadsAlike : Path → Type 0
    ReadsAlike p = (q : Path) (m : ℕ) (ps : Parts N) → IsElsewhere A p q → F (read_at q (behind_gaps m (change_from p g m ps))) ≡ F (read_at q (behind_gaps m ps))

    read-inside : (p : Path) → ReadsAlike p → (q : Path) (o : Option (Cell N)) → IsElsewhere A p q → F (read_below q (option_map (changed p g) o)) ≡ F (read_below q o)
    read-inside [] again q o h = absurd h
    read-inside (k ∷ r) again [] o h = above h (change_from (k ∷ r) g) o
    read-inside (k ∷ r) again (i ∷ q) None h = refl
    read-inside (k ∷ r) again (i ∷ q) (Some (cell n (a_variant c) ps)) h = again (i ∷ q) c ps h
    read-inside (k ∷ r) again (i ∷ q) (Some (cell n a_record ps)) h = again (i ∷ q) 0 ps h
    read-inside (k ∷ r) again (i ∷ q) (Some (cell n (a_callmessage caller call) ps)) h = again (i ∷ q) 0 ps h
    read-inside (k ∷ r) again (i ∷ q) (Some (cell n kind ps)) h = refl

    read-elsewhere : (p : Path) → ReadsAlike p
    read-elsewhere [] q m ps h = absurd h
    read-elsewhere (j ∷ p) [] m ps h = refl
    read-elsewhere (j ∷ p) (i ∷ q) m ps h =
        ap (λ qs. F (read_at (i ∷ q) (behind_gaps m qs))) (from-behind j p g m ps)
        ∙ ap F (read-below i q (behind_gaps m (change_behind m j (changed p g) ps)))
        ∙ by h (read-elsewhere p)
        ∙ ap F (sym (read-below i q (behind_gaps m ps)))
      where
        by : (j ≢ i) ⊎ ((j ≡ i) × IsElsewhere A p q) → ReadsAlike p → F (read_below q (part_at i (behind_gaps m (change_behind m j (changed p g) ps)))) ≡ F (read_below q (part_at i (behind_gaps m ps)))
        by (inl d) again = ap (λ o. F (read_below q o)) (behind_other m j i (changed p g) ps d)
        by (inr e) again = subst (λ i. F (read_below q (part_at i (behind_gaps m (change_behind m j (changed p g) ps)))) ≡ F (read_below q (part_at i (behind_gaps m ps)))) e.0 (ap (λ o. F (read_below q o)) (change_behind_same m j (changed p g) ps) ∙ read-inside p again q (part_at j (behind_gaps m ps)) e.1)

    abbrev StandsAlike : Path → Type 0
    StandsAlike p = (q : Path) (ps : Parts N) → IsElsewhere A p q → F (cell_at q (change_from p g 0 ps)) ≡ F (cell_at q ps)

    cell-inside : (p : Path) → StandsAlike p → (q : Path) (o : Option (Cell N)) → IsElsewhere A p q → F (cell_below q (option_map (changed p g) o)) ≡ F (cell_below q o)
    cell-inside [] again q o h = absurd h
    cell-inside (k ∷ r) again [] o h = above h (change_from (k ∷ r) g) o
    cell-inside (k ∷ r) again (i ∷ q) None h = refl
    cell-inside (k ∷ r) again (i ∷ q) (Some (cell n (a_variant c) ps)) h = refl
    cell-inside (k ∷ r) again (i ∷ q) (Some (cell n a_record ps)) h = again (i ∷ q) ps h
    cell-inside (k ∷ r) again (i ∷ q) (Some (cell n (a_callmessage caller call) ps)) h = again (i ∷ q) ps h
    cell-inside (k ∷ r) again (i ∷ q) (Some (cell n kind ps)) h = refl

    cell-elsewhere : (p : Path) → StandsAlike p
    cell-elsewhere [] q ps h = absurd h
    cell-elsewhere (j ∷ p) [] ps h = refl
    cell-elsewhere (j ∷ p) (i ∷ q) ps h =
        ap (λ qs. F (cell_at (i ∷ q) qs)) (from-behind j p g 0 ps)
        ∙ ap F (cell-below i q (change_behind 0 j (changed p g) ps))
        ∙ by h (cell-elsewhere p)
        ∙ ap F (sym (cell-below i q ps))
      where
        by : (j ≢ i) ⊎ ((j ≡ i) × IsElsewhere A p q) → StandsAlike p → F (cell_below q (part_at i (change_behind 0 j (changed p g) ps))) ≡ F (cell_below q (part_at i ps))
        by (inl d) again = ap (λ o. F (cell_below q o)) (part_at-change_other j i (changed p g) ps d)
        by (inr e) again = subst (λ i. F (cell_below q (part_at i (change_behind 0 j (changed p g) ps))) ≡ F (cell_below q (part_at i ps))) e.0 (ap (λ o. F (cell_below q o)) (part_at-change_same j (changed p g) ps) ∙ cell-inside p again q (part_at j ps) e.1)

  pub read-apart : (p q : Path) (g : Cell N → Cell N) (ps : Parts N) → IsTrue (are_apart p q) → read_at q (change_at p g ps) ≡ read_at q ps
  read-apart p q g ps h = read-elsewhere ⊥ (λ o. o) (λ a. absurd a) g p q 0 ps (apart-elsewhere p q h)

  pub cell-apart : (p q : Path) (g : Cell N → Cell N) (ps : Parts N) → IsTrue (are_apart p q) → cell_at q (change_at p g ps) ≡ cell_at q ps
  cell-apart p q g ps h = cell-elsewhere ⊥ (λ o. o) (λ a. absurd a) g p q ps (apart-elsewhere p q h)

  component-inside : (c : ℕ) (h : ℕ → Parts N → Parts N) (o : Option (Cell N)) → is_component (option_map (change_readable h) o) c ≡ is_component o c
  component-inside c h None = refl
  component-inside c h (Some (cell n (a_variant d) ps)) = refl
  component-inside c h (Some (cell n k ps)) = refl

  pub tells-elsewhere : (p : Path) (g : Cell N → Cell N) (ps : Parts N) (f : Fact) → IsFalse (is_at_or_below p (path_of f)) → satisfies (change_at p g ps) f ≡ satisfies ps f
  tells-elsewhere p g ps (init q) h = cell-elsewhere (Unit {0}) is_some (λ a h o. is_some-map (change_readable h) o) g p q ps (above-elsewhere p q h)
  tells-elsewhere p g ps (case q c) h = read-elsewhere (Unit {0}) (λ o. is_component o c) (λ a. component-inside c) g p q 0 ps (above-elsewhere p q h)

  -- at the path, as it is reached through records and callmessages alone
  cell-none : (j : ℕ) (p : Path) (g : Cell N → Cell N) → cell_at (j ∷ p) no_parts ≡ option_map g (cell_at (j ∷ p) no_parts)
  cell-none j p g = none-there (j ∷ p) ∙ sym (ap (option_map g) (none-there (j ∷ p)))

  cell-inside_same : (j : ℕ) (p : Path) (g : Cell N → Cell N) → ((ps : Parts N) → cell_at (j ∷ p) (change_from (j ∷ p) g 0 ps) ≡ option_map g (cell_at (j ∷ p) ps)) → (o : Option (Cell N)) → cell_at (j ∷ p) (inside (option_map (change_readable (change_from (j ∷ p) g)) o)) ≡ option_map g (cell_at (j ∷ p) (inside o))
  cell-inside_same j p g again None = cell-none j p g
  cell-inside_same j p g again (Some (cell n (a_variant c) ps)) = cell-none j p g
  cell-inside_same j p g again (Some (cell n a_record ps)) = again ps
  cell-inside_same j p g again (Some (cell n (a_callmessage caller call) ps)) = again ps
  cell-inside_same j p g again (Some (cell n k ps)) = cell-none j p g

  pub cell_at-change_at : (p : Path) (g : Cell N → Cell N) (ps : Parts N) → cell_at p (change_at p g ps) ≡ option_map g (cell_at p ps)
  cell_at-change_at [] g ps = refl
  cell_at-change_at (j ∷ []) g ps = part_at-change_same j g ps
  cell_at-change_at (j ∷ k ∷ p) g ps = ap (λ o. cell_at (k ∷ p) (inside o)) (part_at-change_same j (change_readable (change_from (k ∷ p) g)) ps) ∙ cell-inside_same k p g (cell_at-change_at (k ∷ p) g) (part_at j ps)

  -- reading goes on from what is read at a beginning
  read-onward : (j : ℕ) (p : Path) (i : ℕ) (r : Path) (ps : Parts N) → read_at ((j ∷ p) ++ i ∷ r) ps ≡ read_at (i ∷ r) (readable_of (read_at (j ∷ p) ps))
  read-onward j [] i r ps = refl
  read-onward j (k ∷ p) i r ps = read-onward k p i r (readable_of (part_at j ps))

  pub read-below_change : (j : ℕ) (p : Path) (g : Cell N → Cell N) (ps : Parts N) (i : ℕ) (r : Path) → read_at ((j ∷ p) ++ i ∷ r) (change_at (j ∷ p) g ps) ≡ read_at (i ∷ r) (readable_of (option_map g (read_at (j ∷ p) ps)))
  read-below_change j p g ps i r = read-onward j p i r (change_at (j ∷ p) g ps) ∙ ap (λ o. read_at (i ∷ r) (readable_of o)) (read_at-change_at (j ∷ p) g ps)

  -- a change at a longer path is one of the cell at its beginning
  change-onward : (i : ℕ) (q : Path) (j : ℕ) (r : Path) (g : Cell N → Cell N) (m : ℕ) (ps : Parts N) → change_from ((i ∷ q) ++ j ∷ r) g m ps ≡ change_from (i ∷ q) (change_readable (change_from (j ∷ r) g)) m ps
  change-onward i [] j r g m ps = refl
  change-onward i (k ∷ q) j r g m ps =
      let e : change_from ((k ∷ q) ++ j ∷ r) g ≡ change_from (k ∷ q) (change_readable (change_from (j ∷ r) g)) = λ t m ps. change-onward k q j r g m ps t in
      ap (λ h. change_behind m i (change_readable h) ps) e

  pub read-above_change : (i : ℕ) (q : Path) (j : ℕ) (r : Path) (g : Cell N → Cell N) (ps : Parts N) → read_at (i ∷ q) (change_at ((i ∷ q) ++ j ∷ r) g ps) ≡ option_map (change_readable (change_from (j ∷ r) g)) (read_at (i ∷ q) ps)
  read-above_change i q j r g ps = ap (read_at (i ∷ q)) (change-onward i q j r g 0 ps) ∙ read_at-change_at (i ∷ q) (change_readable (change_from (j ∷ r) g)) ps
