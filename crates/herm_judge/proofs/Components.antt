-- A part behind a path is there where the path is and its type has the part.
use Rattle.std.proofs.Common.{◌≡◌, ℕ, suc, ◌+◌, ◌<◌, List, [], ◌∷◌, ◌++◌, length, Bool, true, false, not, ◌&&◌, ◌||◌, nat_lt, nat_eq, Option, Some, None, is_some, slice_get, refl, sym, ap, ◌∙◌, add-one, arith}
use Rattle.herm_model.specs.Lists.{all_pass, map_or, range}
use Rattle.herm_model.specs.Types.{Shape, TypeTable, part_of, part_type, type_below, type_at}
use Rattle.herm_naming.specs.Fits.{type_of}
use Rattle.herm_naming.specs.UnknownNames.{is_type, is_known, is_there, are_parts_there}

module _ (table : TypeTable) where
  -- behind a type that is not known there is no type
  nothing-below : (p : List ℕ) → type_below table None p ≡ None
  nothing-below [] = refl
  nothing-below (i ∷ p) = nothing-below p

  no-part : (t : Option ℕ) (i : ℕ) → is_known table t ≡ false → part_of table t i ≡ None
  no-part None i e = refl
  no-part (Some t) i e = by (slice_get table t) e
    where
      by : (o : Option Shape) → is_some o ≡ false → map_or None (λ s. part_type s i) o ≡ None
      by None h = refl
      by (Some s) h = absurd (let k : ⊥ = cc in k)

  abbrev ends : Option ℕ → ℕ → Bool
  ends t c = not (is_known table t) || is_some (part_of table t c)

  end_there : (t : Option ℕ) (c : ℕ) → are_parts_there table t (c ∷ []) ≡ ends t c
  end_there t c = by (is_known table t) (is_some (part_of table t c))
    where
      by : (a b : Bool) → (not a || (b && true)) ≡ (not a || b)
      by true true = refl
      by true false = refl
      by false b = refl

  behind : (t : Option ℕ) (p : List ℕ) (c : ℕ) → are_parts_there table t (p ++ (c ∷ [])) ≡ (are_parts_there table t p && ends (type_below table t p) c)
  behind t [] c = end_there t c
  behind t (i ∷ p) c = by (is_known table t) refl (behind (part_of table t i) p c)
    where
      unknown : is_known table t ≡ false → true ≡ ends (type_below table (part_of table t i) p) c
      unknown e = sym (ap (λ o. ends (type_below table o p) c) (no-part t i e) ∙ ap (λ o. ends o c) (nothing-below p))

      known : (a b x y : Bool) → x ≡ (a && y) → (b && x) ≡ ((b && a) && y)
      known a true x y e = e
      known a false x y e = refl

      by : (k : Bool) → is_known table t ≡ k → are_parts_there table (part_of table t i) (p ++ (c ∷ [])) ≡ (are_parts_there table (part_of table t i) p && ends (type_below table (part_of table t i) p) c)
          → (not k || (is_some (part_of table t i) && are_parts_there table (part_of table t i) (p ++ (c ∷ [])))) ≡ ((not k || (is_some (part_of table t i) && are_parts_there table (part_of table t i) p)) && ends (type_below table (part_of table t i) p) c)
      by false e h = unknown e
      by true e h = known (are_parts_there table (part_of table t i) p) (is_some (part_of table t i)) _ (ends (type_below table (part_of table t i) p) c) h

  pub component_there : (types : List ℕ) (v : ℕ) (p : List ℕ) (c : ℕ) → (is_there table types (v ∷ p) && ends (type_of table types (v ∷ p)) c) ≡ is_there table types ((v ∷ p) ++ (c ∷ []))
  component_there types v p c = sym (by (nat_lt v (length types)) (behind (slice_get types v) p c))
    where
      by : (b : Bool) → are_parts_there table (slice_get types v) (p ++ (c ∷ [])) ≡ (are_parts_there table (slice_get types v) p && ends (type_below table (slice_get types v) p) c)
          → (b && are_parts_there table (slice_get types v) (p ++ (c ∷ []))) ≡ ((b && are_parts_there table (slice_get types v) p) && ends (type_below table (slice_get types v) p) c)
      by true h = h
      by false h = refl
