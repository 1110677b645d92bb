-- Types of values do not depend on the names of cells; a full value has its type.
use Rattle.std.proofs.Common.{◌≡◌, ℕ, List, [], ◌∷◌, map, length, false, ◌&&◌, Option, Some, None, slice_get, nat_le, nat_lt, IsTrue, refl, sym, ap, ap₂, subst}
use Rattle.herm_model.specs.Lists.{map_or}
use Rattle.herm_model.specs.Types.{Mode, by_in, by_inout, by_out, Parameter, TypeTable, Shape, polymorph, fields, rows, callmessage}
use Rattle.herm_model.specs.Values.{Kind, a_record, a_callmessage, Cell, cell, Parts, no_parts, gap, gaps, part}
use Rattle.herm_model.specs.CellNames.{rename, rename_in}
use Rattle.herm_model.specs.Typed.{Degree, whole, partly, Content, a_value, nothing, Layout, exactly, many, unfit, MayBeEmpty, parameter_content, layout, layout_at, is_bounded, greatest_rows, greatest_polymorph, IsOf, Fits}
use Rattle.herm_model.proofs.Renaming.{size-rename, depth_in-rename, has_distinct_keys-rename}

-- the layout of a kind in the shape of a type, if there is one
abbrev pub layout_of : Degree → Option Shape → Kind → Layout
layout_of d o k = map_or unfit (λ s. layout d s k) o

module _ {N M : Type 0} (f : N → M) where
  is_bounded-rename : (o : Option Shape) (ps : Parts N) → map_or false (λ s. is_bounded s (rename_in f ps)) o ≡ map_or false (λ s. is_bounded s ps) o
  is_bounded-rename (Some (rows row key)) ps = ap₂ ◌&&◌ (ap (λ n. nat_le n greatest_rows) (size-rename f ps)) (has_distinct_keys-rename f key ps)
  is_bounded-rename (Some polymorph) ps = ap (λ n. nat_lt n greatest_polymorph) (depth_in-rename f ps)
  is_bounded-rename o ps = refl

  module _ (table : TypeTable) where
    mutual
      IsOf-rename : (d : Degree) (t : ℕ) (c : Cell N) → IsOf d table t (rename f c) ≡ IsOf d table t c
      IsOf-rename d t (cell n k ps) = ap₂ (λ (A B : Type 0). A × B) (Fits-rename (layout_at d table t k) ps) (ap IsTrue (is_bounded-rename (slice_get table t) ps))

      Fits-rename : (l : Layout) (ps : Parts N) → Fits table l (rename_in f ps) ≡ Fits table l ps
      Fits-rename (exactly []) no_parts = refl
      Fits-rename (exactly []) (gap ps) = refl
      Fits-rename (exactly []) (part c ps) = refl
      Fits-rename (exactly (x ∷ xs)) no_parts = refl
      Fits-rename (exactly (x ∷ xs)) (gap ps) = ap (λ (B : Type 0). MayBeEmpty x × B) (Fits-rename (exactly xs) ps)
      Fits-rename (exactly (a_value d u ∷ xs)) (part c ps) = ap₂ (λ (A B : Type 0). A × B) (IsOf-rename d u c) (Fits-rename (exactly xs) ps)
      Fits-rename (exactly (nothing ∷ xs)) (part c ps) = refl
      Fits-rename (many u) no_parts = refl
      Fits-rename (many u) (gap ps) = refl
      Fits-rename (many u) (part c ps) = ap₂ (λ (A B : Type 0). A × B) (IsOf-rename whole u c) (Fits-rename (many u) ps)
      Fits-rename unfit ps = refl

    pub IsOf-renamed : (d : Degree) (t : ℕ) (c : Cell N) → IsOf d table t c → IsOf d table t (rename f c)
    IsOf-renamed d t c h = subst (λ (A : Type 0). A) (sym (IsOf-rename d t c)) h

    pub Fits-renamed : (l : Layout) (ps : Parts N) → Fits table l ps → Fits table l (rename_in f ps)
    Fits-renamed l ps h = subst (λ (A : Type 0). A) (sym (Fits-rename l ps)) h

    pub renamed-IsOf : (d : Degree) (t : ℕ) (c : Cell N) → IsOf d table t (rename f c) → IsOf d table t c
    renamed-IsOf d t c h = subst (λ (A : Type 0). A) (IsOf-rename d t c) h

    pub renamed-Fits : (l : Layout) (ps : Parts N) → Fits table l (rename_in f ps) → Fits table l ps
    renamed-Fits l ps h = subst (λ (A : Type 0). A) (Fits-rename l ps) h

abbrev parameters : Degree → List Parameter → Layout
parameters d qs = exactly (map (λ q. parameter_content d q.mode q.content) qs)

-- a full value has its type, also where some of its parts may be missing
module _ {N : Type 0} (table : TypeTable) where
  parts-typed : (o : Option Shape) (k : Kind) (ps : Parts N) → ((ts : List ℕ) → Fits table (exactly (map (a_value whole) ts)) ps → Fits table (exactly (map (a_value partly) ts)) ps) → ((qs : List Parameter) → Fits table (parameters whole qs) ps → Fits table (parameters partly qs) ps) → Fits table (map_or unfit (λ s. layout whole s k) o) ps → Fits table (map_or unfit (λ s. layout partly s k) o) ps
  parts-typed None k ps f g h = h
  parts-typed (Some (fields ts)) a_record ps f g h = f ts h
  parts-typed (Some (callmessage qs raises)) (a_callmessage caller call) ps f g h = g qs h
  parts-typed (Some s) k ps f g h = h

  gap-typed : (m : Mode) (u : ℕ) (xs ys : List Content) (ps : Parts N) → (Fits table (exactly xs) ps → Fits table (exactly ys) ps) → Fits table (exactly (parameter_content whole m u ∷ xs)) (gap ps) → Fits table (exactly (parameter_content partly m u ∷ ys)) (gap ps)
  gap-typed by_in u xs ys ps f h = absurd h.0
  gap-typed by_inout u xs ys ps f h = absurd h.0
  gap-typed by_out u xs ys ps f h = (tt, f h.1)

  part-typed : (m : Mode) (u : ℕ) (xs ys : List Content) (c : Cell N) (ps : Parts N) → (IsOf whole table u c → IsOf partly table u c) → (Fits table (exactly xs) ps → Fits table (exactly ys) ps) → Fits table (exactly (parameter_content whole m u ∷ xs)) (part c ps) → Fits table (exactly (parameter_content partly m u ∷ ys)) (part c ps)
  part-typed by_in u xs ys c ps e f h = (e h.0, f h.1)
  part-typed by_inout u xs ys c ps e f h = (e h.0, f h.1)
  part-typed by_out u xs ys c ps e f h = absurd h

  mutual
    pub full-typed : (t : ℕ) (c : Cell N) → IsOf whole table t c → IsOf partly table t c
    full-typed t (cell n k ps) h = (parts-typed (slice_get table t) k ps (λ ts. fields-typed ts ps) (λ qs. parameters-typed qs ps) h.0, h.1)

    fields-typed : (ts : List ℕ) (ps : Parts N) → Fits table (exactly (map (a_value whole) ts)) ps → Fits table (exactly (map (a_value partly) ts)) ps
    fields-typed [] no_parts h = h
    fields-typed [] (gap ps) h = h
    fields-typed [] (part c ps) h = h
    fields-typed (t ∷ ts) no_parts h = h
    fields-typed (t ∷ ts) (gap ps) h = absurd h.0
    fields-typed (t ∷ ts) (part c ps) h = (full-typed t c h.0, fields-typed ts ps h.1)

    parameters-typed : (qs : List Parameter) (ps : Parts N) → Fits table (parameters whole qs) ps → Fits table (parameters partly qs) ps
    parameters-typed [] no_parts h = h
    parameters-typed [] (gap ps) h = h
    parameters-typed [] (part c ps) h = h
    parameters-typed (q ∷ qs) no_parts h = h
    parameters-typed (q ∷ qs) (gap ps) h = gap-typed q.mode q.content _ _ ps (parameters-typed qs ps) h
    parameters-typed (q ∷ qs) (part c ps) h = part-typed q.mode q.content _ _ c ps (full-typed q.content c) (parameters-typed qs ps) h

-- empty places have any types
pub gaps-typed : (N : Type 0) (table : TypeTable) (ts : List ℕ) → Fits {N = N} table (exactly (map (a_value partly) ts)) (gaps (length ts))
gaps-typed N table [] = tt
gaps-typed N table (t ∷ ts) = (tt, gaps-typed N table ts)
