-- Values that have a type are well made, and names make no difference.
use Rattle.std.proofs.Common.{◌≡◌, ℕ, [], ◌∷◌, Bool, true, false, ◌&&◌, Option, Some, None, slice_get, nat_lt, IsTrue, refl, ap₂}
use Rattle.herm_model.specs.Types.{Shape, boolean, integer, text, polymorph, names, fields, cases, rows, inport, outport, callmessage, TypeTable}
use Rattle.herm_model.specs.Values.{a_boolean, an_integer, a_text, a_tag, Kind, a_scalar, a_record, a_variant, a_table, a_polymorph, a_callmessage, an_inport, an_outport, Cell, cell, Parts, no_parts, gap, part}
use Rattle.herm_model.specs.CellNames.{rename, rename_in}
use Rattle.herm_model.specs.Typed.{Degree, whole, a_value, nothing, Layout, exactly, many, unfit, leaf_if, one_whole, is_integer, is_text, layout_at, IsOf, Fits}
use Rattle.herm_model.specs.WellMade.{is_without_places, is_one_part, is_without_gaps, suits_kind, is_well_made, are_well_made}
use Rattle.herm_model.proofs.Lists.{both-and}
use Rattle.herm_model.proofs.Typing.{layout_of}

module _ {N : Type 0} (table : TypeTable) where
  none-fits : (ps : Parts N) → Fits table (exactly []) ps → IsTrue (is_without_places ps)
  none-fits no_parts h = refl
  none-fits (gap ps) h = absurd h
  none-fits (part c ps) h = absurd h

  leaf-fits : (b : Bool) (ps : Parts N) → Fits table (leaf_if b) ps → IsTrue (is_without_places ps)
  leaf-fits true ps h = none-fits ps h
  leaf-fits false ps h = absurd h

  one-fits : (u : ℕ) (ps : Parts N) → Fits table (exactly (a_value whole u ∷ [])) ps → IsTrue (is_one_part ps)
  one-fits u no_parts h = absurd h
  one-fits u (gap ps) h = absurd h.0
  one-fits u (part c ps) h = none-fits ps h.1

  component-fits : (o : Option ℕ) (ps : Parts N) → Fits table (one_whole o) ps → IsTrue (is_one_part ps)
  component-fits None ps h = absurd h
  component-fits (Some u) ps h = one-fits u ps h

  rows-fit : (u : ℕ) (ps : Parts N) → Fits table (many u) ps → IsTrue (is_without_gaps ps)
  rows-fit u no_parts h = refl
  rows-fit u (gap ps) h = absurd h
  rows-fit u (part c ps) h = rows-fit u ps h.1

  fits-suits : (d : Degree) (o : Option Shape) (k : Kind) (ps : Parts N) → Fits table (layout_of d o k) ps → IsTrue (suits_kind k ps)
  fits-suits d (Some boolean) (a_scalar (a_boolean b)) ps h = none-fits ps h
  fits-suits d (Some integer) (a_scalar (an_integer z)) ps h = leaf-fits (is_integer z) ps h
  fits-suits d (Some text) (a_scalar (a_text s)) ps h = leaf-fits (is_text s) ps h
  fits-suits d (Some (names n)) (a_scalar (a_tag i)) ps h = leaf-fits (nat_lt i n) ps h
  fits-suits d (Some (fields ts)) a_record ps h = refl
  fits-suits d (Some (cases ts)) (a_variant c) ps h = component-fits (slice_get ts c) ps h
  fits-suits d (Some (rows r key)) a_table ps h = rows-fit r ps h
  fits-suits d (Some polymorph) (a_polymorph u) ps h = one-fits u ps h
  fits-suits d (Some (callmessage qs es)) (a_callmessage caller call) ps h = refl
  fits-suits d (Some (inport m f)) (an_inport p) ps h = none-fits ps h
  fits-suits d (Some (outport q)) (an_outport p) ps h = none-fits ps h
  fits-suits d o k ps h = absurd h

  mutual
    pub typed-well_made : (d : Degree) (t : ℕ) (c : Cell N) → IsOf d table t c → IsTrue (is_well_made c)
    typed-well_made d t (cell n k ps) h = both-and (suits_kind k ps) _ (fits-suits d (slice_get table t) k ps h.0) (fits-well_made (layout_at d table t k) ps h.0)

    fits-well_made : (l : Layout) (ps : Parts N) → Fits table l ps → IsTrue (are_well_made ps)
    fits-well_made (exactly []) no_parts h = refl
    fits-well_made (exactly []) (gap ps) h = absurd h
    fits-well_made (exactly []) (part c ps) h = absurd h
    fits-well_made (exactly (x ∷ xs)) no_parts h = refl
    fits-well_made (exactly (x ∷ xs)) (gap ps) h = fits-well_made (exactly xs) ps h.1
    fits-well_made (exactly (a_value d u ∷ xs)) (part c ps) h = both-and (is_well_made c) _ (typed-well_made d u c h.0) (fits-well_made (exactly xs) ps h.1)
    fits-well_made (exactly (nothing ∷ xs)) (part c ps) h = absurd h
    fits-well_made (many u) no_parts h = refl
    fits-well_made (many u) (gap ps) h = absurd h
    fits-well_made (many u) (part c ps) h = both-and (is_well_made c) _ (typed-well_made whole u c h.0) (fits-well_made (many u) ps h.1)
    fits-well_made unfit ps h = absurd h

module _ {N M : Type 0} (f : N → M) where
  without_places-rename : (ps : Parts N) → is_without_places (rename_in f ps) ≡ is_without_places ps
  without_places-rename no_parts = refl
  without_places-rename (gap ps) = refl
  without_places-rename (part c ps) = refl

  one_part-rename : (ps : Parts N) → is_one_part (rename_in f ps) ≡ is_one_part ps
  one_part-rename no_parts = refl
  one_part-rename (gap ps) = refl
  one_part-rename (part c ps) = without_places-rename ps

  without_gaps-rename : (ps : Parts N) → is_without_gaps (rename_in f ps) ≡ is_without_gaps ps
  without_gaps-rename no_parts = refl
  without_gaps-rename (gap ps) = refl
  without_gaps-rename (part c ps) = without_gaps-rename ps

  suits-rename : (k : Kind) (ps : Parts N) → suits_kind k (rename_in f ps) ≡ suits_kind k ps
  suits-rename (a_scalar s) ps = without_places-rename ps
  suits-rename a_record ps = refl
  suits-rename (a_variant c) ps = one_part-rename ps
  suits-rename a_table ps = without_gaps-rename ps
  suits-rename (a_polymorph t) ps = one_part-rename ps
  suits-rename (a_callmessage caller call) ps = refl
  suits-rename (an_inport p) ps = without_places-rename ps
  suits-rename (an_outport p) ps = without_places-rename ps

  mutual
    pub well_made-rename : (c : Cell N) → is_well_made (rename f c) ≡ is_well_made c
    well_made-rename (cell n k ps) = ap₂ ◌&&◌ (suits-rename k ps) (are_well_made-rename ps)

    are_well_made-rename : (ps : Parts N) → are_well_made (rename_in f ps) ≡ are_well_made ps
    are_well_made-rename no_parts = refl
    are_well_made-rename (gap ps) = are_well_made-rename ps
    are_well_made-rename (part c ps) = ap₂ ◌&&◌ (well_made-rename c) (are_well_made-rename ps)
