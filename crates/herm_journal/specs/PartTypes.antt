-- The types of a cell's parts, and values whose cells have a property, each with the type of its place.
use Rattle.std.specs.Prelude.{ℕ, List, [], ◌∷◌, map, Bool, true, false, Option, Some, None, slice_get, ⊤}
use Rattle.herm_model.specs.Lists.{list_of}
use Rattle.herm_model.specs.Types.{TypeTable, Shape, boolean, integer, text, names, fields, cases, rows, polymorph, inport, outport, callmessage}
use Rattle.herm_model.specs.Values.{Kind, a_scalar, a_record, a_variant, a_table, a_polymorph, a_callmessage, an_inport, an_outport, Cell, cell, Parts, no_parts, gap, part}

-- the types of a cell's parts: one for each place, or one for all
pub data PartTypes : Type 0 where
  each : List ℕ → PartTypes
  all_of : ℕ → PartTypes

abbrev pub part_types : Shape → Kind → PartTypes
part_types (fields ts) k = each ts
part_types (cases ts) (a_variant c) = each (list_of (λ t. t ∷ []) (slice_get ts c))
part_types (rows row key) k = all_of row
part_types polymorph (a_polymorph t) = each (t ∷ [])
part_types (callmessage parameters raises) k = each (map (λ p. p.content) parameters)
part_types s k = each []

abbrev pub part_types_at : Option Shape → Kind → PartTypes
part_types_at None k = each []
part_types_at (Some s) k = part_types s k

-- whether values of a shape are cells of this kind, as far as their parts go
abbrev pub is_kind_of : Shape → Kind → Bool
is_kind_of boolean (a_scalar x) = true
is_kind_of integer (a_scalar x) = true
is_kind_of text (a_scalar x) = true
is_kind_of (names count) (a_scalar x) = true
is_kind_of (fields ts) a_record = true
is_kind_of (cases ts) (a_variant c) = true
is_kind_of (rows row key) a_table = true
is_kind_of polymorph (a_polymorph t) = true
is_kind_of (callmessage parameters raises) (a_callmessage caller call) = true
is_kind_of (inport message declared) (an_inport port) = true
is_kind_of (outport port) (an_outport n) = true
is_kind_of s k = false

abbrev pub is_kind_at : Option Shape → Kind → Bool
is_kind_at None k = false
is_kind_at (Some s) k = is_kind_of s k

-- neither an inport, an outport nor a callmessage
abbrev pub has_no_number : Kind → Bool
has_no_number (an_inport n) = false
has_no_number (an_outport n) = false
has_no_number (a_callmessage caller call) = false
has_no_number k = true

module _ (types : TypeTable) (P : ℕ → Kind → Type 0) where
  -- Each cell of a value has the property with the type of its place, and there are no cells at other places.
  abbrev mutual
    pub IsPlaced : {N : Type 0} → ℕ → Cell N → Type 0
    IsPlaced t (cell n k ps) = P t k × ArePlaced (part_types_at (slice_get types t) k) ps

    pub ArePlaced : {N : Type 0} → PartTypes → Parts N → Type 0
    ArePlaced (each []) no_parts = ⊤
    ArePlaced (each []) (gap ps) = ArePlaced (each []) ps
    ArePlaced (each []) (part c ps) = ⊥
    ArePlaced (each (t ∷ ts)) no_parts = ⊤
    ArePlaced (each (t ∷ ts)) (gap ps) = ArePlaced (each ts) ps
    ArePlaced (each (t ∷ ts)) (part c ps) = IsPlaced t c × ArePlaced (each ts) ps
    ArePlaced (all_of t) no_parts = ⊤
    ArePlaced (all_of t) (gap ps) = ArePlaced (all_of t) ps
    ArePlaced (all_of t) (part c ps) = IsPlaced t c × ArePlaced (all_of t) ps
