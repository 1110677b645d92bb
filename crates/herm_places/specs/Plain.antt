-- Values of one cell that is finalised at once, and where one is put without a word of what it takes the place of.
use Rattle.std.specs.Prelude.{◌≡◌, [], ◌∷◌, Bool, true, false, ◌&&◌, nat_lt, Option, Some, None}
use Rattle.herm_model.specs.Finalising.{pending, finalised}
use Rattle.herm_model.specs.Paths.{Path}
use Rattle.herm_model.specs.Values.{Kind, a_scalar, a_record, an_outport, Cell, cell, Parts, no_parts, name_of, part_at, size}

-- scalars and outports
abbrev pub is_plain_kind : Kind → Bool
is_plain_kind (a_scalar s) = true
is_plain_kind (an_outport port) = true
is_plain_kind k = false

-- Nothing waits in it, and it is finalised at once, as one cell. Language reference, "Finalising".
pub record IsPlain {N : Type 0} (c : Cell N) : Type 0 where
  pub nothing_waits : pending c ≡ []
  pub one_cell : finalised c ≡ name_of c ∷ []

-- a place that is empty or has a scalar or an outport
abbrev pub is_replaceable : {N : Type 0} → Option (Cell N) → Bool
is_replaceable None = true
is_replaceable (Some (cell n k ps)) = is_plain_kind k

-- the parts of a record, and none of another cell
abbrev pub fields_in : {N : Type 0} → Option (Cell N) → Parts N
fields_in None = no_parts
fields_in (Some (cell n a_record ps)) = ps
fields_in (Some (cell n k ps)) = no_parts

-- the path is a variable by itself or a field of a record in one, and such a place
abbrev pub has_replaceable : {N : Type 0} → Parts N → Path → Bool
has_replaceable ps [] = false
has_replaceable ps (i ∷ []) = nat_lt i (size ps) && is_replaceable (part_at i ps)
has_replaceable ps (i ∷ j ∷ []) = has_replaceable (fields_in (part_at i ps)) (j ∷ [])
has_replaceable ps (i ∷ j ∷ k ∷ p) = false
