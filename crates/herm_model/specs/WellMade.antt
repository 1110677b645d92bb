-- Values that are well made, whatever their type.
use Rattle.std.specs.Prelude.{ℕ, List, [], ◌∷◌, Bool, true, false, ◌&&◌, ◌||◌, nat_eq}
use Rattle.herm_model.specs.Values.{Kind, a_scalar, a_record, a_variant, a_table, a_polymorph, a_callmessage, an_inport, an_outport, Cell, cell, Parts, no_parts, gap, part}
use Rattle.herm_model.specs.ValueTexts.{is_digit}

-- there is no place
abbrev pub is_without_places : {N : Type 0} → Parts N → Bool
is_without_places no_parts = true
is_without_places (gap ps) = false
is_without_places (part c ps) = false

-- there is one place, and a cell stands there
abbrev pub is_one_part : {N : Type 0} → Parts N → Bool
is_one_part no_parts = false
is_one_part (gap ps) = false
is_one_part (part c ps) = is_without_places ps

-- a cell stands at each place
abbrev pub is_without_gaps : {N : Type 0} → Parts N → Bool
is_without_gaps no_parts = true
is_without_gaps (gap ps) = false
is_without_gaps (part c ps) = is_without_gaps ps

-- The places that a cell of this kind has: a scalar and a port none, a variant and a polymorph one with its content,
-- a table one with each row. Of a record and a callmessage any may be empty. Language reference, "Values".
abbrev pub suits_kind : {N : Type 0} → Kind → Parts N → Bool
suits_kind (a_scalar s) ps = is_without_places ps
suits_kind a_record ps = true
suits_kind (a_variant c) ps = is_one_part ps
suits_kind a_table ps = is_without_gaps ps
suits_kind (a_polymorph t) ps = is_one_part ps
suits_kind (a_callmessage caller call) ps = true
suits_kind (an_inport port) ps = is_without_places ps
suits_kind (an_outport port) ps = is_without_places ps

-- A cell is well made where its places are those of its kind, and each of its parts is well made; so it can be told
-- without its type. Language reference, "Text of a value".
abbrev mutual
  pub is_well_made : {N : Type 0} → Cell N → Bool
  is_well_made (cell n k ps) = suits_kind k ps && are_well_made ps

  pub are_well_made : {N : Type 0} → Parts N → Bool
  are_well_made no_parts = true
  are_well_made (gap ps) = are_well_made ps
  are_well_made (part c ps) = is_well_made c && are_well_made ps

-- what could go on with a text: a digit with a number, and `!` with a number that is a variant's component
abbrev pub may_go_on : List ℕ → Bool
may_go_on [] = false
may_go_on (b ∷ bytes) = is_digit b || nat_eq b 33
