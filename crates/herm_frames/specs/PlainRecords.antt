-- Records whose fields are empty, scalars or outports.
use Rattle.std.specs.Prelude.{Bool, true, false, ◌&&◌}
use Rattle.herm_model.specs.Values.{a_record, Cell, cell, Parts, no_parts, gap, part, kind_of}
use Rattle.herm_places.specs.Plain.{is_plain_kind}

-- each place is empty or has a scalar or an outport
abbrev pub are_plain : {N : Type 0} → Parts N → Bool
are_plain no_parts = true
are_plain (gap ps) = are_plain ps
are_plain (part c ps) = is_plain_kind (kind_of c) && are_plain ps

-- a record, and each of its places is so
abbrev pub is_plain_record : {N : Type 0} → Cell N → Bool
is_plain_record (cell n a_record ps) = are_plain ps
is_plain_record (cell n k ps) = false
