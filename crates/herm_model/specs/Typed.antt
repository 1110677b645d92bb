-- Which values a type has: whole ones, and those with some of their parts.
use Rattle.std.specs.Prelude.{ℕ, ◌^◌, List, [], ◌∷◌, map, Bool, true, false, ◌&&◌, ◌||◌, ℤ, pos, negsuc, Option, Some, None, length, slice_get, nat_eq, nat_lt, nat_le, IsTrue, ⊤}
use Rattle.herm_model.specs.Lists.{map_or, all_pass}
use Rattle.herm_model.specs.Types.{Mode, by_in, by_inout, by_out, TypeTable, Shape, boolean, integer, text, polymorph, names, fields, cases, rows, inport, outport, callmessage}
use Rattle.herm_model.specs.Values.{a_boolean, an_integer, a_text, a_tag, Kind, a_scalar, a_record, a_variant, a_table, a_polymorph, a_callmessage, an_inport, an_outport, Cell, cell, Parts, no_parts, gap, part, size, depth_in}
use Rattle.herm_model.specs.Tables.{has_distinct_keys}

-- the numbers of 64 bits with a sign; Language reference, "Limits"
abbrev pub is_integer : ℤ → Bool
is_integer (pos n) = nat_lt n (2 ^ 63)
is_integer (negsuc n) = nat_lt n (2 ^ 63)

-- space to tilde, and the newline
abbrev pub is_text_byte : ℕ → Bool
is_text_byte b = (nat_le 32 b && nat_le b 126) || nat_eq b 10

abbrev pub greatest_text : ℕ
greatest_text = 4096

-- at most 4,096 such bytes; Language reference, "Limits"
abbrev pub is_text : List ℕ → Bool
is_text bytes = nat_le (length bytes) greatest_text && all_pass is_text_byte bytes

abbrev pub greatest_rows : ℕ
greatest_rows = 4096

abbrev pub greatest_polymorph : ℕ
greatest_polymorph = 16

-- how much of a type's value is there: all that a full value has, or some of it
pub data Degree : Type 0 where
  whole partly : Degree

-- what stands at a place: a value of the type, or of some of it where nothing may stand too; or nothing
pub data Content : Type 0 where
  a_value : Degree → ℕ → Content
  nothing : Content

-- what the parts of a cell are: at each place what is said, or any number of whole values of a type; or the cell
-- does not fit its type
pub data Layout : Type 0 where
  exactly : List Content → Layout
  many : ℕ → Layout
  unfit : Layout

-- a cell without parts, where the test holds
abbrev pub leaf_if : Bool → Layout
leaf_if true = exactly []
leaf_if false = unfit

-- one part, a whole value, where there is such a type
abbrev pub one_whole : Option ℕ → Layout
one_whole None = unfit
one_whole (Some u) = exactly (a_value whole u ∷ [])

-- a parameter: whole where the caller fills it and empty else; or some of it
abbrev pub parameter_content : Degree → Mode → ℕ → Content
parameter_content whole by_in u = a_value whole u
parameter_content whole by_inout u = a_value whole u
parameter_content whole by_out u = nothing
parameter_content partly mode u = a_value partly u

-- What the parts of a cell of this kind are, by its type's shape. A variant's component, a row and a polymorph's
-- content are whole; a record's fields and a callmessage's parameters are so where the value is.
-- Language reference, "Values".
abbrev pub layout : Degree → Shape → Kind → Layout
layout d boolean (a_scalar (a_boolean b)) = exactly []
layout d integer (a_scalar (an_integer z)) = leaf_if (is_integer z)
layout d text (a_scalar (a_text bytes)) = leaf_if (is_text bytes)
layout d (names count) (a_scalar (a_tag i)) = leaf_if (nat_lt i count)
layout d (fields ts) a_record = exactly (map (a_value d) ts)
layout d (cases ts) (a_variant c) = one_whole (slice_get ts c)
layout d (rows row key) a_table = many row
layout d polymorph (a_polymorph u) = one_whole (Some u)
layout d (callmessage ps raises) (a_callmessage caller call) = exactly (map (λ p. parameter_content d p.mode p.content) ps)
layout d (inport message declared) (an_inport port) = exactly []
layout d (outport inport_type) (an_outport port) = exactly []
layout d s k = unfit

-- the layout at a type's number
abbrev pub layout_at : Degree → TypeTable → ℕ → Kind → Layout
layout_at d table t k = map_or unfit (λ s. layout d s k) (slice_get table t)

-- a table's rows are at most 4,096 and differ in their keys; polymorphs nest at most 16 deep
abbrev pub is_bounded : {N : Type 0} → Shape → Parts N → Bool
is_bounded (rows row key) ps = nat_le (size ps) greatest_rows && has_distinct_keys key ps
is_bounded polymorph ps = nat_lt (depth_in ps) greatest_polymorph
is_bounded s ps = true

abbrev pub is_bounded_at : {N : Type 0} → TypeTable → ℕ → Parts N → Bool
is_bounded_at table t ps = map_or false (λ s. is_bounded s ps) (slice_get table t)

-- nothing may stand at the place
abbrev pub MayBeEmpty : Content → Type 0
MayBeEmpty (a_value whole u) = ⊥
MayBeEmpty (a_value partly u) = ⊤
MayBeEmpty nothing = ⊤

-- The cell is a value of the type to this degree, and the parts are as the layout says.
-- Language reference, "Values".
abbrev mutual
  pub IsOf : {N : Type 0} → Degree → TypeTable → ℕ → Cell N → Type 0
  IsOf d table t (cell n k ps) = Fits table (layout_at d table t k) ps × IsTrue (is_bounded_at table t ps)

  pub Fits : {N : Type 0} → TypeTable → Layout → Parts N → Type 0
  Fits table (exactly []) no_parts = ⊤
  Fits table (exactly []) (gap ps) = ⊥
  Fits table (exactly []) (part c ps) = ⊥
  Fits table (exactly (x ∷ xs)) no_parts = ⊥
  Fits table (exactly (x ∷ xs)) (gap ps) = MayBeEmpty x × Fits table (exactly xs) ps
  Fits table (exactly (a_value d u ∷ xs)) (part c ps) = IsOf d table u c × Fits table (exactly xs) ps
  Fits table (exactly (nothing ∷ xs)) (part c ps) = ⊥
  Fits table (many u) no_parts = ⊤
  Fits table (many u) (gap ps) = ⊥
  Fits table (many u) (part c ps) = IsOf whole table u c × Fits table (many u) ps
  Fits table unfit ps = ⊥

-- a full value of the type, and a value of the type with some of its parts
abbrev pub IsFull : {N : Type 0} → TypeTable → ℕ → Cell N → Type 0
IsFull table t c = IsOf whole table t c

abbrev pub HasType : {N : Type 0} → TypeTable → ℕ → Cell N → Type 0
HasType table t c = IsOf partly table t c

-- the values of variables of these types, of which each may be there or not
abbrev pub HaveTypes : {N : Type 0} → TypeTable → List ℕ → Parts N → Type 0
HaveTypes table variables ps = Fits table (exactly (map (a_value partly) variables)) ps
