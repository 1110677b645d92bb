-- The text of a value.
use Rattle.std.specs.Prelude.{ℕ, suc, ◌^◌, ◌/◌, ◌+◌, List, Bool, [], ◌∷◌, ◌++◌, true, false, ℤ, pos, negsuc, flat_map, nat_le, ◌&&◌, codes}
use Rattle.std.specs.Fmt.{digits_onto}
use Rattle.herm_model.specs.Values.{Scalar, a_boolean, an_integer, a_text, a_tag, Kind, a_scalar, a_record, a_variant, a_table, a_polymorph, a_callmessage, an_inport, an_outport, Cell, cell, Parts, no_parts, gap, part}
use Rattle.herm_model.specs.Escapes.{escaped}

-- a bound on how many digits a number has: 64, and more for one that may have more
abbrev pub digit_bound : ℕ → ℕ
digit_bound n = suc (63 + n / 10 ^ 60)

-- a number's decimal digits
abbrev pub numeral : ℕ → List ℕ
numeral n = digits_onto (digit_bound n) 10 false n []

-- with a minus before a negative one
abbrev pub signed_numeral : ℤ → List ℕ
signed_numeral (pos n) = numeral n
signed_numeral (negsuc n) = 45 ∷ numeral (suc n)

abbrev pub scalar_text : Scalar → List ℕ
scalar_text (a_boolean true) = codes "true"
scalar_text (a_boolean false) = codes "false"
scalar_text (an_integer z) = signed_numeral z
scalar_text (a_text bytes) = codes "\"" ++ (flat_map escaped bytes ++ codes "\"")
scalar_text (a_tag i) = codes "#" ++ numeral i

-- what stands before a cell's parts, and behind them
abbrev pub opening : Kind → List ℕ
opening (a_scalar s) = scalar_text s
opening a_record = codes "{"
opening (a_variant c) = numeral c ++ codes "!"
opening a_table = codes "["
opening (a_polymorph t) = codes "<" ++ (numeral t ++ codes ":")
opening (a_callmessage caller call) = codes "(" ++ (numeral caller ++ (codes "," ++ (numeral call ++ codes ":")))
opening (an_inport port) = codes "@" ++ numeral port
opening (an_outport port) = codes ">" ++ numeral port

abbrev pub closing : Kind → List ℕ
closing a_record = codes "}"
closing a_table = codes "]"
closing (a_polymorph t) = codes ">"
closing (a_callmessage caller call) = codes ")"
closing k = []

-- The text of a value: between what its kind opens and closes with, its parts in order with commas between them, and
-- a low line where nothing is. Parts are written with what stands before the first of them; before each other one it
-- is a comma. Language reference, "Text of a value".
abbrev mutual
  pub text_of : {N : Type 0} → Cell N → List ℕ
  text_of (cell n k ps) = opening k ++ (parts_text ps [] ++ closing k)

  pub parts_text : {N : Type 0} → Parts N → List ℕ → List ℕ
  parts_text no_parts before = []
  parts_text (gap ps) before = before ++ (codes "_" ++ parts_text ps (codes ","))
  parts_text (part c ps) before = before ++ (text_of c ++ parts_text ps (codes ","))

-- 0 to 9
abbrev pub is_digit : ℕ → Bool
is_digit b = nat_le 48 b && nat_le b 57

abbrev pub begins_with_digit : List ℕ → Bool
begins_with_digit [] = false
begins_with_digit (b ∷ bytes) = is_digit b
