-- A table of types, and values of them, for the computed examples.
use Rattle.std.specs.Prelude.{ℕ, ◌+◌, [], ◌∷◌, ◌++◌, pos, true, Some}
use Rattle.herm_model.specs.Paths.{init}
use Rattle.herm_model.specs.Types.{names, fields, cases, rows, inport, outport, callmessage, by_in, by_inout, by_out, TypeTable, predefined}
use Rattle.herm_model.specs.Values.{a_boolean, an_integer, a_tag, Kind, a_scalar, a_record, a_variant, a_callmessage, an_inport, Cell, cell, Parts, no_parts, gap, part, set_part}

-- 8, a pair: record { key: integer, count: integer }
-- 9, a choice: variant { flag: boolean, some: pair }
-- 10, a list: table of pair key (key)
-- 11, a call: callmessage (in n: integer, inout p: pair, out q: pair), which keeps p at exception 7
-- 12, a service: inport of call
-- 13, a client: outport of service
-- 14, a source: inport of pair { init(key) }
-- 15, a colour: enum of three names
-- 16, a whole: record { first: pair, second: choice, third: source }
-- 17, a chain: record { link: chain }
-- 18, a nothing: callmessage ()
abbrev pub example_types : TypeTable
example_types = predefined ++ (fields (1 ∷ 1 ∷ []) ∷ cases (0 ∷ 8 ∷ []) ∷ rows 8 (0 ∷ []) ∷ callmessage (record { mode = by_in; content = 1 } ∷ record { mode = by_inout; content = 8 } ∷ record { mode = by_out; content = 8 } ∷ []) (record { exception = 7; kept = 1 ∷ [] } ∷ []) ∷ inport 11 [] ∷ outport 12 ∷ inport 8 (init (0 ∷ 0 ∷ []) ∷ []) ∷ names 3 ∷ fields (8 ∷ 9 ∷ 14 ∷ []) ∷ fields (17 ∷ []) ∷ callmessage [] [] ∷ [])

-- a cell without parts
abbrev pub leaf : {N : Type 0} → N → Kind → Cell N
leaf n k = cell n k no_parts

-- a list of parts of one or two cells
abbrev pub one : {N : Type 0} → Cell N → Parts N
one c = part c no_parts

abbrev pub two : {N : Type 0} → Cell N → Cell N → Parts N
two c d = part c (part d no_parts)

-- a pair whose cells are named from n on
abbrev pub pair : ℕ → ℕ → ℕ → Cell ℕ
pair n key count = cell n a_record (two (leaf (1 + n) (a_scalar (an_integer (pos key)))) (leaf (2 + n) (a_scalar (an_integer (pos count)))))

-- a whole with names 10 to 18
abbrev pub a_whole : Cell ℕ
a_whole = cell 10 a_record (part (pair 11 1 2) (two (cell 14 (a_variant 1) (one (pair 15 3 4))) (leaf 18 (an_inport 5))))

-- a call with names 20 to 24, whose last parameter is empty
abbrev pub a_call : Cell ℕ
a_call = cell 20 (a_callmessage 2 0) (part (leaf 21 (a_scalar (an_integer (pos 7)))) (part (pair 22 5 6) (gap no_parts)))

-- a cell without parts and one with one part, both with the name 0
abbrev pub bare : Kind → Cell ℕ
bare k = leaf 0 k

abbrev pub with_part : Kind → Cell ℕ → Cell ℕ
with_part k c = cell 0 k (one c)

-- the call with its last parameter filled
abbrev pub answered : Cell ℕ → Cell ℕ
answered (cell n k ps) = cell n k (set_part 2 (Some (pair 50 7 8)) ps)

-- a whole without its first field
abbrev pub without_first : Cell ℕ
without_first = cell 0 a_record (gap (two (cell 1 (a_variant 0) (one (leaf 2 (a_scalar (a_boolean true))))) (leaf 3 (an_inport 9))))

-- a colour by its place
abbrev pub colour : ℕ → Cell ℕ
colour i = bare (a_scalar (a_tag i))
