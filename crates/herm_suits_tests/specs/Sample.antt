-- A table by hand, by which messages and replies are judged.
use Rattle.std.specs.Prelude.{List, [], ◌∷◌, codes}
use Rattle.herm_model.specs.Paths.{init, case}
use Rattle.herm_model.specs.Types.{by_in, by_out, TypeTable, names, fields, cases, rows, inport, callmessage}
use Rattle.herm_syntax.specs.Trees.{Letters}
use Rattle.herm_meaning.specs.Names.{NamedTable}

-- pair = record, way = variant, deep = record, deep_in = inport of deep {init(a.x), case(w, p)}, ask = callmessage,
-- colour = enumeration, shelf = table of pair by x, mixed = record, and inports of mixed, ask and tint
abbrev pub sample_names : List Letters
sample_names = codes "pair" ∷ codes "way" ∷ codes "deep" ∷ codes "deep_in" ∷ codes "ask" ∷ codes "colour" ∷ codes "shelf" ∷ codes "mixed" ∷ codes "mixed_in" ∷ codes "ask_in" ∷ codes "tint" ∷ codes "tint_in" ∷ []

abbrev pub sample_shapes : TypeTable
sample_shapes =
    fields (1 ∷ 2 ∷ [])
    ∷ cases (1 ∷ 8 ∷ [])
    ∷ fields (8 ∷ 9 ∷ [])
    ∷ inport 10 (init (0 ∷ 0 ∷ 0 ∷ []) ∷ case (0 ∷ 1 ∷ []) 1 ∷ [])
    ∷ callmessage (record { mode = by_in; content = 8 } ∷ record { mode = by_out; content = 3 } ∷ []) (record { exception = 7; kept = 1 ∷ [] } ∷ [])
    ∷ names 2
    ∷ rows 8 (0 ∷ [])
    ∷ fields (14 ∷ 3 ∷ [])
    ∷ inport 15 []
    ∷ inport 12 []
    ∷ fields (13 ∷ 2 ∷ [])
    ∷ inport 18 []
    ∷ []

abbrev pub sample_parts : List (List Letters)
sample_parts =
    (codes "x" ∷ codes "y" ∷ [])
    ∷ (codes "n" ∷ codes "p" ∷ [])
    ∷ (codes "a" ∷ codes "w" ∷ [])
    ∷ []
    ∷ (codes "q" ∷ codes "r" ∷ [])
    ∷ (codes "red" ∷ codes "blue" ∷ [])
    ∷ []
    ∷ (codes "s" ∷ codes "p" ∷ [])
    ∷ []
    ∷ []
    ∷ (codes "c" ∷ codes "t" ∷ [])
    ∷ []
    ∷ []

abbrev pub sample_table : NamedTable
sample_table = record { names = sample_names; shapes = sample_shapes; parts = sample_parts; exceptions = codes "Busy" ∷ [] }
