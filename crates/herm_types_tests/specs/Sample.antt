-- A table by hand, on which the calls are tried.
use Rattle.std.specs.Prelude.{List, [], ◌∷◌, codes, length}
use Rattle.herm_model.specs.Paths.{init, case}
use Rattle.herm_model.specs.Types.{by_in, by_out, TypeTable, fields, cases, inport, callmessage}
use Rattle.herm_syntax.specs.Trees.{Letters}
use Rattle.herm_meaning.specs.Names.{NamedTable}

-- pair = record, way = variant, deep = record, deep_in = inport of deep {init(a.x), case(w, p)}, ask = callmessage
abbrev pub sample_names : List Letters
sample_names = codes "pair" ∷ codes "way" ∷ codes "deep" ∷ codes "deep_in" ∷ codes "ask" ∷ []

abbrev pub sample_shapes : TypeTable
sample_shapes =
    fields (1 ∷ 2 ∷ [])
    ∷ cases (1 ∷ 8 ∷ [])
    ∷ fields (8 ∷ 9 ∷ [])
    ∷ inport 10 (init (0 ∷ 0 ∷ 0 ∷ []) ∷ case (0 ∷ 1 ∷ []) 1 ∷ [])
    ∷ callmessage (record { mode = by_in; content = 8 } ∷ record { mode = by_out; content = 3 } ∷ []) (record { exception = 7; kept = 1 ∷ [] } ∷ [])
    ∷ []

abbrev pub sample_parts : List (List Letters)
sample_parts = (codes "x" ∷ codes "y" ∷ []) ∷ (codes "n" ∷ codes "p" ∷ []) ∷ (codes "a" ∷ codes "w" ∷ []) ∷ [] ∷ (codes "q" ∷ codes "r" ∷ []) ∷ []

abbrev pub sample_table : NamedTable
sample_table = record { names = sample_names; shapes = sample_shapes; parts = sample_parts; exceptions = codes "Busy" ∷ [] }
