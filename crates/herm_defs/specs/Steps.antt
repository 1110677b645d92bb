-- Steps from a type to a field of it, and where a path of names ends.
use Rattle.std.specs.Prelude.{ℕ, List, Option, Some, None, option_map, slice_get}
use Rattle.herm_base.specs.declared.numbers.TypeNo.{TypeNo}
use Rattle.herm_model.specs.Lists.{map_or}
use Rattle.herm_model.specs.WellFormedTables.{field_type}
use Rattle.herm_model.specs.Paths.{Fact}
use Rattle.herm_syntax.specs.Trees.{Letters, InitFact, FullFact, CaseFact}
use Rattle.herm_meaning.specs.Meaning.{fact_meant}
use Rattle.herm_meaning.specs.Names.{NamedTable}
use Rattle.herm_meaning.specs.Walks.{place_of, parts_of, Walked, ended, left_fields, met_unknown}

-- a part's place and type
abbrev pub part_seen : ℕ × TypeNo → ℕ × ℕ
part_seen p = (p.0, p.1.0)

-- the field with a name among fields of these names and types
abbrev pub field_at : List Letters → List ℕ → Letters → Option (ℕ × ℕ)
field_at names ts name = option_map (λ u. (place_of names name, u)) (slice_get ts (place_of names name))

-- the field with a name of a type
abbrev pub step_from : NamedTable → ℕ → Letters → Option (ℕ × ℕ)
step_from table t name = map_or None (λ s. option_map (λ u. (place_of (parts_of table t) name, u)) (field_type s (place_of (parts_of table t) name))) (slice_get table.shapes t)

-- the places and the type where a path ends, if it does
abbrev pub end_of : Walked → Option (List ℕ × ℕ)
end_of (ended places t) = Some (places, t)
end_of left_fields = None
end_of met_unknown = None

-- the facts that each kind of declared fact lists
abbrev pub init_meant : NamedTable → ℕ → List Letters → List Fact
init_meant table message p = fact_meant table message (InitFact p)

abbrev pub full_meant : NamedTable → ℕ → List Letters → List Fact
full_meant table message p = fact_meant table message (FullFact p)

abbrev pub case_meant : NamedTable → ℕ → List Letters → Letters → List Fact
case_meant table message p c = fact_meant table message (CaseFact p c)
