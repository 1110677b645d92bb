-- The table of types that definitions mean.
use Rattle.std.specs.Prelude.{ℕ, suc, List, [], ◌∷◌, ◌++◌, map, flat_map, length, cond}
use Rattle.std.specs.Str.{bytes_eq}
use Rattle.std.specs.List.{list_any}
use Rattle.herm_model.specs.Paths.{Fact, init, case}
use Rattle.herm_model.specs.Types as types
use Rattle.herm_model.specs.Facts.{full_facts, without_repeats}
use Rattle.herm_syntax.specs.Trees.{Letters, Mode, In, Inout, Out, Param, Raising, DeclaredFact, InitFact, FullFact, CaseFact, Shape, Names, Fields, Cases, Rows, Inport, Outport, CallMessage}
use Rattle.herm_meaning.specs.Names.{NamedTable, behind_predefined, predefined_names, predefined_exception_names}
use Rattle.herm_meaning.specs.Walks.{place_of, parts_of, at_end, walk_fields}
use Rattle.herm_meaning.specs.Items.{Placed, types_in, exceptions_in}

-- the names of a shape's parts
abbrev pub part_names : Shape → List Letters
part_names (Names values) = values
part_names (Fields fs) = map (λ f. f.0) fs
part_names (Cases cs) = map (λ c. c.0) cs
part_names (CallMessage params raises) = map (λ p. p.1.0) params
part_names s = []

abbrev pub mode_meant : Mode → types.Mode
mode_meant In = types.by_in
mode_meant Inout = types.by_inout
mode_meant Out = types.by_out

-- The places of the parameters that are kept, rising whatever the order in which they are written.
-- Language reference, "Rules of definitions".
abbrev pub kept_places : ℕ → List Letters → List Letters → List ℕ
kept_places i [] keeps = []
kept_places i (name ∷ names) keeps = cond (list_any (bytes_eq name) keeps) (i ∷ kept_places (suc i) names keeps) (kept_places (suc i) names keeps)

abbrev pub parameter_meant : List Letters → Param → types.Parameter
parameter_meant names p = record { mode = mode_meant p.0; content = place_of names p.1.1 }

-- an exception that may be raised, before what it keeps is looked up
abbrev pub raising_numbered : List Letters → Raising → types.Raised
raising_numbered exceptions r = record { exception = place_of exceptions r.0; kept = [] }

module _ (names exceptions : List Letters) where
  abbrev pub raising_meant : List Param → Raising → types.Raised
  raising_meant params r = record { exception = place_of exceptions r.0; kept = kept_places 0 (map (λ p. p.1.0) params) r.1 }

  abbrev pub meant_call : List Param → List Raising → types.Shape
  meant_call params raises = types.callmessage (map (parameter_meant names) params) (map (raising_meant params) raises)

  -- The shape with numbers in place of names, without a table's key, an inport's facts and what exceptions keep. A name that is
  -- not there has the number of all names, which is no type's and no exception's.
  abbrev pub numbered_shape : Shape → types.Shape
  numbered_shape (Names values) = types.names (length values)
  numbered_shape (Fields fs) = types.fields (map (λ f. place_of names f.1) fs)
  numbered_shape (Cases cs) = types.cases (map (λ c. place_of names c.1) cs)
  numbered_shape (Rows row keys) = types.rows (place_of names row) []
  numbered_shape (Inport message facts) = types.inport (place_of names message) []
  numbered_shape (Outport port) = types.outport (place_of names port)
  numbered_shape (CallMessage params raises) = types.callmessage (map (parameter_meant names) params) (map (raising_numbered exceptions) raises)

-- the names of all types and exceptions, predefined ones first
abbrev pub type_names : List Placed → List Letters
type_names items = predefined_names ++ map (λ d. d.0) (types_in items)

abbrev pub exception_names : List Placed → List Letters
exception_names items = predefined_exception_names ++ exceptions_in items

-- The definitions by number, before keys, declared facts and kept parameters are looked up in it. A name that is defined twice means its
-- first definition, and the later one has a number too.
abbrev pub outline : List Placed → NamedTable
outline items = behind_predefined (record {
  names = map (λ d. d.0) (types_in items);
  shapes = map (λ d. numbered_shape (type_names items) (exception_names items) d.1) (types_in items);
  parts = map (λ d. part_names d.1) (types_in items);
  exceptions = exceptions_in items;
})

-- The facts that a declared fact lists, for a message of a type: none where its path names no field, as no text has it.
abbrev pub fact_meant : NamedTable → ℕ → DeclaredFact → List Fact
fact_meant table message (InitFact p) = at_end (walk_fields table message p) (λ places t. init (0 ∷ places) ∷ [])
fact_meant table message (FullFact p) = at_end (walk_fields table message p) (λ places t. full_facts table.shapes t (0 ∷ places))
fact_meant table message (CaseFact p c) = at_end (walk_fields table message p) (λ places t. case (0 ∷ places) (place_of (parts_of table t) c) ∷ [])

-- The shape with its key, its declared facts and its kept parameters, which are looked up in an outline. Declared facts say a set: each
-- fact stands once, where it is listed first.
abbrev pub meant_shape : NamedTable → Shape → types.Shape
meant_shape table (Rows row keys) = types.rows (place_of table.names row) (map (place_of (parts_of table (place_of table.names row))) keys)
meant_shape table (Inport message facts) = types.inport (place_of table.names message) (without_repeats (flat_map (fact_meant table (place_of table.names message)) facts))
meant_shape table (CallMessage params raises) = meant_call table.names table.exceptions params raises
meant_shape table s = numbered_shape table.names table.exceptions s

-- The table that definitions without a fault mean. Language reference, "Types".
abbrev pub meaning : List Placed → NamedTable
meaning items = behind_predefined (record {
  names = map (λ d. d.0) (types_in items);
  shapes = map (λ d. meant_shape (outline items) d.1) (types_in items);
  parts = map (λ d. part_names d.1) (types_in items);
  exceptions = exceptions_in items;
})
