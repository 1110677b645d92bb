-- Names beside the shapes of types, which know numbers alone.
use Rattle.std.specs.Prelude.{ℕ, List, [], ◌∷◌, ◌++◌, map, length, codes, slice_get, Some, ◌≡◌}
use Rattle.herm_model.specs.Types.{Shape, names, fields, cases, callmessage, TypeTable, predefined}
use Rattle.herm_model.specs.Statements.{Differ}
use Rattle.herm_model.specs.WellFormedTables.{IsWellFormedTable}
use Rattle.herm_syntax.specs.Trees.{Letters}

-- A table of types with the names of its types, its parts and its exceptions, each by number. The names of the
-- parts of a type are those of its enumeration values, fields, components or parameters, by place.
-- Language reference, "Types".
pub record NamedTable : Type 0 where
  pub names : List Letters
  pub shapes : TypeTable
  pub parts : List (List Letters)
  pub exceptions : List Letters

-- The names of the predefined types, by number. Language reference, "Predefined types".
abbrev pub predefined_names : List Letters
predefined_names = codes "boolean" ∷ codes "integer" ∷ codes "string" ∷ codes "polymorph" ∷ codes "console" ∷ codes "console_out" ∷ codes "main_message" ∷ codes "main_start" ∷ []

-- the names of their parts: only the start message has fields
abbrev pub predefined_parts : List (List Letters)
predefined_parts = [] ∷ [] ∷ [] ∷ [] ∷ [] ∷ [] ∷ (codes "arg" ∷ codes "out" ∷ []) ∷ [] ∷ []

-- The names of the predefined exceptions, by number. Language reference, "Exceptions".
abbrev pub predefined_exception_names : List Letters
predefined_exception_names = codes "Overflow" ∷ codes "Depletion" ∷ codes "CaseError" ∷ codes "PolymorphMismatch" ∷ codes "DuplicateKey" ∷ codes "NotFound" ∷ codes "Disconnected" ∷ []

-- The predefined types and exceptions, and then these. Language reference, "Predefined types".
abbrev pub behind_predefined : NamedTable → NamedTable
behind_predefined t = record {
  names = predefined_names ++ t.names;
  shapes = predefined ++ t.shapes;
  parts = predefined_parts ++ t.parts;
  exceptions = predefined_exception_names ++ t.exceptions;
}

-- how many names a type's parts have
abbrev pub part_count : Shape → ℕ
part_count (names count) = count
part_count (fields ts) = length ts
part_count (cases ts) = length ts
part_count (callmessage ps raises) = length ps
part_count s = 0

-- A table with names that keeps the rules of definitions: its numbers are a well-formed table, its names differ, and
-- each part has a name that differs from those of its type's other parts. Language reference, "Rules of definitions".
pub record IsWellNamed (t : NamedTable) : Type 0 where
  pub begins : (defined : NamedTable) × (t ≡ behind_predefined defined)
  pub well_formed : IsWellFormedTable (length t.exceptions) t.shapes
  pub name_each : length t.names ≡ length t.shapes
  pub part_each : map length t.parts ≡ map part_count t.shapes
  pub names_differ : Differ t.names
  pub exceptions_differ : Differ t.exceptions
  pub parts_differ : (t' : ℕ) (ps : List Letters) → slice_get t.parts t' ≡ Some ps → Differ ps
