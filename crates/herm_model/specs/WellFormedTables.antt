-- Well-formed tables: the rules that definitions of types keep, over numbers in place of names.
use Rattle.std.specs.Prelude.{ℕ, ◌<◌, ◌≤◌, List, [], ◌∷◌, ◌++◌, map, length, Bool, true, false, Option, Some, None, is_some, slice_get, option_and_then, IsTrue, ◌⊎◌, ⊤, ◌≡◌}
use Rattle.herm_model.specs.Lists.{IsIn, all_pass, list_of}
use Rattle.herm_model.specs.Paths.{Path, Fact, init, case}
use Rattle.herm_model.specs.Types.{by_in, Parameter, Raised, Shape, boolean, integer, text, polymorph, fields, cases, rows, inport, outport, callmessage, TypeTable, predefined, named_types, is_within_depth, greatest_depth, all_parts, part_paths}
use Rattle.herm_model.specs.Copyable.{IsCopyable}
use Rattle.herm_model.specs.Facts.{full_facts}
use Rattle.herm_model.specs.Calls.{is_returned}
use Rattle.herm_model.specs.Outcomes.{disconnected}
use Rattle.herm_model.specs.Statements.{Differ}
use Rattle.herm_model.specs.laws.FlowLaws.{Rise}
use Rattle.herm_model.specs.TypedExpressions.{is_scalar_shape, HasShape}

-- so many exceptions are predefined; those of the program follow
abbrev pub predefined_exceptions : ℕ
predefined_exceptions = 7

-- the greatest number of paths of a type
abbrev pub greatest_paths : ℕ
greatest_paths = 1024

-- the shapes that a definition can give
abbrev pub is_definable : Shape → Bool
is_definable boolean = false
is_definable integer = false
is_definable text = false
is_definable polymorph = false
is_definable s = true

-- The predefined types come first, and then those that are defined. Language reference, "Predefined types".
abbrev pub BeginsPredefined : TypeTable → Type 0
BeginsPredefined table = (defined : TypeTable) × (table ≡ predefined ++ defined) × IsTrue (all_pass is_definable defined)

-- The first type reaches the second by the names in shapes. Language reference, "Rules of definitions".
pub data Reaches (table : TypeTable) : ℕ → ℕ → Type 0 where
  at_once : (t u : ℕ) → IsIn u (list_of named_types (slice_get table t)) → Reaches table t u
  further : (t u v : ℕ) → IsIn u (list_of named_types (slice_get table t)) → Reaches table u v → Reaches table t v

-- the type of the record's field at a place
abbrev pub field_type : Shape → ℕ → Option ℕ
field_type (fields ts) i = slice_get ts i
field_type s i = None

-- the type at the end of these steps from a type through record fields alone
abbrev pub field_below : TypeTable → Option ℕ → List ℕ → Option ℕ
field_below table t [] = t
field_below table t (i ∷ p) = field_below table (option_and_then (λ s. field_type s i) (option_and_then (slice_get table) t)) p

module _ (table : TypeTable) where
  -- the number is a type's
  abbrev pub IsType : ℕ → Type 0
  IsType t = IsTrue (is_some (slice_get table t))

  -- it holds of the shape of every type
  abbrev pub OfEachShape : (Shape → Type 0) → Type 0
  OfEachShape P = (t : ℕ) (s : Shape) → HasShape table t s → P s

  -- Each number names a type. Language reference, "Rules of definitions".
  abbrev pub NamesTypes : Shape → Type 0
  NamesTypes s = (t : ℕ) → IsIn t (named_types s) → IsType t

  -- it is the place of a scalar field
  abbrev pub IsScalarField : List ℕ → ℕ → Type 0
  IsScalarField ts i = (t : ℕ) × (s : Shape) × (slice_get ts i ≡ Some t) × HasShape table t s × IsTrue (is_scalar_shape s)

  -- A table's rows are of a record type, and its key is a list of different scalar fields of it.
  -- Language reference, "Rules of definitions".
  abbrev pub HasKey : Shape → Type 0
  HasKey (rows row key) = (ts : List ℕ) × HasShape table row (fields ts) × Differ key × ((i : ℕ) → IsIn i key → IsScalarField ts i)
  HasKey s = ⊤

  -- An outport leads to an inport type. Language reference, "Rules of definitions".
  abbrev pub LeadsToInport : Shape → Type 0
  LeadsToInport (outport port) = (message : ℕ) × (declared : List Fact) × HasShape table port (inport message declared)
  LeadsToInport s = ⊤

  -- A parameter of mode `in` is copyable. Language reference, "Rules of definitions".
  abbrev pub CopiesInputs : Shape → Type 0
  CopiesInputs (callmessage parameters raises) = (p : Parameter) → IsIn p parameters → p.mode ≡ by_in → IsCopyable table p.content
  CopiesInputs s = ⊤

  module _ (message : ℕ) where
    -- The path of a message, which is variable 0, leads through record fields, of which there is one at least, to the type.
    -- Language reference, "Declared facts".
    abbrev pub IsFieldPath : Path → ℕ → Type 0
    IsFieldPath [] t = ⊥
    IsFieldPath (v ∷ []) t = ⊥
    IsFieldPath (v ∷ i ∷ q) t = (v ≡ 0) × (field_below table (Some message) (i ∷ q) ≡ Some t)

    -- what `init` and `case` may say: a value at a field, and a component of a variant there
    abbrev pub IsOfField : Fact → Type 0
    IsOfField (init p) = (t : ℕ) × IsFieldPath p t
    IsOfField (case p c) = (t : ℕ) × (ts : List ℕ) × IsFieldPath p t × HasShape table t (cases ts) × c < length ts

    -- what `full` may say: the facts of a full value at a field, which are then all listed
    abbrev pub IsOfFullField : List Fact → Fact → Type 0
    IsOfFullField declared f = (p : Path) × (t : ℕ) × IsFieldPath p t × IsIn f (full_facts table t p) × ((g : Fact) → IsIn g (full_facts table t p) → IsIn g declared)

  -- A declared fact is of record fields of the message, or of a variant there. Language reference, "Declared facts".
  abbrev pub DeclaresFields : Shape → Type 0
  DeclaresFields (inport message declared) = (f : Fact) → IsIn f declared → IsOfField message f ⊎ IsOfFullField message declared f
  DeclaresFields s = ⊤

-- No two different cases of one path are declared. Language reference, "Declared facts".
abbrev pub DeclaresOneCase : Shape → Type 0
DeclaresOneCase (inport message declared) = (p : Path) (c d : ℕ) → IsIn (case p c) declared → IsIn (case p d) declared → c ≡ d
DeclaresOneCase s = ⊤

-- The exceptions that a callmessage may raise are there, and are different ones.
-- Language reference, "Rules of definitions".
abbrev pub RaisesKnown : (exceptions : ℕ) → Shape → Type 0
RaisesKnown exceptions (callmessage parameters raises) = (r : Raised) → IsIn r raises → r.exception < exceptions
RaisesKnown exceptions s = ⊤

abbrev pub RaisesDifferent : Shape → Type 0
RaisesDifferent (callmessage parameters raises) = Differ (map (λ r. r.exception) raises)
RaisesDifferent s = ⊤

-- The parameters that an exception keeps are of mode `inout` or `out`, by rising place; Disconnected keeps none.
-- Language reference, "Rules of definitions".
abbrev pub KeepsReturned : Shape → Type 0
KeepsReturned (callmessage parameters raises) = (r : Raised) → IsIn r raises → (i : ℕ) → IsIn i r.kept → (p : Parameter) × (slice_get parameters i ≡ Some p) × IsTrue (is_returned p.mode)
KeepsReturned s = ⊤

abbrev pub KeepsRising : Shape → Type 0
KeepsRising (callmessage parameters raises) = (r : Raised) → IsIn r raises → Rise r.kept
KeepsRising s = ⊤

abbrev pub KeepsNoneDisconnected : Shape → Type 0
KeepsNoneDisconnected (callmessage parameters raises) = (r : Raised) → IsIn r raises → r.exception ≡ disconnected → r.kept ≡ []
KeepsNoneDisconnected s = ⊤

-- A table of types that keeps the rules, where there are so many exceptions: a part for each rule.
-- Language reference, "Rules of definitions".
pub record IsWellFormedTable (exceptions : ℕ) (table : TypeTable) : Type 0 where
  pub predefined_types : BeginsPredefined table
  pub enough_exceptions : predefined_exceptions ≤ exceptions
  pub types_known : OfEachShape table (NamesTypes table)
  pub exceptions_known : OfEachShape table (RaisesKnown exceptions)
  pub exceptions_differ : OfEachShape table RaisesDifferent
  pub acyclic : (t : ℕ) → Reaches table t t → ⊥
  pub shallow : (t : ℕ) → IsType table t → IsTrue (is_within_depth greatest_depth table t)
  pub few_paths : (t : ℕ) → IsType table t → length (part_paths all_parts table t) ≤ greatest_paths
  pub keys : OfEachShape table (HasKey table)
  pub outports : OfEachShape table (LeadsToInport table)
  pub inputs_copyable : OfEachShape table (CopiesInputs table)
  pub facts_of_fields : OfEachShape table (DeclaresFields table)
  pub one_case : OfEachShape table DeclaresOneCase
  pub kept_returned : OfEachShape table KeepsReturned
  pub kept_rising : OfEachShape table KeepsRising
  pub kept_disconnected : OfEachShape table KeepsNoneDisconnected
