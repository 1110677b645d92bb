-- Types by shape and number, their parts, depth and paths.
use Rattle.std.specs.Prelude.{ℕ, zero, suc, List, [], ◌∷◌, map, Bool, true, false, ◌||◌, is_some, Option, Some, None, option_map, slice_get, flat_map, IsTrue}
use Rattle.herm_model.specs.Lists.{map_or, numbered, all_pass, list_of, IsIn}
use Rattle.herm_model.specs.Paths.{Path, Fact}

-- how a parameter of a callmessage travels
pub data Mode : Type 0 where
  by_in by_inout by_out : Mode

-- a parameter of a callmessage, by its mode and the number of its type
pub record Parameter : Type 0 where
  pub mode : Mode
  pub content : ℕ

-- an exception that a callmessage may raise, with the places of the parameters that it keeps, rising
pub record Raised : Type 0 where
  pub exception : ℕ
  pub kept : List ℕ

-- Names of types and of parts are not kept: a type is its number in the table, a part its place from 0 on.
-- Language reference, "Types".
pub data Shape : Type 0 where
  boolean integer text polymorph : Shape
  -- an enumeration of so many names
  names : (count : ℕ) → Shape
  -- a record, by the types of its fields
  fields : List ℕ → Shape
  -- a variant, by the types of its components
  cases : List ℕ → Shape
  -- a table, by the type of its rows and the fields of its key
  rows : (row : ℕ) → (key : List ℕ) → Shape
  -- an inport, by the type of its messages and the facts at which they travel, where the message is variable 0;
  -- an empty list stands for none written
  inport : (message : ℕ) → (declared : List Fact) → Shape
  -- an outport, by the inport type that it leads to
  outport : (port : ℕ) → Shape
  callmessage : List Parameter → List Raised → Shape

-- the shapes by number
abbrev pub TypeTable : Type 0
TypeTable = List Shape

-- The eight types that are there without a definition, by their numbers. Language reference, "Predefined types".
abbrev pub predefined : TypeTable
predefined = boolean ∷ integer ∷ text ∷ polymorph ∷ inport 2 [] ∷ outport 4 ∷ fields (2 ∷ 5 ∷ []) ∷ inport 6 [] ∷ []

-- the types that a type names
abbrev pub named_types : Shape → List ℕ
named_types (fields ts) = ts
named_types (cases ts) = ts
named_types (rows row key) = row ∷ []
named_types (inport message declared) = message ∷ []
named_types (outport port) = port ∷ []
named_types (callmessage ps raises) = map (λ p. p.content) ps
named_types s = []

-- The type's depth is at most n. A type that names none has depth 1, any other one more than the deepest that it
-- names. Language reference, "Limits".
abbrev pub is_within_depth : ℕ → TypeTable → ℕ → Bool
is_within_depth zero table t = false
is_within_depth (suc n) table t = map_or false (λ s. all_pass (is_within_depth n table) (named_types s)) (slice_get table t)

-- the greatest depth of a type
abbrev pub greatest_depth : ℕ
greatest_depth = 32

-- the type of the part at a place
abbrev pub part_type : Shape → ℕ → Option ℕ
part_type (fields ts) i = slice_get ts i
part_type (cases ts) i = slice_get ts i
part_type (callmessage ps raises) i = option_map (λ p. p.content) (slice_get ps i)
part_type s i = None

-- the type of the part at a place, where there is such a type and such a part
abbrev pub part_of : TypeTable → Option ℕ → ℕ → Option ℕ
part_of table None i = None
part_of table (Some t) i = map_or None (λ s. part_type s i) (slice_get table t)

-- the type at the end of these steps from a type
abbrev pub type_below : TypeTable → Option ℕ → List ℕ → Option ℕ
type_below table t [] = t
type_below table t (i ∷ p) = type_below table (part_of table t i) p

-- The type at a path, where the variables have these types. Language reference, "Paths".
abbrev pub type_at : TypeTable → List ℕ → Path → Option ℕ
type_at table variables [] = None
type_at table variables (v ∷ p) = type_below table (slice_get variables v) p

-- whether the type is a variant
abbrev pub is_cases : Shape → Bool
is_cases (cases ts) = true
is_cases s = false

abbrev pub is_variant : TypeTable → Option ℕ → Bool
is_variant table None = false
is_variant table (Some t) = map_or false (λ s. is_cases s) (slice_get table t)

-- whether some step is from a variant to one of its components
abbrev pub enters_component : TypeTable → Option ℕ → List ℕ → Bool
enters_component table t [] = false
enters_component table t (i ∷ p) = is_variant table t || enters_component table (part_of table t i) p

-- whether a path passes through a component, where the variables have these types; Language reference, "Paths"
abbrev pub passes_component : TypeTable → List ℕ → Path → Bool
passes_component table variables [] = false
passes_component table variables (v ∷ p) = enters_component table (slice_get variables v) p

-- a parameter's place and type in front of more, where its mode is one that the caller fills
abbrev pub if_filled : Mode → ℕ × ℕ → List (ℕ × ℕ) → List (ℕ × ℕ)
if_filled by_in x xs = x ∷ xs
if_filled by_inout x xs = x ∷ xs
if_filled by_out x xs = xs

-- the places and types of the parameters that a caller fills, which are those of mode in and inout
abbrev pub filled : ℕ → List Parameter → List (ℕ × ℕ)
filled i [] = []
filled i (p ∷ ps) = if_filled p.mode (i, p.content) (filled (suc i) ps)

-- The parts that a full value has and that have facts of their own, with their types. Language reference, "Facts".
abbrev pub full_parts : Shape → List (ℕ × ℕ)
full_parts (fields ts) = numbered 0 ts
full_parts (callmessage ps raises) = filled 0 ps
full_parts s = []

-- the parts that may hold a value with a fact of its own: fields, and parameters of every mode
abbrev pub held_parts : Shape → List (ℕ × ℕ)
held_parts (fields ts) = numbered 0 ts
held_parts (callmessage ps raises) = numbered 0 (map (λ p. p.content) ps)
held_parts s = []

-- fields, components and parameters; Language reference, "Limits"
abbrev pub all_parts : Shape → List (ℕ × ℕ)
all_parts (fields ts) = numbered 0 ts
all_parts (cases ts) = numbered 0 ts
all_parts (callmessage ps raises) = numbered 0 (map (λ p. p.content) ps)
all_parts s = []

-- Parts are chosen by one of the three functions above. These steps lead from the type through chosen parts alone.
abbrev pub IsPartPath : (Shape → List (ℕ × ℕ)) → TypeTable → ℕ → List ℕ → Type 0
IsPartPath parts table t [] = IsTrue (is_some (slice_get table t))
IsPartPath parts table t (i ∷ p) = (u : ℕ) × IsIn (i, u) (list_of parts (slice_get table t)) × IsPartPath parts table u p

-- the steps through chosen parts from a type, of at most so many types on the way: the type itself, and then those
-- that begin with each part in order
abbrev pub part_paths_within : (Shape → List (ℕ × ℕ)) → ℕ → TypeTable → ℕ → List (List ℕ)
part_paths_within parts zero table t = []
part_paths_within parts (suc n) table t = map_or [] (λ s. [] ∷ flat_map (λ part. map (part.0 ∷◌) (part_paths_within parts n table part.1)) (parts s)) (slice_get table t)

-- all of them; a law says that they are those that lead, where the type's depth is within the limit
abbrev pub part_paths : (Shape → List (ℕ × ℕ)) → TypeTable → ℕ → List (List ℕ)
part_paths parts table t = part_paths_within parts greatest_depth table t

-- each variable's paths through chosen parts, by variables and then by parts
abbrev pub variable_paths : (Shape → List (ℕ × ℕ)) → TypeTable → List ℕ → List Path
variable_paths parts table variables = flat_map (λ v. map (v.0 ∷◌) (part_paths parts table v.1)) (numbered 0 variables)
