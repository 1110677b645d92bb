-- What a table of types of the code stands for, and what it keeps.
use Rattle.std.specs.Prelude.{ℕ, List, [], ◌∷◌, map, Bool, true, false, slice_get, Some, ◌≡◌, ◌↔◌, ◌&&◌, ◌||◌, IsTrue, length, ◌<◌, ◌^◌}
use Rattle.herm_model.specs.Types as types
use Rattle.herm_model.specs.Copyable as copyable
use Rattle.herm_model.specs.Lists.{map_or, all_pass}
use Rattle.herm_syntax.specs.Trees.{Letters}
use Rattle.herm_meaning.specs.Names.{NamedTable, behind_predefined, IsWellNamed}
use Rattle.std.specs.declared.vec.Vec.{Vec}
use Rattle.std.specs.declared.alloc.Global.{Global}
use Rattle.herm_types.specs.declared.fact.Fact.{Fact}
use Rattle.herm_types.specs.declared.shape.Shape.{Shape}
use Rattle.herm_types.specs.declared.table.TypeTable.TheInside.{Inside}
use Rattle.herm_types.specs.View.{shape_view, parts_view, fact_view}
use Rattle.herm_types.specs.Messages.{closed_list_of}

-- the shapes of the model
abbrev pub shapes_view : List Shape → types.TypeTable
shapes_view shapes = map shape_view shapes

-- the table with these names of types, shapes and names of exceptions
abbrev pub table_of : List Letters → List Shape → List Letters → NamedTable
table_of names shapes exceptions = record { names = names; shapes = map shape_view shapes; parts = map parts_view shapes; exceptions = exceptions }

-- the table with the predefined types and exceptions and then these
abbrev pub defined_table : List (Letters × Shape) → List Letters → NamedTable
defined_table defined exceptions = behind_predefined (table_of (map (λ d. d.0) defined) (map (λ d. d.1) defined) exceptions)

abbrev pub type_table_view : Inside → NamedTable
type_table_view a = table_of a.names.items a.shapes.items a.exceptions.items

-- what a list of tests says of a type
abbrev pub says : List Bool → ℕ → Bool
says tests t = map_or false (λ b. b) (slice_get tests t)

-- whether a type of this shape is copyable where the tests say it of the types that it names
abbrev pub copies : List Bool → types.Shape → Bool
copies tests s = copyable.is_plain s || (copyable.is_composed s && all_pass (says tests) (types.named_types s))

-- the tests say which types are copyable within so many types on the way
abbrev pub SayCopyable : ℕ → types.TypeTable → List Bool → Type 0
SayCopyable n table tests = (t : ℕ) → says tests t ≡ copyable.is_copyable_within n table t

-- each type has what is closed of what it lists
abbrev pub AreDeclared : List Shape → List (Vec Fact Global) → Type 0
AreDeclared shapes declared = map (λ v. map fact_view v.items) declared ≡ map (λ s. closed_list_of (shapes_view shapes) (shape_view s)) shapes

-- the numbers of types are of 32 bits, and those of each type's parts
pub record IsSized (t : NamedTable) : Type 0 where
  pub few : length t.shapes < 2 ^ 32
  pub few_parts : (t' : ℕ) (names : List Letters) → slice_get t.parts t' ≡ Some names → length names < 2 ^ 32

-- A table is well formed, its names are found by their bytes, its tests say which types are copyable, and what each type
-- lists is closed.
pub record IsKept (a : Inside) : Type 0 where
  pub well_named : IsWellNamed (type_table_view a)
  pub sized : IsSized (type_table_view a)
  pub tested : length a.copyable.items ≡ length a.shapes.items
  pub indexed : map (λ k. k.items) a.index.keys ≡ a.names.items
  pub copyable : SayCopyable types.greatest_depth (shapes_view a.shapes.items) a.copyable.items
  pub declared : AreDeclared a.shapes.items a.declared.items
