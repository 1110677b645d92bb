-- The definitions of a program in the order of its text.
use Rattle.std.specs.Prelude.{ℕ, suc, List, [], ◌∷◌, ◌++◌, map}
use Rattle.herm_syntax.specs.declared.definitions.DefForm.{DefForm}
use Rattle.herm_syntax.specs.declared.definitions.DefForm.TheVariants.{Shaped, Exception}
use Rattle.herm_syntax.specs.declared.definitions.DefItem.{DefItem}
use Rattle.herm_syntax.specs.declared.modules.Module.{Module}
use Rattle.herm_syntax.specs.declared.modules.Module.TheVariants.{Definitions, Process}
use Rattle.herm_syntax.specs.Trees.{Letters, Shape}
use Rattle.herm_syntax.specs.View.{name_view, shape_form_view}

-- an item with the number of its module
abbrev pub Placed : Type 0
Placed = ℕ × DefItem

abbrev pub module_items : ℕ → Module → List Placed
module_items n (Definitions name items) = map (λ item. (n, item)) items.items
module_items n (Process name port vars body) = []

-- The items of all definitions modules in order. All modules count for their numbers, processes too.
abbrev pub items_from : ℕ → List Module → List Placed
items_from n [] = []
items_from n (m ∷ ms) = module_items n m ++ items_from (suc n) ms

abbrev pub items_of : List Module → List Placed
items_of modules = items_from 0 modules

-- a type's name and shape
abbrev pub types_by : Letters → DefForm → List (Letters × Shape) → List (Letters × Shape)
types_by name (Shaped shape) rest = (name, shape_form_view shape) ∷ rest
types_by name Exception rest = rest

-- the types that are defined, in order
abbrev pub types_in : List Placed → List (Letters × Shape)
types_in [] = []
types_in (i ∷ rest) = types_by (name_view i.1.name) i.1.form (types_in rest)

abbrev pub exceptions_by : Letters → DefForm → List Letters → List Letters
exceptions_by name (Shaped shape) rest = rest
exceptions_by name Exception rest = name ∷ rest

-- the exceptions that are defined, in order
abbrev pub exceptions_in : List Placed → List Letters
exceptions_in [] = []
exceptions_in (i ∷ rest) = exceptions_by (name_view i.1.name) i.1.form (exceptions_in rest)
