-- When a `case` names the components of its variant.
use Rattle.std.specs.Prelude.{ℕ, List, ◌↔◌, ⊤}
use Rattle.herm_model.specs.Lists.{IsIn, map_or, range}
use Rattle.herm_model.specs.Types.{TypeTable}
use Rattle.herm_model.specs.Facts.{component_count}
use Rattle.herm_model.specs.Statements.{Form, Case}
use Rattle.herm_model.specs.Calls.{shape_at}

-- a `case` names each component of its variant, and no other
abbrev pub NamesAll : TypeTable → (variables : List ℕ) → Form → Type 0
NamesAll types variables (Case v components) = (c : ℕ) → IsIn c (range 0 (map_or 0 component_count (shape_at types variables v))) ↔ IsIn c components
NamesAll types variables form = ⊤
