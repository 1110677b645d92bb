-- Types by number, where there may be none, and what inport types list.
use Rattle.std.specs.Prelude.{ℕ, List, [], ◌∷◌, Option, Some, option_map, slice_get, flat_map, ◌≡◌}
use Rattle.herm_model.specs.Lists.{list_of}
use Rattle.herm_model.specs.Paths.{Fact, init}
use Rattle.herm_model.specs.Types.{TypeTable, Shape, inport}
use Rattle.herm_model.specs.Facts.{with_prefixes, without_repeats, message_of}
use Rattle.herm_base.specs.declared.numbers.TypeNo.{TypeNo}

abbrev pub number_of : Option TypeNo → Option ℕ
number_of o = option_map (λ t. t.0) o

-- the type is an inport type
abbrev pub IsInport : TypeTable → ℕ → Type 0
IsInport table t = (message : ℕ) × (declared : List Fact) × (slice_get table t ≡ Some (inport message declared))

-- `init` of a message at variable 0 and the listed facts, each behind those before it, without repeats
abbrev pub closed_list : TypeTable → ℕ → List Fact → List Fact
closed_list table message listed = without_repeats (init (0 ∷ []) ∷ flat_map (with_prefixes table (message ∷ [])) listed)

-- that of what an inport type lists; nothing of another type
abbrev pub closed_list_of : TypeTable → Shape → List Fact
closed_list_of table s = list_of (λ m. closed_list table m.0 m.1) (message_of s)
