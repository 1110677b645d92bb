-- The types of the code's variables, by number.
use Rattle.std.specs.Prelude.{◌≡◌, ℕ, List, map, Option, option_map}
use Rattle.herm_base.specs.declared.numbers.TypeNo.{TypeNo}
use Rattle.herm_meaning.specs.Names.{NamedTable}
use Rattle.herm_code_machine.specs.ReadyCode.{ReadyCode}

abbrev pub number_of : Option TypeNo → Option ℕ
number_of t = option_map (λ (t : TypeNo). t.0) t

abbrev pub numbers_of : List TypeNo → List ℕ
numbers_of ts = map (λ (t : TypeNo). t.0) ts

-- the code has these types, and variables of these types
abbrev pub IsOf : NamedTable → List TypeNo → ReadyCode → Type 0
IsOf types variables c = (c.scope.types ≡ types.shapes) × (c.scope.variables ≡ numbers_of variables)
