-- Types whose values may be copied. Language reference, "Copyable types".
use Rattle.std.specs.Prelude.{ℕ, zero, suc, Bool, true, false, ◌||◌, ◌&&◌, Some, slice_get, ◌≡◌, IsTrue}
use Rattle.herm_model.specs.Lists.{map_or, all_pass, IsIn}
use Rattle.herm_model.specs.Types.{Shape, boolean, integer, text, names, fields, cases, rows, outport, TypeTable, named_types}

-- a type whose values are one cell and may be copied
abbrev pub is_plain : Shape → Bool
is_plain boolean = true
is_plain integer = true
is_plain text = true
is_plain (names count) = true
is_plain (outport port) = true
is_plain s = false

-- a type that is copyable where all its parts are
abbrev pub is_composed : Shape → Bool
is_composed (fields ts) = true
is_composed (cases ts) = true
is_composed (rows row key) = true
is_composed s = false

-- The smallest set that has the scalars and the outports, and a record, variant or table where it has all its parts.
-- Language reference, "Copyable types".
pub data IsCopyable (table : TypeTable) : ℕ → Type 0 where
  plain : (t : ℕ) (s : Shape) → slice_get table t ≡ Some s → IsTrue (is_plain s) → IsCopyable table t
  composed : (t : ℕ) (s : Shape) → slice_get table t ≡ Some s → IsTrue (is_composed s) → ((u : ℕ) → IsIn u (named_types s) → IsCopyable table u) → IsCopyable table t

-- the same as a test, for types of at most this depth; a law says so
abbrev pub is_copyable_within : ℕ → TypeTable → ℕ → Bool
is_copyable_within zero table t = false
is_copyable_within (suc n) table t = map_or false (λ s. is_plain s || (is_composed s && all_pass (is_copyable_within n table) (named_types s))) (slice_get table t)
