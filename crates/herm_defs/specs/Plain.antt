-- Tests of shapes, keys and kept parameters.
use Rattle.std.specs.Prelude.{ℕ, List, map, Bool, true, false, ◌||◌, ◌&&◌, not, nat_eq, length, slice_get}
use Rattle.std.specs.List.{list_any}
use Rattle.herm_model.specs.Lists.{map_or}
use Rattle.herm_model.specs.Types.{Shape, TypeTable, fields, inport}
use Rattle.herm_model.specs.TypedExpressions.{is_scalar_shape}
use Rattle.herm_model.specs.Outcomes.{disconnected}
use Rattle.herm_syntax.specs.Trees.{Letters, Param, Mode, In, Inout, Out, Raising}
use Rattle.herm_meaning.specs.Walks.{place_of}

abbrev pub is_record : Shape → Bool
is_record (fields ts) = true
is_record s = false

abbrev pub is_inport : Shape → Bool
is_inport (inport message declared) = true
is_inport s = false

-- what a test of shapes says of a type, and of one that is not there that it fails
abbrev pub passes : (Shape → Bool) → TypeTable → ℕ → Bool
passes test table t = map_or false test (slice_get table t)

-- the part at a place of a record is none, or one whose type is known and no scalar
abbrev pub no_key : TypeTable → Shape → ℕ → Bool
no_key table (fields ts) i = map_or true (λ t. passes (λ s. not (is_scalar_shape s)) table t) (slice_get ts i)
no_key table s i = false

-- ---- kept parameters

abbrev pub comes_back : Mode → Bool
comes_back In = false
comes_back Inout = true
comes_back Out = true

abbrev pub not_returned : List Param → Letters → Bool
not_returned params k = not (map_or false (λ p. comes_back p.0) (slice_get params (place_of (map (λ p. p.1.0) params) k)))

abbrev pub keeps_badly : List Letters → List Param → Raising → Bool
keeps_badly exceptions params r = (nat_eq (place_of exceptions r.0) disconnected && not (nat_eq (length r.1) 0)) || list_any (not_returned params) r.1

abbrev pub any_keeps_badly : List Letters → List Param → List Raising → Bool
any_keeps_badly exceptions params raises = list_any (keeps_badly exceptions params) raises
