-- A type that the table lacks has no facts.
use Rattle.std.proofs.Common.{◌≡◌, ℕ, zero, suc, ◌≤◌, List, [], length, map, None, slice_get, refl, ap, ◌++◌}
use Rattle.std.proofs.lemmas.Option.{slice_get_past}
use Rattle.herm_model.specs.Paths.{Path, init}
use Rattle.herm_model.specs.Types.{TypeTable, Shape, full_parts, part_paths_within, greatest_depth}
use Rattle.herm_model.specs.Facts.{full_facts}

no-paths : (parts : Shape → List (ℕ × ℕ)) (n : ℕ) (table : TypeTable) (t : ℕ) → slice_get table t ≡ None → part_paths_within parts n table t ≡ []
no-paths parts zero table t e = refl
no-paths parts (suc n) table t e = rw e refl

pub none_full : (table : TypeTable) (t : ℕ) (p : Path) → length table ≤ t → full_facts table t p ≡ []
none_full table t p past = ap (map (λ q. init (p ++ q))) (no-paths full_parts greatest_depth table t (slice_get_past table t past))
