-- Parts that are gone through, and paths through them.
use Rattle.std.specs.Prelude.{ℕ, List, [], ◌∷◌, ◌++◌, map, flat_map, length, slice_get, Some, ◌≡◌, ◌<◌, ◌^◌, IsTrue}
use Rattle.herm_model.specs.Types as types
use Rattle.herm_base.specs.declared.numbers.TypeNo.{TypeNo}
use Rattle.std.specs.declared.vec.Vec.{Vec}
use Rattle.std.specs.declared.alloc.Global.{Global}
use Rattle.herm_types.specs.declared.shape.Shape.{Shape}
use Rattle.herm_types.specs.declared.shape.Shape.TheVariants.{Fields, Cases, CallMessage}
use Rattle.herm_types.specs.declared.paths.Choice.{Choice}
use Rattle.herm_types.specs.declared.paths.Choice.TheVariants.{All, Full}

-- a part's place and type
abbrev pub part_seen : ℕ × TypeNo → ℕ × ℕ
part_seen p = (p.0, p.1.0)

abbrev pub chosen : Choice → types.Shape → List (ℕ × ℕ)
chosen All = types.all_parts
chosen Full = types.full_parts

-- the paths that go on from a path through each of these parts, of at most so many types on the way
abbrev pub onward : Choice → ℕ → types.TypeTable → List ℕ → List (ℕ × ℕ) → List (List ℕ)
onward choice n table at parts = flat_map (λ part. map ((at ++ part.0 ∷ []) ++◌) (types.part_paths_within (chosen choice) n table part.1)) parts

-- how many parts a shape has
abbrev pub width : Shape → ℕ
width (Fields fs) = length fs.items
width (Cases cs) = length cs.items
width (CallMessage params raises) = length params.items
width s = 0

-- no type has more parts than there are numbers for
abbrev pub FewParts : List Shape → Type 0
FewParts shapes = (t : ℕ) (s : Shape) → slice_get shapes t ≡ Some s → width s < 2 ^ 32

-- lists of numbers without where they lie
abbrev pub lists : List (Vec ℕ Global) → List (List ℕ)
lists vs = map (λ v. v.items) vs

-- the type's depth is within the limit; not unfolded, since the limit is a large number for a recursion
unfoldable pub IsShallow : types.TypeTable → ℕ → Type 0
IsShallow table t = IsTrue (types.is_within_depth types.greatest_depth table t)

-- the paths through chosen parts
unfoldable pub paths_through : Choice → types.TypeTable → ℕ → List (List ℕ)
paths_through c table t = types.part_paths (chosen c) table t
