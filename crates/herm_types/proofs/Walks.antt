-- A walk through the parts of a type lists its paths.
use Rattle.std.proofs.Common.{◌≡◌, ◌≤◌, ◌<◌, ◌-◌, ℕ, zero, suc, ◌+◌, List, [], ◌∷◌, ◌++◌, map, flat_map, length, Bool, true, false, Option, Some, None, slice_get, is_some, IsTrue, refl, sym, ◌∙◌, ap, ap₂, subst, inl, inr, arith, append_assoc, append-nil, true≢false, get_or, option_map, take, take_all}
use Rattle.std.proofs.lemmas.Option.{slice_get_within, slice_get-map, slice_get_read}
use Rattle.herm_model.specs.Lists.{IsIn, all_pass, map_or}
use Rattle.herm_model.specs.Types as types
use Rattle.herm_model.specs.Types.{TypeTable, is_within_depth, part_paths_within, named_types}
use Rattle.herm_model.proofs.Lists.{every-in}
use Rattle.herm_base.specs.declared.numbers.TypeNo.{TypeNo}
use Rattle.herm_types.specs.declared.shape.Shape.{Shape}
use Rattle.herm_types.specs.View.{shape_view}
use Rattle.herm_types.specs.Table.{shapes_view}
use Rattle.herm_types.proofs.Tables.{map-length}
use Rattle.herm_types.proofs.Extended.{map-append}
use Rattle.herm_model.proofs.Steps.{IsOfNamed, all-named, full-named, within-known}
use Rattle.herm_types.specs.declared.paths.Choice.{Choice}
use Rattle.herm_types.specs.declared.paths.Choice.TheVariants.{All, Full}
use Rattle.herm_types.specs.Chosen.{chosen, onward, part_seen}

chosen-named : (c : Choice) → IsOfNamed (chosen c)
chosen-named All = all-named
chosen-named Full = full-named

-- a bound on depth is at least 1
pub some-depth : (d : ℕ) (table : TypeTable) (t : ℕ) → IsTrue (is_within_depth d table t) → 1 ≤ d
some-depth zero table t w = absurd (true≢false (sym w))
some-depth (suc d) table t w = omega arith

there : {X : Type 0} (xs : List X) (t : ℕ) → IsTrue (is_some (slice_get xs t)) → t < length xs
there {X = X} xs t h = by (slice_get xs t) refl h
  where
    by : (o : Option X) → slice_get xs t ≡ o → IsTrue (is_some o) → t < length xs
    by None e i = absurd (true≢false (sym i))
    by (Some x) e i = slice_get_within xs t x e

-- a type within a depth is in the table
pub within-there : (d : ℕ) (table : TypeTable) (t : ℕ) → IsTrue (is_within_depth d table t) → t < length table
within-there d table t w = there table t (within-known table d t w)

-- a part's type is within one less
pub part-within : (c : Choice) (d : ℕ) (table : TypeTable) (t : ℕ) (s : types.Shape) (i u : ℕ) → IsTrue (is_within_depth d table t) → slice_get table t ≡ Some s → IsIn (i, u) (chosen c s) → IsTrue (is_within_depth (d - 1) table u)
part-within c zero table t s i u w e h = absurd (true≢false (sym w))
part-within c (suc d) table t s i u w e h =
    let all = subst (λ o. IsTrue (map_or false (λ s'. all_pass (is_within_depth d table) (named_types s')) o)) e w in
    let less : d ≡ suc d - 1 = omega arith in
    subst (λ n. IsTrue (is_within_depth n table u)) less (every-in (is_within_depth d table) u (named_types s) all (chosen-named c s i u h))

pub flat-snoc : {X Y : Type 0} (f : X → List Y) (xs : List X) (x : X) → flat_map f (xs ++ x ∷ []) ≡ flat_map f xs ++ f x
flat-snoc f [] x = append-nil (f x)
flat-snoc f (y ∷ ys) x = ap (f y ++◌) (flat-snoc f ys x) ∙ sym (append_assoc (f y) (flat_map f ys) (f x))

-- one part more
pub onward-more : (c : Choice) (n : ℕ) (table : TypeTable) (at : List ℕ) (xs : List (ℕ × ℕ)) (x : ℕ × ℕ) → onward c n table at (xs ++ x ∷ []) ≡ onward c n table at xs ++ map ((at ++ x.0 ∷ []) ++◌) (part_paths_within (chosen c) n table x.1)
onward-more c n table at xs x = flat-snoc (λ part. map ((at ++ part.0 ∷ []) ++◌) (part_paths_within (chosen c) n table part.1)) xs x

map-flat : {X Y Z : Type 0} (g : Y → Z) (f : X → List Y) (xs : List X) → map g (flat_map f xs) ≡ flat_map (λ x. map g (f x)) xs
map-flat g f [] = refl
map-flat g f (x ∷ xs) = map-append g (f x) (flat_map f xs) ∙ ap (map g (f x) ++◌) (map-flat g f xs)

pub map-map : {X Y Z : Type 0} (g : Y → Z) (f : X → Y) (h : X → Z) (xs : List X) → ((x : X) → g (f x) ≡ h x) → map g (map f xs) ≡ map h xs
map-map g f h [] e = refl
map-map g f h (x ∷ xs) e = ap₂ ◌∷◌ (e x) (map-map g f h xs e)

flat-same : {X Y : Type 0} (f g : X → List Y) (xs : List X) → ((x : X) → f x ≡ g x) → flat_map f xs ≡ flat_map g xs
flat-same f g [] e = refl
flat-same f g (x ∷ xs) e = ap₂ ◌++◌ (e x) (flat-same f g xs e)

onward-is : (c : Choice) (n : ℕ) (table : TypeTable) (at : List ℕ) (xs : List (ℕ × ℕ)) → onward c n table at xs ≡ map (at ++◌) (flat_map (λ part. map (part.0 ∷◌) (part_paths_within (chosen c) n table part.1)) xs)
onward-is c n table at xs =
    flat-same _ _ xs (λ part. sym (map-map (at ++◌) (part.0 ∷◌) ((at ++ part.0 ∷ []) ++◌) (part_paths_within (chosen c) n table part.1) (λ q. sym (append_assoc at (part.0 ∷ []) q))))
    ∙ sym (map-flat (at ++◌) (λ part. map (part.0 ∷◌) (part_paths_within (chosen c) n table part.1)) xs)

-- all parts
pub onward-whole : (c : Choice) (d : ℕ) (table : TypeTable) (t : ℕ) (s : types.Shape) (at : List ℕ) (old : List (List ℕ)) → 1 ≤ d → slice_get table t ≡ Some s → (old ++ at ∷ []) ++ onward c (d - 1) table at (chosen c s) ≡ old ++ map (at ++◌) (part_paths_within (chosen c) d table t)
onward-whole c zero table t s at old l e = absurd (omega (arith, l))
onward-whole c (suc d) table t s at old l e =
    let less : suc d - 1 ≡ d = omega arith in
    rw (less, append_assoc old (at ∷ []) (onward c d table at (chosen c s)))
    (ap (old ++◌) (ap₂ ◌∷◌ (sym (append-nil at)) (onward-is c d table at (chosen c s)))
    ∙ ap (λ o. old ++ map (at ++◌) (map_or [] (λ s'. [] ∷ flat_map (λ part. map (part.0 ∷◌) (part_paths_within (chosen c) d table part.1)) (chosen c s')) o)) (sym e))

pub in-map_read : {X Y : Type 0} (f : X → Y) (xs : List X) (i : ℕ) (d : X) → i < length xs → IsIn (f (get_or xs i d)) (map f xs)
in-map_read f [] i d l = absurd (omega (arith, l))
in-map_read f (x ∷ xs) zero d l = inl refl
in-map_read f (x ∷ xs) (suc i) d l = inr (in-map_read f xs i d (omega (arith, l)))

-- the shape that is read stands in the table
pub read-shape : (shapes : List Shape) (t : ℕ) (s : Shape) → t < length (shapes_view shapes) → s ≡ get_or shapes t s → slice_get (shapes_view shapes) t ≡ Some (shape_view s)
read-shape shapes t s l e =
    let within : t < length shapes = omega (arith, l, map-length shape_view shapes) in
    slice_get-map shape_view shapes t ∙ ap (option_map shape_view) (slice_get_read shapes (length shapes) t s refl within e)

-- the type of a part that is read is within one less
pub part-read : (c : Choice) (d : ℕ) (table : TypeTable) (t : ℕ) (s : types.Shape) (parts items : List (ℕ × TypeNo)) (i : ℕ) (o : ℕ × TypeNo) → IsTrue (is_within_depth d table t) → slice_get table t ≡ Some s → map part_seen parts ≡ chosen c s → items ≡ parts → i < length items → IsTrue (is_within_depth (d - 1) table (get_or items i o).1.0)
part-read c d table t s parts items i o w e p same l =
    part-within c d table t s (get_or items i o).0 (get_or items i o).1.0 w e
    (subst (λ (ps : List (ℕ × ℕ)). IsIn ((get_or items i o).0, (get_or items i o).1.0) ps) (ap (map part_seen) same ∙ p) (in-map_read part_seen items i o l))

-- all parts are gone through
pub walked : (c : Choice) (d : ℕ) (table : TypeTable) (t : ℕ) (s : types.Shape) (at : List ℕ) (old out : List (List ℕ)) (parts items : List (ℕ × TypeNo)) (i : ℕ) → IsTrue (is_within_depth d table t) → slice_get table t ≡ Some s → map part_seen parts ≡ chosen c s → items ≡ parts → length items ≤ i → out ≡ (old ++ at ∷ []) ++ onward c (d - 1) table at (map part_seen (take i items)) → out ≡ old ++ map (at ++◌) (part_paths_within (chosen c) d table t)
walked c d table t s at old out parts items i w e p same l is =
    is ∙ (rw (take_all i items l) (rw (same, p) (onward-whole c d table t s at old (some-depth d table t w) e)))
