-- Paths of typed processes are bounded.
use Rattle.std.proofs.Common.{◌≡◌, ℕ, zero, suc, ◌<◌, ◌≤◌, List, [], ◌∷◌, ◌++◌, map, flat_map, length, length-append, false, Option, Some, None, is_some, slice_get, IsTrue, refl, subst, arith, ◌∙◌}
use Rattle.herm_model.specs.Lists.{IsIn, all_pass, map_or, numbered}
use Rattle.herm_model.specs.Paths.{Path}
use Rattle.herm_model.specs.Types.{Mode, by_in, by_inout, by_out, Parameter, Shape, fields, cases, callmessage, TypeTable, named_types, part_type, part_of, type_below, type_at, is_within_depth, greatest_depth, filled, if_filled, full_parts, held_parts, all_parts, part_paths_within, part_paths, variable_paths}
use Rattle.herm_model.specs.WellFormedTables.{IsType, IsWellFormedTable}
use Rattle.herm_model.specs.laws.TypedFactLaws.{TypedPathsAreBounded}
use Rattle.herm_model.proofs.Lists.{not_true, every-in, length-map, slice_get-map}
use Rattle.herm_model.proofs.Options.{none-not_some}
use Rattle.herm_model.proofs.FactTests.{got-IsIn}
use Rattle.herm_model.proofs.TypedPaths.{some-of, is-some}
use Rattle.herm_model.proofs.TypesBelow.{known-above}

-- the type of a part is one that the shape names
pub part-named : (s : Shape) (i u : ℕ) → part_type s i ≡ Some u → IsIn u (named_types s)
part-named (fields ts) i u e = got-IsIn ts i u e
part-named (cases ts) i u e = got-IsIn ts i u e
part-named (callmessage ps raises) i u e = got-IsIn (map (λ (p : Parameter). p.content) ps) i u (slice_get-map (λ (p : Parameter). p.content) ps i ∙ e)
part-named s i u e = none-not_some e

module _ (exceptions : ℕ) (table : TypeTable) (well : IsWellFormedTable exceptions table) where
  -- a part of a type that there is has one that there is
  part-there : (t i u : ℕ) → part_of table (Some t) i ≡ Some u → IsType table u
  part-there t i u e = by (slice_get table t) refl e
    where
      by : (o : Option Shape) → slice_get table t ≡ o → map_or None (λ s. part_type s i) o ≡ Some u → IsType table u
      by None s e = none-not_some e
      by (Some s) k e = well.types_known t s k u (part-named s i u e)

  below-there : (t : Option ℕ) (q : List ℕ) (u : ℕ) → ((v : ℕ) → t ≡ Some v → IsType table v) → type_below table t q ≡ Some u → IsType table u
  below-there t [] u h e = h u e
  below-there None (i ∷ q) u h e = below-there None q u (λ v k. none-not_some k) e
  below-there (Some t) (i ∷ q) u h e = below-there (part_of table (Some t) i) q u (λ v k. part-there t i v k) e

  pub type-there : (variables : List ℕ) → ((t : ℕ) → IsIn t variables → IsType table t) → (p : Path) (t : ℕ) → type_at table variables p ≡ Some t → IsType table t
  type-there variables known [] t e = none-not_some e
  type-there variables known (v ∷ q) t e = below-there (slice_get variables v) q t (λ u k. known u (got-IsIn variables v u k)) e

within-part : (table : TypeTable) (n t i u : ℕ) → IsTrue (is_within_depth (suc n) table t) → part_of table (Some t) i ≡ Some u → IsTrue (is_within_depth n table u)
within-part table n t i u w e = by (slice_get table t) w e
  where
    by : (o : Option Shape) → IsTrue (map_or false (λ s. all_pass (is_within_depth n table) (named_types s)) o) → map_or None (λ s. part_type s i) o ≡ Some u → IsTrue (is_within_depth n table u)
    by None w e = not_true w
    by (Some s) w e = every-in (is_within_depth n table) u (named_types s) w (part-named s i u e)

short-below : (table : TypeTable) (n t : ℕ) (q : List ℕ) → IsTrue (is_within_depth n table t) → IsTrue (is_some (type_below table (Some t) q)) → length q < n
short-below table zero t q w h = not_true w
short-below table (suc n) t [] w h = omega arith
short-below table (suc n) t (i ∷ q) w h =
    let r = some-of (part_of table (Some t) i) (known-above table (part_of table (Some t) i) q h) in
    omega (arith, short-below table n r.0 q (within-part table n t i r.0 w r.1) (subst (λ o. IsTrue (is_some (type_below table o q))) r.1 h))

-- fewer of each are fewer together
fewer-each : {X : Type 0} (f g : X → List (List ℕ)) → ((x : X) → length (f x) ≤ length (g x)) → (xs : List X) → length (flat_map f xs) ≤ length (flat_map g xs)
fewer-each f g h [] = omega arith
fewer-each f g h (x ∷ xs) = omega (arith, length-append (f x) (flat_map f xs), length-append (g x) (flat_map g xs), h x, fewer-each f g h xs)

-- a choice of parts takes no more of them than all
abbrev Fewer : (Shape → List (ℕ × ℕ)) → Type 0
Fewer parts = (f g : ℕ × ℕ → List (List ℕ)) → ((x : ℕ × ℕ) → length (f x) ≤ length (g x)) → (s : Shape) → length (flat_map f (parts s)) ≤ length (flat_map g (all_parts s))

held-fewer : Fewer held_parts
held-fewer f g h (fields ts) = fewer-each f g h (numbered 0 ts)
held-fewer f g h (callmessage ps raises) = fewer-each f g h (numbered 0 (map (λ (p : Parameter). p.content) ps))
held-fewer f g h s = omega arith

filled-fewer : (f g : ℕ × ℕ → List (List ℕ)) → ((x : ℕ × ℕ) → length (f x) ≤ length (g x)) → (k : ℕ) (ps : List Parameter) → length (flat_map f (filled k ps)) ≤ length (flat_map g (numbered k (map (λ (p : Parameter). p.content) ps)))
filled-fewer f g h k [] = omega arith
filled-fewer f g h k (p ∷ ps) = by p.mode (filled-fewer f g h (suc k) ps)
  where
    rest : List (List ℕ)
    rest = flat_map g (numbered (suc k) (map (λ (p : Parameter). p.content) ps))

    by : (m : Mode) → length (flat_map f (filled (suc k) ps)) ≤ length (flat_map g (numbered (suc k) (map (λ (p : Parameter). p.content) ps))) → length (flat_map f (if_filled m (k, p.content) (filled (suc k) ps))) ≤ length (g (k, p.content) ++ flat_map g (numbered (suc k) (map (λ (p : Parameter). p.content) ps)))
    by by_in again = omega (arith, length-append (f (k, p.content)) (flat_map f (filled (suc k) ps)), length-append (g (k, p.content)) (flat_map g (numbered (suc k) (map (λ (p : Parameter). p.content) ps))), h (k, p.content), again)
    by by_inout again = omega (arith, length-append (f (k, p.content)) (flat_map f (filled (suc k) ps)), length-append (g (k, p.content)) (flat_map g (numbered (suc k) (map (λ (p : Parameter). p.content) ps))), h (k, p.content), again)
    by by_out again = omega (arith, length-append (g (k, p.content)) (flat_map g (numbered (suc k) (map (λ (p : Parameter). p.content) ps))), again)

full-fewer : Fewer full_parts
full-fewer f g h (fields ts) = fewer-each f g h (numbered 0 ts)
full-fewer f g h (callmessage ps raises) = filled-fewer f g h 0 ps
full-fewer f g h s = omega arith

module _ (parts : Shape → List (ℕ × ℕ)) (fewer : Fewer parts) (table : TypeTable) where
  mapped : (i : ℕ) (xs ys : List (List ℕ)) → length xs ≤ length ys → length (map (i ∷◌) xs) ≤ length (map (i ∷◌) ys)
  mapped i xs ys h = omega (arith, length-map (i ∷◌) xs, length-map (i ∷◌) ys, h)

  steps-fewer : (n t : ℕ) → length (part_paths_within parts n table t) ≤ length (part_paths_within all_parts n table t)
  steps-fewer zero t = omega arith
  steps-fewer (suc n) t = by (slice_get table t) (steps-fewer n)
    where
      by : (o : Option Shape) → ((u : ℕ) → length (part_paths_within parts n table u) ≤ length (part_paths_within all_parts n table u))
          → length (map_or [] (λ s. [] ∷ flat_map (λ (part : ℕ × ℕ). map (part.0 ∷◌) (part_paths_within parts n table part.1)) (parts s)) o) ≤ length (map_or [] (λ s. [] ∷ flat_map (λ (part : ℕ × ℕ). map (part.0 ∷◌) (part_paths_within all_parts n table part.1)) (all_parts s)) o)
      by None again = omega arith
      by (Some s) again = omega (arith, fewer (λ part. map (part.0 ∷◌) (part_paths_within parts n table part.1)) (λ part. map (part.0 ∷◌) (part_paths_within all_parts n table part.1)) (λ part. mapped part.0 _ _ (again part.1)) s)

  paths-fewer : (variables : List ℕ) → length (variable_paths parts table variables) ≤ length (variable_paths all_parts table variables)
  paths-fewer variables = fewer-each (λ (v : ℕ × ℕ). map (v.0 ∷◌) (part_paths parts table v.1)) (λ (v : ℕ × ℕ). map (v.0 ∷◌) (part_paths all_parts table v.1)) (λ v. mapped v.0 _ _ (steps-fewer greatest_depth v.1)) (numbered 0 variables)

pub paths-bounded : TypedPathsAreBounded
paths-bounded exceptions table processes p well typed = record {
  types = type-there exceptions table well p.variables typed.variables_known;
  deep = λ q t e. well.shallow t (type-there exceptions table well p.variables typed.variables_known q t e);
  short = short;
  held = omega (arith, paths-fewer held_parts held-fewer table p.variables, typed.few_paths);
  full = omega (arith, paths-fewer full_parts full-fewer table p.variables, typed.few_paths);
}
  where
    short : (q : Path) (t : ℕ) → type_at table p.variables q ≡ Some t → length q ≤ greatest_depth
    short [] t e = none-not_some e
    short (v ∷ q) t e =
        let r = some-of (slice_get p.variables v) (known-above table (slice_get p.variables v) q (is-some _ e)) in
        omega (arith, short-below table greatest_depth r.0 q (well.shallow r.0 (typed.variables_known r.0 (got-IsIn p.variables v r.0 r.1))) (subst (λ o. IsTrue (is_some (type_below table o q))) r.1 (is-some _ e)))
