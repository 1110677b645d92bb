-- A type of a well-formed table has few parts.
use Rattle.std.proofs.Common.{◌≡◌, ◌≤◌, ◌<◌, ◌^◌, ℕ, zero, suc, ◌+◌, List, [], ◌∷◌, ◌++◌, map, flat_map, length, Option, Some, None, slice_get, is_some, IsTrue, refl, sym, ◌∙◌, ap, subst, inl, inr, arith, true≢false, false, option_map, length-append}
use Rattle.std.proofs.lemmas.Option.{slice_get-map}
use Rattle.herm_model.specs.Lists.{IsIn, all_pass, map_or, numbered}
use Rattle.herm_model.specs.Types as types
use Rattle.herm_model.specs.Types.{TypeTable, is_within_depth, part_paths_within, part_paths, all_parts, named_types, greatest_depth}
use Rattle.herm_model.specs.WellFormedTables.{IsWellFormedTable}
use Rattle.herm_model.proofs.Lists.{every-in}
use Rattle.herm_model.proofs.Steps.{all-named}
use Rattle.herm_types.specs.declared.shape.Shape.{Shape}
use Rattle.herm_types.specs.declared.shape.Shape.TheVariants.{Boolean, Integer, Text, Names, Fields, Cases, Rows, Poly, Inport, Outport, CallMessage}
use Rattle.herm_types.specs.View.{shape_view, param_view}
use Rattle.herm_types.specs.Table.{shapes_view}
use Rattle.herm_types.specs.Chosen.{width, FewParts}
use Rattle.herm_types.proofs.Tables.{map-length}

numbered-length : {X : Type 0} (i : ℕ) (xs : List X) → length (numbered i xs) ≡ length xs
numbered-length i [] = refl
numbered-length i (x ∷ xs) = ap suc (numbered-length (suc i) xs)

width-parts : (s : Shape) → width s ≡ length (all_parts (shape_view s))
width-parts Boolean = refl
width-parts Integer = refl
width-parts Text = refl
width-parts (Names values) = refl
width-parts (Fields fs) = sym (numbered-length 0 (map (λ f. f.of.0) fs.items) ∙ map-length (λ f. f.of.0) fs.items)
width-parts (Cases cs) = sym (numbered-length 0 (map (λ c. c.of.0) cs.items) ∙ map-length (λ c. c.of.0) cs.items)
width-parts (Rows row keys) = refl
width-parts Poly = refl
width-parts (Inport message facts) = refl
width-parts (Outport port) = refl
width-parts (CallMessage params raises) = sym (numbered-length 0 (map (λ p. p.content) (map param_view params.items)) ∙ (map-length (λ p. p.content) (map param_view params.items) ∙ map-length param_view params.items))

-- a type has a path
some-steps : (d : ℕ) (table : TypeTable) (u : ℕ) → IsTrue (is_within_depth d table u) → 1 ≤ length (part_paths_within all_parts d table u)
some-steps zero table u w = absurd (true≢false (sym w))
some-steps (suc d) table u w = by (slice_get table u) w
  where
    by : (o : Option types.Shape) → IsTrue (map_or false (λ s. all_pass (is_within_depth d table) (named_types s)) o) → 1 ≤ length (map_or [] (λ s. [] ∷ flat_map (λ part. map (part.0 ∷◌) (part_paths_within all_parts d table part.1)) (all_parts s)) o)
    by None w' = absurd (true≢false (sym w'))
    by (Some s) w' = omega arith

each-some : (f : ℕ × ℕ → List (List ℕ)) (ps : List (ℕ × ℕ)) → ((i u : ℕ) → IsIn (i, u) ps → 1 ≤ length (f (i, u))) → length ps ≤ length (flat_map f ps)
each-some f [] each = omega arith
each-some f (p ∷ ps) each = omega (arith, length-append (f p) (flat_map f ps), each p.0 p.1 (inl refl), each-some f ps (λ i u h. each i u (inr h)))

parts-few : (d : ℕ) (table : TypeTable) (t : ℕ) (s : types.Shape) → slice_get table t ≡ Some s → IsTrue (is_within_depth d table t) → length (all_parts s) ≤ length (part_paths_within all_parts d table t)
parts-few zero table t s e w = absurd (true≢false (sym w))
parts-few (suc d) table t s e w =
    let all = subst (λ o. IsTrue (map_or false (λ s'. all_pass (is_within_depth d table) (named_types s')) o)) e w in
    let few = each-some (λ part. map (part.0 ∷◌) (part_paths_within all_parts d table part.1)) (all_parts s) (λ i u h. omega (arith, map-length (i ∷◌) (part_paths_within all_parts d table u), some-steps d table u (every-in (is_within_depth d table) u (named_types s) all (all-named s i u h)))) in
    subst (λ o. length (all_parts s) ≤ length (map_or [] (λ s'. [] ∷ flat_map (λ part. map (part.0 ∷◌) (part_paths_within all_parts d table part.1)) (all_parts s')) o)) (sym e) (omega (arith, few))

pub few-parts : (exceptions : ℕ) (shapes : List Shape) → IsWellFormedTable exceptions (shapes_view shapes) → FewParts shapes
few-parts exceptions shapes good t s e =
    let same : slice_get (shapes_view shapes) t ≡ Some (shape_view s) = slice_get-map shape_view shapes t ∙ ap (option_map shape_view) e in
    let known = ap is_some same in
    omega (arith, width-parts s, parts-few greatest_depth (shapes_view shapes) t (shape_view s) same (good.shallow t known), good.few_paths t known)
