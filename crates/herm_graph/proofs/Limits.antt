-- Depth and paths by the types that each type names are those of shapes.
use Rattle.std.proofs.Common.{◌≡◌, ◌<◌, ◌⊎◌, inl, inr, ℕ, zero, suc, ◌+◌, Bool, true, false, ◌||◌, not, nat_lt, List, [], ◌∷◌, length, map, flat_map, Option, Some, None, slice_get, option_map, IsTrue, is_some, refl, sym, ◌∙◌, ap, subst, arith, true≢false, length-append}
use Rattle.std.proofs.lemmas.Option.{slice_get-map, slice_get_within}
use Rattle.std.proofs.lemmas.Bool.{ltb-true, ltb-false}
use Rattle.herm_model.specs.Lists.{all_pass, map_or, total, numbered}
use Rattle.herm_model.specs.Types.{TypeTable, Shape, boolean, integer, text, polymorph, names, fields, cases, rows, inport, outport, callmessage, named_types, is_within_depth, all_parts, part_paths_within}
use Rattle.herm_model.specs.WellFormedTables.{IsType, greatest_paths}
use Rattle.herm_types.specs.Table.{says}
use Rattle.herm_graph.specs.Depth.{is_within, SayWithin, paths_within, count_at, CountPaths}
use Rattle.herm_graph.specs.Links.{path_types}
use Rattle.herm_graph.specs.Tells.{Tells}

every-same : (p q : ℕ → Bool) → ((t : ℕ) → p t ≡ q t) → (ts : List ℕ) → all_pass p ts ≡ all_pass q ts
every-same p q e [] = refl
every-same p q e (t ∷ ts) = rw (e t, every-same p q e ts) refl

pub same-depth : (table : TypeTable) (next : List (List ℕ)) → next ≡ map named_types table → (n t : ℕ) → is_within n next t ≡ is_within_depth n table t
same-depth table next e zero t = refl
same-depth table next e (suc n) t =
    ap (λ xs. map_or false (all_pass (is_within n next)) (slice_get xs t)) e
    ∙ (ap (map_or false (all_pass (is_within n next))) (slice_get-map named_types table t) ∙ by (slice_get table t) (same-depth table next e n))
  where
    by : (o : Option Shape) → ((u : ℕ) → is_within n next u ≡ is_within_depth n table u) → map_or false (all_pass (is_within n next)) (option_map named_types o) ≡ map_or false (λ s. all_pass (is_within_depth n table) (named_types s)) o
    by None again = refl
    by (Some s) again = every-same (is_within n next) (is_within_depth n table) again (named_types s)

length-mapped : {X Y : Type 0} (f : X → Y) (xs : List X) → length (map f xs) ≡ length xs
length-mapped f [] = refl
length-mapped f (x ∷ xs) = ap suc (length-mapped f xs)

-- as many as the sum over parts
length-parts : (below : ℕ → List (List ℕ)) (count : ℕ → ℕ) → ((t : ℕ) → length (below t) ≡ count t) → (i : ℕ) (ts : List ℕ) → length (flat_map (λ (part : ℕ × ℕ). map (part.0 ∷◌) (below part.1)) (numbered i ts)) ≡ total count ts
length-parts below count e i [] = refl
length-parts below count e i (t ∷ ts) =
    length-append (map (i ∷◌) (below t)) _ ∙ (ap (λ n. n + length (flat_map (λ (part : ℕ × ℕ). map (part.0 ∷◌) (below part.1)) (numbered (suc i) ts))) (length-mapped (i ∷◌) (below t) ∙ e t) ∙ ap (λ n. count t + n) (length-parts below count e (suc i) ts))

pub same-paths : (table : TypeTable) (parts : List (List ℕ)) → parts ≡ map path_types table → (n t : ℕ) → length (part_paths_within all_parts n table t) ≡ paths_within n parts t
same-paths table parts e zero t = refl
same-paths table parts e (suc n) t =
    by (slice_get table t) (length-parts (part_paths_within all_parts n table) (paths_within n parts) (same-paths table parts e n) 0)
    ∙ sym (ap (λ xs. map_or 0 (λ ps. 1 + total (paths_within n parts) ps) (slice_get xs t)) e ∙ ap (map_or 0 (λ ps. 1 + total (paths_within n parts) ps)) (slice_get-map path_types table t))
  where
    by : (o : Option Shape) → ((ts : List ℕ) → length (flat_map (λ (part : ℕ × ℕ). map (part.0 ∷◌) (part_paths_within all_parts n table part.1)) (numbered 0 ts)) ≡ total (paths_within n parts) ts) → length (map_or [] (λ s. [] ∷ flat_map (λ (part : ℕ × ℕ). map (part.0 ∷◌) (part_paths_within all_parts n table part.1)) (all_parts s)) o) ≡ map_or 0 (λ ps. 1 + total (paths_within n parts) ps) (option_map path_types o)
    by None sums = refl
    by (Some boolean) sums = refl
    by (Some integer) sums = refl
    by (Some text) sums = refl
    by (Some polymorph) sums = refl
    by (Some (names count)) sums = refl
    by (Some (fields ts)) sums = omega (arith, sums ts)
    by (Some (cases ts)) sums = omega (arith, sums ts)
    by (Some (rows row key)) sums = refl
    by (Some (inport message declared)) sums = refl
    by (Some (outport port)) sums = refl
    by (Some (callmessage ps raises)) sums = omega (arith, sums (map (λ p. p.content) ps))

is-there : (table : TypeTable) (t : ℕ) → IsType table t → t < length table
is-there table t h = by (slice_get table t) refl h
  where
    by : (o : Option Shape) → slice_get table t ≡ o → IsTrue (is_some o) → t < length table
    by None e i = absurd (true≢false (sym i))
    by (Some s) e i = slice_get_within table t s e

pub judged-deep : (table : TypeTable) (next parts : List (List ℕ)) (within deep : List Bool) (counts : List ℕ) (n count : ℕ) → next ≡ map named_types table → parts ≡ map path_types table → count ≡ length table
    → SayWithin n next within → CountPaths n parts counts → ((t : ℕ) → t < count → says deep t ≡ (nat_lt 1024 (count_at counts t) || not (says within t)))
    → (t : ℕ) → IsType table t → Tells (says deep t) ((is_within_depth n table t ≡ false) ⊎ (greatest_paths < length (part_paths_within all_parts n table t)))
judged-deep table next parts within deep counts n count ne pe many said counted judged t there =
    subst (λ b. Tells b ((is_within_depth n table t ≡ false) ⊎ (greatest_paths < length (part_paths_within all_parts n table t))))
    (sym (judged t (omega (arith, is-there table t there, many))))
    (by (nat_lt 1024 (count_at counts t)) (says within t) refl refl)
  where
    paths : length (part_paths_within all_parts n table t) ≡ paths_within n parts t
    paths = same-paths table parts pe n t

    by : (many few : Bool) → nat_lt 1024 (count_at counts t) ≡ many → says within t ≡ few → Tells (many || not few) ((is_within_depth n table t ≡ false) ⊎ (greatest_paths < length (part_paths_within all_parts n table t)))
    by true few m f = inr (omega (arith, ltb-true 1024 (count_at counts t) m, counted t, paths))
    by false false m f = inl (sym (same-depth table next ne n t) ∙ (sym (said t) ∙ f))
    by false true m f = no
      where
        no : ((is_within_depth n table t ≡ false) ⊎ (greatest_paths < length (part_paths_within all_parts n table t))) → ⊥
        no (inl d) = true≢false (sym f ∙ (said t ∙ (same-depth table next ne n t ∙ d)))
        no (inr p) = omega (arith, ltb-false 1024 (count_at counts t) m, counted t, paths, p)
