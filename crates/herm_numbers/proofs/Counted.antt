-- The paths that are counted are those of the definitions.
use Rattle.std.proofs.Common.{◌≡◌, ℕ, zero, suc, ◌+◌, ◌<◌, ◌≤◌, List, [], ◌∷◌, ◌++◌, map, flat_map, take, length, Bool, true, false, nat_lt, Option, Some, None, slice_get, option_map, refl, sym, ◌∙◌, ap, ap₂, arith, Vec, Global, length-append}
use Rattle.std.specs.Prelude.{min}
use Rattle.std.proofs.lemmas.List.{length-map, map-append}
use Rattle.std.proofs.lemmas.Option.{slice_get-map}
use Rattle.std.proofs.lemmas.Bool.{ltb_from_iff, ltb-true, lt-ltb}
use Rattle.herm_model.specs.Lists.{map_or, total, numbered}
use Rattle.herm_model.specs.Types.{Shape, Parameter, TypeTable, all_parts, part_paths_within, part_paths, greatest_depth, variable_paths}
use Rattle.herm_types.specs.Chosen.{lists}
use Rattle.herm_types.specs.View.{param_view}
use Rattle.herm_types.specs.declared.shape.Param.{Param}
use Rattle.herm_numbers.specs.Counts.{part_types, paths_within, count_at, paths_by, CountPaths, IsCounted}

numbers-gone : (k : ℕ) (xs : List ℕ) → map (λ (part : ℕ × ℕ). part.1) (numbered k xs) ≡ xs
numbers-gone k [] = refl
numbers-gone k (x ∷ xs) = ap (x ∷◌) (numbers-gone (suc k) xs)

pub numbered_types : (xs : List ℕ) → map (λ (part : ℕ × ℕ). part.1) (numbered 0 xs) ≡ xs
numbered_types xs = numbers-gone 0 xs

contents : (ps : List Param) → map (λ (p : Parameter). p.content) (map param_view ps) ≡ map (λ (p : Param). p.of.0) ps
contents [] = refl
contents (p ∷ ps) = ap (p.of.0 ∷◌) (contents ps)

pub numbered_params : (ps : List Param) → map (λ (part : ℕ × ℕ). part.1) (numbered 0 (map (λ (p : Parameter). p.content) (map param_view ps))) ≡ map (λ (p : Param). p.of.0) ps
numbered_params ps = numbers-gone 0 _ ∙ contents ps

pub types_next : (shapes : TypeTable) (t : ℕ) (s : Shape) → slice_get shapes t ≡ Some s → map part_types (take (t + 1) shapes) ≡ map part_types (take t shapes) ++ (part_types s ∷ [])
types_next [] t s e = absurd (let k : ⊥ = cc in k)
types_next (x ∷ shapes) zero s e = ap (λ y. part_types y ∷ []) (let k : x ≡ s = cc in k)
types_next (x ∷ shapes) (suc t) s e = ap (λ k. map part_types (take k (x ∷ shapes))) (let k : suc t + 1 ≡ suc (t + 1) = omega arith in k) ∙ ap (part_types x ∷◌) (types_next shapes t s e)

pub lists_next : (found new : List (Vec ℕ Global)) (v : Vec ℕ Global) (shapes : TypeTable) (t : ℕ) (s : Shape) → new ≡ found ++ (v ∷ []) → lists found ≡ map part_types (take t shapes) → v.items ≡ part_types s → slice_get shapes t ≡ Some s → lists new ≡ map part_types (take (t + 1) shapes)
lists_next found new v shapes t s e f h k =
    ap lists e ∙ (map-append (λ (x : Vec ℕ Global). x.items) found (v ∷ []) ∙ (ap₂ (λ a b. a ++ (b ∷ [])) f h ∙ sym (types_next shapes t s k)))

-- paths are counted by the types of the parts
module _ (table : TypeTable) where
  under : (n : ℕ) → ((t : ℕ) → paths_within n (map part_types table) t ≡ length (part_paths_within all_parts n table t)) → (ps : List (ℕ × ℕ))
      → total (paths_within n (map part_types table)) (map (λ (part : ℕ × ℕ). part.1) ps) ≡ length (flat_map (λ (part : ℕ × ℕ). map (part.0 ∷◌) (part_paths_within all_parts n table part.1)) ps)
  under n h [] = refl
  under n h (p ∷ ps) = ap₂ (λ a b. a + b) (h p.1 ∙ sym (length-map (part_paths_within all_parts n table p.1) (p.0 ∷◌))) (under n h ps) ∙ sym (length-append (map (p.0 ∷◌) (part_paths_within all_parts n table p.1)) _)

  within-is : (n t : ℕ) → paths_within n (map part_types table) t ≡ length (part_paths_within all_parts n table t)
  within-is zero t = refl
  within-is (suc n) t = ap (map_or 0 (λ ps. 1 + total (paths_within n (map part_types table)) ps)) (slice_get-map part_types table t) ∙ by (slice_get table t) (within-is n)
    where
      by : (o : Option Shape) → ((t : ℕ) → paths_within n (map part_types table) t ≡ length (part_paths_within all_parts n table t)) → map_or 0 (λ ps. 1 + total (paths_within n (map part_types table)) ps) (option_map part_types o) ≡ length (map_or [] (λ s. [] ∷ flat_map (λ (part : ℕ × ℕ). map (part.0 ∷◌) (part_paths_within all_parts n table part.1)) (all_parts s)) o)
      by None h = refl
      by (Some s) h = let e = under n h (all_parts s) in omega (arith, e)

  pub counts_are : (parts : List (List ℕ)) (counts : List ℕ) → parts ≡ map part_types table → CountPaths greatest_depth parts counts → IsCounted table counts
  counts_are parts counts e c t = c t ∙ (ap (λ ps. min (paths_within greatest_depth ps t) 4097) e ∙ ap (λ k. min k 4097) (within-is greatest_depth t))

summed : (table : TypeTable) (counts : List ℕ) → IsCounted table counts → (ts : List ℕ) (s r : ℕ) → s ≡ min r 4097 → paths_by counts s ts ≡ min (r + total (λ t. length (part_paths all_parts table t)) ts) 4097
summed table counts e [] s r h = h ∙ ap (λ x. min x 4097) {x = r} {y = r + 0} (omega arith)
summed table counts e (t ∷ ts) s r h =
    summed table counts e ts (min (s + count_at counts t) 4097) (r + length (part_paths all_parts table t)) (let k = e t in omega (arith, h, k))
    ∙ ap (λ x. min x 4097) {x = r + length (part_paths all_parts table t) + total (λ t. length (part_paths all_parts table t)) ts} {y = r + (length (part_paths all_parts table t) + total (λ t. length (part_paths all_parts table t)) ts)} (omega arith)

in-all : (table : TypeTable) (k : ℕ) (ts : List ℕ) → total (λ t. length (part_paths all_parts table t)) ts ≡ length (flat_map (λ (v : ℕ × ℕ). map (v.0 ∷◌) (part_paths all_parts table v.1)) (numbered k ts))
in-all table k [] = refl
in-all table k (t ∷ ts) = ap₂ (λ a b. a + b) (sym (length-map (part_paths all_parts table t) (k ∷◌))) (in-all table (suc k) ts) ∙ sym (length-append (map (k ∷◌) (part_paths all_parts table t)) _)

pub many_paths : (table : TypeTable) (counts ts : List ℕ) → IsCounted table counts → nat_lt 4096 (paths_by counts 0 ts) ≡ nat_lt 4096 (length (variable_paths all_parts table ts))
many_paths table counts ts e = ltb_from_iff (let a = summed table counts e ts 0 0 refl in let b = in-all table 0 ts in ((λ h. let l = ltb-true 4096 (paths_by counts 0 ts) h in omega (arith, l, a, b)), (λ h. lt-ltb 4096 (paths_by counts 0 ts) (omega (arith, h, a, b)))))

pub few_counted : (table : TypeTable) (counts : List ℕ) → IsCounted table counts → (t : ℕ) → count_at counts t ≤ 4097
few_counted table counts e t = let k = e t in omega (arith, k)
