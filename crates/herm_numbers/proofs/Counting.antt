-- Paths are counted in rounds.
use Rattle.std.proofs.Common.{◌≡◌, ℕ, zero, suc, ◌+◌, List, [], ◌∷◌, map, Option, Some, None, slice_get, option_map, refl, sym, ◌∙◌, ap, subst, arith}
use Rattle.std.specs.Prelude.{min}
use Rattle.std.proofs.lemmas.Option.{slice_get-map}
use Rattle.herm_model.specs.Lists.{map_or, total}
use Rattle.herm_numbers.specs.Counts.{paths_within, count_at, paths_by, CountPaths}

capped : (s r c real : ℕ) → s ≡ min r 4097 → c ≡ min real 4097 → min (s + c) 4097 ≡ min (r + real) 4097
capped s r c real e f = omega (arith, e, f)

summed : (counts : List ℕ) (real : ℕ → ℕ) → ((t : ℕ) → count_at counts t ≡ min (real t) 4097) → (ps : List ℕ) (s r : ℕ) → s ≡ min r 4097 → paths_by counts s ps ≡ min (r + total real ps) 4097
summed counts real e [] s r h = h ∙ ap (λ x. min x 4097) {x = r} {y = r + 0} (omega arith)
summed counts real e (p ∷ ps) s r h =
    summed counts real e ps (min (s + count_at counts p) 4097) (r + real p) (capped s r (count_at counts p) (real p) h (e p))
    ∙ ap (λ x. min x 4097) {x = r + real p + total real ps} {y = r + (real p + total real ps)} (omega arith)

count-map : (f : List ℕ → ℕ) (xs : List (List ℕ)) (t : ℕ) → count_at (map f xs) t ≡ map_or 0 f (slice_get xs t)
count-map f xs t = rw (slice_get-map f xs t) (by (slice_get xs t))
  where
    by : (o : Option (List ℕ)) → map_or 0 (λ c. c) (option_map f o) ≡ map_or 0 f o
    by None = refl
    by (Some x) = refl

pub counted : (n : ℕ) (parts : List (List ℕ)) (counts after : List ℕ) → CountPaths n parts counts → after ≡ map (paths_by counts 1) parts → CountPaths (suc n) parts after
counted n parts counts after c e t = ap (λ xs. count_at xs t) e ∙ (count-map (paths_by counts 1) parts t ∙ by (slice_get parts t))
  where
    by : (o : Option (List ℕ)) → map_or 0 (paths_by counts 1) o ≡ min (map_or 0 (λ ps. 1 + total (paths_within n parts) ps) o) 4097
    by None = refl
    by (Some ps) = summed counts (paths_within n parts) c ps 1 1 refl
