-- No path of a type is listed twice.
use Rattle.std.proofs.Common.{◌⊎◌, inl, inr, ℕ, zero, suc, ◌≤◌, List, [], ◌∷◌, map, flat_map, Option, Some, None, slice_get, sym, subst, arith}
use Rattle.herm_model.specs.Lists.{IsIn, numbered, map_or}
use Rattle.herm_model.specs.Statements.{Differ}
use Rattle.herm_model.specs.Types.{Mode, by_in, by_inout, by_out, Parameter, Shape, fields, cases, callmessage, TypeTable, filled, if_filled, full_parts, held_parts, all_parts, part_paths_within}
use Rattle.herm_model.proofs.Lists.{in-append_cases, in-map_from, in-flat_map_from, cons-not_nil, cons-head, cons-tail, joined-Differ, mapped-Differ}

-- the places of parts rise from a first one on
abbrev RiseFrom : ℕ → List (ℕ × ℕ) → Type 0
RiseFrom k [] = Unit {0}
RiseFrom k (x ∷ xs) = (k ≤ x.0) × RiseFrom (suc x.0) xs

abbrev pub HaveRisingPlaces : (Shape → List (ℕ × ℕ)) → Type 0
HaveRisingPlaces parts = (s : Shape) → RiseFrom 0 (parts s)

rise-weaker : (j k : ℕ) (xs : List (ℕ × ℕ)) → j ≤ k → RiseFrom k xs → RiseFrom j xs
rise-weaker j k [] h r = r
rise-weaker j k (x ∷ xs) h r = (omega (arith, h, r.0), r.1)

numbered-rise : (k : ℕ) (ts : List ℕ) → RiseFrom k (numbered k ts)
numbered-rise k [] = tt
numbered-rise k (t ∷ ts) = (omega arith, numbered-rise (suc k) ts)

filled-rise : (k : ℕ) (ps : List Parameter) → RiseFrom k (filled k ps)
filled-rise k [] = tt
filled-rise k (p ∷ ps) = by p.mode (filled-rise (suc k) ps)
  where
    by : (m : Mode) → RiseFrom (suc k) (filled (suc k) ps) → RiseFrom k (if_filled m (k, p.content) (filled (suc k) ps))
    by by_in r = (omega arith, r)
    by by_inout r = (omega arith, r)
    by by_out r = rise-weaker k (suc k) (filled (suc k) ps) (omega arith) r

pub full-rise : HaveRisingPlaces full_parts
full-rise (fields ts) = numbered-rise 0 ts
full-rise (callmessage ps es) = filled-rise 0 ps
full-rise s = tt

pub held-rise : HaveRisingPlaces held_parts
held-rise (fields ts) = numbered-rise 0 ts
held-rise (callmessage ps es) = numbered-rise 0 (map (λ p. p.content) ps)
held-rise s = tt

pub all-rise : HaveRisingPlaces all_parts
all-rise (fields ts) = numbered-rise 0 ts
all-rise (cases ts) = numbered-rise 0 ts
all-rise (callmessage ps es) = numbered-rise 0 (map (λ p. p.content) ps)
all-rise s = tt

module _ (next : ℕ → List (List ℕ)) (each : (u : ℕ) → Differ (next u)) where
  abbrev all_below : List (ℕ × ℕ) → List (List ℕ)
  all_below parts = flat_map (λ part. map (part.0 ∷◌) (next part.1)) parts

  -- what begins with parts from a place on
  begins-later : (k : ℕ) (parts : List (ℕ × ℕ)) → RiseFrom k parts → (i : ℕ) (q : List ℕ) → IsIn (i ∷ q) (all_below parts) → k ≤ i
  begins-later k [] r i q h = absurd h
  begins-later k (x ∷ xs) r i q h = by (in-append_cases (i ∷ q) (map (x.0 ∷◌) (next x.1)) (all_below xs) h) (begins-later (suc x.0) xs r.1 i q)
    where
      by : IsIn (i ∷ q) (map (x.0 ∷◌) (next x.1)) ⊎ IsIn (i ∷ q) (all_below xs) → (IsIn (i ∷ q) (all_below xs) → suc x.0 ≤ i) → k ≤ i
      by (inl a) again = let m = in-map_from (x.0 ∷◌) (i ∷ q) (next x.1) a in omega (arith, r.0, cons-head m.2)
      by (inr b) again = omega (arith, r.0, again b)

  differ-below : (k : ℕ) (parts : List (ℕ × ℕ)) → RiseFrom k parts → Differ (all_below parts)
  differ-below k [] r = tt
  differ-below k (x ∷ xs) r = joined-Differ (map (x.0 ∷◌) (next x.1)) (all_below xs) (mapped-Differ (x.0 ∷◌) (λ a b e. cons-tail e) (next x.1) (each x.1)) (differ-below (suc x.0) xs r.1) apart
    where
      apart : (y : List ℕ) → IsIn y (map (x.0 ∷◌) (next x.1)) → IsIn y (all_below xs) → ⊥
      apart y a b =
          let m = in-map_from (x.0 ∷◌) y (next x.1) a in
          let z : suc x.0 ≤ x.0 = begins-later (suc x.0) xs r.1 x.0 m.0 (subst (λ w. IsIn w (all_below xs)) m.2 b) in
          omega (arith, z)

  root-alone : (parts : List (ℕ × ℕ)) → IsIn [] (all_below parts) → ⊥
  root-alone parts h =
      let r = in-flat_map_from (λ (part : ℕ × ℕ). map (part.0 ∷◌) (next part.1)) [] parts h in
      let m = in-map_from (r.0.0 ∷◌) [] (next r.0.1) r.2 in cons-not_nil r.0.0 m.0 (sym m.2)

pub steps-differ : (parts : Shape → List (ℕ × ℕ)) → HaveRisingPlaces parts → (n : ℕ) (table : TypeTable) (t : ℕ) → Differ (part_paths_within parts n table t)
steps-differ parts rise zero table t = tt
steps-differ parts rise (suc n) table t = by (slice_get table t) (steps-differ parts rise n table)
  where
    by : (o : Option Shape) → ((u : ℕ) → Differ (part_paths_within parts n table u)) → Differ (map_or [] (λ s. [] ∷ flat_map (λ part. map (part.0 ∷◌) (part_paths_within parts n table part.1)) (parts s)) o)
    by None each = tt
    by (Some s) each = (root-alone (part_paths_within parts n table) each (parts s), differ-below (part_paths_within parts n table) each 0 (parts s) (rise s))
