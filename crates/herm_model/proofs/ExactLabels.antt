-- Exact labels give the list of refusals by looking needs up.
use Rattle.std.proofs.Common.{◌≡◌, ◌↔◌, ℕ, suc, ◌+◌, ◌<◌, List, [], ◌∷◌, map, filter, length, Bool, true, false, cond, not, refl, sym, ap, ◌∙◌, subst, inl, inr, arith}
use Rattle.herm_model.specs.Lists.{IsIn, numbered}
use Rattle.herm_model.specs.Paths.{Fact}
use Rattle.herm_model.specs.Targets.{node}
use Rattle.herm_model.specs.ControlPaths.{Point, Flow, IsReached, Holds}
use Rattle.herm_model.specs.MissingFacts.{Demand, demands_at, demands, Refusal, AreRefusals, none, missing, holds}
use Rattle.herm_model.specs.Labels.{Labels, AreExact}
use Rattle.herm_model.specs.laws.FlowLaws.{said, not_in_labels}
use Rattle.herm_model.proofs.Lists.{in-flat_map_from, in-map_from}

-- the place of a numbered element is below the end
numbered-below : {X : Type 0} (k : ℕ) (xs : List X) (i : ℕ) (x : X) → IsIn (i, x) (numbered k xs) → i < k + length xs
numbered-below k [] i x h = absurd h
numbered-below {X} k (y ∷ ys) i x (inl e) = let same : i ≡ k = ap (λ (p : ℕ × X). p.0) e in omega arith
numbered-below k (y ∷ ys) i x (inr h) = let rest = numbered-below (suc k) ys i x h in omega (arith, rest)

-- a demand is made at a place that is there
pub demand-there : (flow : Flow) (d : Demand) → IsIn d (demands flow) → d.at < length flow.points
demand-there flow d member = by_point (in-flat_map_from demands_at d (numbered 0 flow.points) member)
  where
    by_fact : (i : ℕ) (p : Point) → IsIn (i, p) (numbered 0 flow.points) → (f : Fact) × IsIn f p.needs × (d ≡ record { at = i; number = p.number; fact = f }) → d.at < length flow.points
    by_fact i p at found =
        let same : d.at ≡ i = ap (λ (x : Demand). x.at) found.2 in
        let below = numbered-below 0 flow.points i p at in
        omega (arith, same, below)

    by_point : (x : ℕ × Point) × IsIn x (numbered 0 flow.points) × IsIn d (demands_at x) → d.at < length flow.points
    by_point found = by_fact (found.0).0 (found.0).1 found.1 (in-map_from _ d ((found.0).1).needs found.2)

-- one demand more, whose fact the label has or has not
one_more : (labels : Labels) (d : Demand) (ds : List Demand) (b : Bool) → labels d.at d.fact ≡ b → not_in_labels labels (d ∷ ds) ≡ cond b (not_in_labels labels ds) ((d.number, d.fact) ∷ not_in_labels labels ds)
one_more labels d ds b h = subst (λ x. not_in_labels labels (d ∷ ds) ≡ cond x (not_in_labels labels ds) ((d.number, d.fact) ∷ not_in_labels labels ds)) h (go (labels d.at d.fact))
  where
    go : (b : Bool) → map (λ (d : Demand). (d.number, d.fact)) (cond (not b) (d ∷ filter (λ (d : Demand). not (labels d.at d.fact)) ds) (filter (λ (d : Demand). not (labels d.at d.fact)) ds)) ≡ cond b (not_in_labels labels ds) ((d.number, d.fact) ∷ not_in_labels labels ds)
    go true = refl
    go false = refl

-- where labels are exact at each demand, the refusals say what the labels lack
refusals-said : (flow : Flow) (labels : Labels) (ds : List Demand) (rs : List Refusal) → ((d : Demand) → IsIn d ds → (labels d.at d.fact ≡ true) ↔ Holds flow d.fact d.at) → AreRefusals flow ds rs → said rs ≡ not_in_labels labels ds
refusals-said flow labels [] _ exact none = refl
refusals-said flow labels _ _ exact (missing d ds hops rs lacks rest) =
    ap ((d.number, d.fact) ∷◌) (refusals-said flow labels ds rs (λ x member. exact x (inr member)) rest)
    ∙ sym (one_more labels d ds false (lacking (labels d.at d.fact) refl))
  where
    lacking : (b : Bool) → labels d.at d.fact ≡ b → b ≡ false
    lacking true e = sym ((exact d (inl refl)).0 e hops false lacks)
    lacking false e = refl
refusals-said flow labels _ rs exact (holds d ds rs' h rest) =
    refusals-said flow labels ds rs (λ x member. exact x (inr member)) rest ∙ sym (one_more labels d ds true ((exact d (inl refl)).1 h))

-- the same over all demands of a flow whose points are reached
pub exact-said : (flow : Flow) (labels : Labels) (refusals : List Refusal) → AreExact flow labels → ((i : ℕ) → i < length flow.points → IsReached flow (node i)) → AreRefusals flow (demands flow) refusals → said refusals ≡ not_in_labels labels (demands flow)
exact-said flow labels refusals exact reached h =
    refusals-said flow labels (demands flow) refusals (λ d member. exact d.at d.fact (reached d.at (demand-there flow d member))) h
