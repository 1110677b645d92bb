-- Labels as lists of facts, and a test that they flow and settle each demand.
use Rattle.std.proofs.Common.{◌≡◌, ℕ, zero, suc, map, set, filter, flat_map, refl, sym, subst, ap₂, List, [], ◌∷◌, Bool, true, false, cond, not, ◌&&◌, nat_eq, Option, Some, None, slice_get}
use Rattle.herm_model.specs.Lists.{IsIn, all_pass, any_pass, list_of, numbered}
use Rattle.herm_model.specs.Paths.{Fact, init, same_fact}
use Rattle.herm_model.specs.Facts.{without_repeats}
use Rattle.herm_model.specs.Targets.{Target, node, end, end_by}
use Rattle.herm_model.specs.ControlPaths.{Edge, Point, Flow, Hop, Standing, held_after_edge, held_at_start, walk, LacksBy}
use Rattle.herm_model.specs.MissingFacts.{Demand, demands, Refusal, AreRefusals, none, missing, holds}
use Rattle.herm_model.specs.Labels.{Labels, label_at, AreInductive}
use Rattle.herm_model.proofs.Equality.{same_fact-is}
use Rattle.herm_model.proofs.FactTests.{listed-IsIn, at-numbered}
use Rattle.herm_model.proofs.Lists.{every-in}
use Rattle.herm_model.proofs.Walks.{flows-Holds}
use Rattle.std.proofs.lemmas.Bool.{and_parts, eqb-true, not-true}

-- the facts at a place
abbrev pub facts_at : List (List Fact) → ℕ → List Fact
facts_at lists i = list_of (λ fs. fs) (slice_get lists i)

abbrev pub facts_at_target : List (List Fact) → Target → List Fact
facts_at_target lists (node i) = facts_at lists i
facts_at_target lists end = []
facts_at_target lists (end_by e) = []

abbrev pub listed : List (List Fact) → Labels
listed lists i f = any_pass (same_fact f) (facts_at lists i)

abbrev pub edge_flows : List (List Fact) → ℕ → Edge → Bool
edge_flows lists i e = all_pass (λ f. held_after_edge e f (listed lists i f)) (facts_at_target lists e.target)

abbrev pub point_flows : List (List Fact) → ℕ × Point → Bool
point_flows lists (i, p) = all_pass (edge_flows lists i) p.edges

abbrev pub labels_flow : Flow → List (List Fact) → Bool
labels_flow flow lists =
    all_pass held_at_start (facts_at_target lists flow.entry) && all_pass (point_flows lists) (numbered 0 flow.points)

-- whether a walk led to the point without the fact
abbrev pub is_without : ℕ → Target → Bool → Bool
is_without i (node j) held = nat_eq i j && not held
is_without i end held = false
is_without i (end_by e) held = false

abbrev pub ends_without : ℕ → Option Standing → Bool
ends_without i None = false
ends_without i (Some s) = is_without i s.here s.held

abbrev pub is_without_by : Flow → Demand → List Hop → Bool
is_without_by flow d hops = ends_without d.at (walk flow d.fact hops flow.entry (held_at_start d.fact))

abbrev pub is_report : Flow → Demand → Refusal → Bool
is_report flow d r = nat_eq r.number d.number && (same_fact r.fact d.fact && is_without_by flow d r.path)

abbrev pub settles : Flow → List (List Fact) → List Demand → List Refusal → Bool
settles flow lists [] [] = true
settles flow lists [] (r ∷ rs) = false
settles flow lists (d ∷ ds) [] = listed lists d.at d.fact && settles flow lists ds []
settles flow lists (d ∷ ds) (r ∷ rs) =
    cond (listed lists d.at d.fact) (settles flow lists ds (r ∷ rs)) (is_report flow d r && settles flow lists ds rs)

abbrev pub confirms : Flow → List (List Fact) → List Refusal → Bool
confirms flow lists refusals = labels_flow flow lists && settles flow lists (demands flow) refusals

label_at-IsIn : (lists : List (List Fact)) (t : Target) (f : Fact) → label_at (listed lists) t f ≡ true → IsIn f (facts_at_target lists t)
label_at-IsIn lists (node i) f h = listed-IsIn f (facts_at lists i) h
label_at-IsIn lists end f h = cc
label_at-IsIn lists (end_by e) f h = cc

-- labels that pass the test flow
pub labels_flow-Flows : (flow : Flow) (lists : List (List Fact)) → labels_flow flow lists ≡ true → AreInductive flow (listed lists)
labels_flow-Flows flow lists h = record {
  begins = λ f label. every-in held_at_start f (facts_at_target lists flow.entry) both.0 (label_at-IsIn lists flow.entry f label);
  goes_on = λ i p e f is member label.
      let point : point_flows lists (i, p) ≡ true = every-in (point_flows lists) (i, p) (numbered 0 flow.points) both.1 (at-numbered flow.points i p is) in
      let edge : edge_flows lists i e ≡ true = every-in (edge_flows lists i) e p.edges point member in
      every-in (λ f. held_after_edge e f (listed lists i f)) f (facts_at_target lists e.target) edge (label_at-IsIn lists e.target f label);
}
  where
    both : (all_pass held_at_start (facts_at_target lists flow.entry) ≡ true) × (all_pass (point_flows lists) (numbered 0 flow.points) ≡ true)
    both = and_parts _ _ h

abbrev standing_at : Target → Bool → Standing
standing_at t held = record { here = t; held = held }

-- a walk that passes the test ends at the point without the fact
is_without-LacksBy : (flow : Flow) (d : Demand) (hops : List Hop) → is_without_by flow d hops ≡ true → LacksBy flow d.fact d.at hops
is_without-LacksBy flow d hops h = go (walk flow d.fact hops flow.entry (held_at_start d.fact)) h
  where
    standing : (t : Target) (held : Bool) → is_without d.at t held ≡ true → Some (standing_at t held) ≡ Some (standing_at (node d.at) false)
    standing (node j) held h =
        let both = and_parts (nat_eq d.at j) (not held) h in
        let e : d.at ≡ j = eqb-true d.at j both.0 in
        let n : held ≡ false = not-true held both.1 in
        ap₂ (λ j b. Some (standing_at (node j) b)) (sym e) n
    standing end held h = absurd (let k : ⊥ = cc in k)
    standing (end_by e) held h = absurd (let k : ⊥ = cc in k)

    go : (o : Option Standing) → ends_without d.at o ≡ true → o ≡ Some (standing_at (node d.at) false)
    go None h = absurd (let k : ⊥ = cc in k)
    go (Some s) h = standing s.here s.held h

-- a report that passes the test is the demand's number and fact, with a path
is_report-missing : (flow : Flow) (d : Demand) (ds : List Demand) (r : Refusal) (rs : List Refusal) → is_report flow d r ≡ true → AreRefusals flow ds rs → AreRefusals flow (d ∷ ds) (r ∷ rs)
is_report-missing flow d ds r rs h rest =
    let all = and_parts _ _ h in
    let more = and_parts _ _ all.1 in
    let number : d.number ≡ r.number = sym (eqb-true r.number d.number all.0) in
    let fact : d.fact ≡ r.fact = sym (same_fact-is r.fact d.fact more.0) in
    let refusal : record { number = d.number; fact = d.fact; path = r.path } ≡ r = λ i. record { number = number i; fact = fact i; path = r.path } in
    subst (λ (x : Refusal). AreRefusals flow (d ∷ ds) (x ∷ rs)) refusal (missing d ds r.path rs (is_without-LacksBy flow d r.path more.1) rest)

-- demands that labels settle beside the reports
settles-AreRefusals : (flow : Flow) (lists : List (List Fact)) → AreInductive flow (listed lists) → (ds : List Demand) (rs : List Refusal) → settles flow lists ds rs ≡ true → AreRefusals flow ds rs
settles-AreRefusals flow lists flows [] [] h = none
settles-AreRefusals flow lists flows [] (r ∷ rs) h = absurd (let k : ⊥ = cc in k)
settles-AreRefusals flow lists flows (d ∷ ds) [] h =
    let both = and_parts _ _ h in
    holds d ds [] (flows-Holds flow (listed lists) flows d.at d.fact both.0) (settles-AreRefusals flow lists flows ds [] both.1)
settles-AreRefusals flow lists flows (d ∷ ds) (r ∷ rs) h =
    go (listed lists d.at d.fact) refl (settles-AreRefusals flow lists flows ds (r ∷ rs)) (settles-AreRefusals flow lists flows ds rs) h
  where
    go : (b : Bool) → listed lists d.at d.fact ≡ b
        → (settles flow lists ds (r ∷ rs) ≡ true → AreRefusals flow ds (r ∷ rs))
        → (settles flow lists ds rs ≡ true → AreRefusals flow ds rs)
        → cond b (settles flow lists ds (r ∷ rs)) (is_report flow d r && settles flow lists ds rs) ≡ true → AreRefusals flow (d ∷ ds) (r ∷ rs)
    go true label whole rest h = holds d ds (r ∷ rs) (flows-Holds flow (listed lists) flows d.at d.fact label) (whole h)
    go false label whole rest h =
        let both = and_parts _ _ h in
        is_report-missing flow d ds r rs both.0 (rest both.1)

-- labels and reports that pass the test are what is missing
pub confirms-AreRefusals : (flow : Flow) (lists : List (List Fact)) (rs : List Refusal) → confirms flow lists rs ≡ true → AreRefusals flow (demands flow) rs
confirms-AreRefusals flow lists rs h =
    let both = and_parts _ _ h in
    settles-AreRefusals flow lists (labels_flow-Flows flow lists both.0) (demands flow) rs both.1

-- A way to find labels: from all facts that any edge makes, with the start's at the entry alone, drop along each edge
-- what is not held behind it, some times over. What it finds is tested, so nothing rests on it.
abbrev pub made_facts : Flow → List Fact
made_facts flow = without_repeats (init (0 ∷ []) ∷ flat_map (λ (p : Point). flat_map (λ (e : Edge). e.makes) p.edges) flow.points)

abbrev pub refine : List (List Fact) → (Fact → Bool) → Target → List (List Fact)
refine lists keeps (node j) = set lists j (filter keeps (facts_at lists j))
refine lists keeps end = lists
refine lists keeps (end_by e) = lists

abbrev pub sweep_edges : List (List Fact) → ℕ → List Edge → List (List Fact)
sweep_edges lists i [] = lists
sweep_edges lists i (e ∷ edges) = sweep_edges (refine lists (λ f. held_after_edge e f (listed lists i f)) e.target) i edges

abbrev pub sweep_points : List (List Fact) → List (ℕ × Point) → List (List Fact)
sweep_points lists [] = lists
sweep_points lists ((i, p) ∷ points) = sweep_points (sweep_edges lists i p.edges) points

abbrev pub sweep_times : ℕ → Flow → List (List Fact) → List (List Fact)
sweep_times zero flow lists = lists
sweep_times (suc n) flow lists = sweep_times n flow (sweep_points lists (numbered 0 flow.points))

abbrev pub labels_found : Flow → List (List Fact)
labels_found flow = sweep_times 3 flow (refine (map (λ (p : Point). made_facts flow) flow.points) held_at_start flow.entry)
