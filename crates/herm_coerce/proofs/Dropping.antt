-- What the source machine drops is what coercions have.
use Rattle.std.proofs.Common.{◌≡◌, ℕ, zero, suc, ◌+◌, ◌<◌, length, List, [], ◌∷◌, ◌++◌, Bool, true, Some, slice_get, option_and_then, IsTrue, refl, sym, ◌∙◌, ap, subst, arith}
use Rattle.std.proofs.lemmas.Option.{slice_get_within}
use Rattle.herm_model.specs.Lists.{IsIn}
use Rattle.herm_model.specs.Paths.{Path, Fact, init}
use Rattle.herm_model.specs.Types.{TypeTable}
use Rattle.herm_model.specs.Facts.{IsFactOf}
use Rattle.herm_model.specs.Statements.{Process}
use Rattle.herm_model.specs.Nodes.{process_nodes}
use Rattle.herm_model.specs.Targets.{Target, node}
use Rattle.herm_model.specs.Values.{has_value}
use Rattle.herm_model.specs.FactsOfValues.{HasExactly}
use Rattle.herm_model.specs.Finalising.{excess}
use Rattle.herm_model.specs.ControlPaths.{Edge, Point, flow_of, point, held_after_edge, held_at_start, IsReached}
use Rattle.herm_model.specs.Labels.{Labels, label_at}
use Rattle.herm_model.specs.laws.ExcessLaws.{IsExcess}
use Rattle.herm_model.specs.laws.FlowLaws.{EdgesDiffer}
use Rattle.herm_model.proofs.Lists.{length-map}
use Rattle.herm_model.proofs.FactTests.{got-IsIn}
use Rattle.herm_model.proofs.Walks.{walk-common}
use Rattle.herm_model.proofs.Reached.{hop_by, hop-taken, walk-more}
use Rattle.herm_model.proofs.DifferentOutcomes.{process-EdgesDiffer}
use Rattle.herm_model.proofs.ThereFacts.{held-facts}
use Rattle.herm_model.proofs.ExcessOrder.{facts-excess, values-excess}
use Rattle.herm_check.proofs.Paths.{held_more}
use Rattle.herm_forms.specs.Frames.{Name, Frame, drop}
use Rattle.herm_forms.specs.Modules.{module_of}
use Rattle.herm_forms.specs.LeavingLoops.{keeps_loop, leave_loops}
use Rattle.herm_coerce.specs.Coerced.{Coerced, behind_edge, IsDropped, AreDropped, ArePointsDropped}
use Rattle.herm_coerce.specs.laws.CoercionLaws.{IsCoerced, Drops, EdgesDropCoercions, BeginningsDropCoercions}

-- what is dropped on an edge, by its place
edge-at : (labels : Labels) (before : Fact → Bool) (es : List Edge) (xss : List (List Path)) (j : ℕ) (e : Edge) → AreDropped labels before es xss → slice_get es j ≡ Some e → (paths : List Path) × (slice_get xss j ≡ Some paths) × IsDropped labels before e paths
edge-at labels before [] [] j e h at = absurd (let k : ⊥ = cc in k)
edge-at labels before [] (xs ∷ more) j e h at = absurd h
edge-at labels before (d ∷ es) [] j e h at = absurd h
edge-at labels before (d ∷ es) (xs ∷ more) zero e h at = let is : d ≡ e = cc in (xs, refl, subst (λ f. IsDropped labels before f xs) is h.0)
edge-at labels before (d ∷ es) (xs ∷ more) (suc j) e h at = edge-at labels before es more j e h.1 at

-- what is dropped behind a point, by its place
point-at : (labels : Labels) (k i n : ℕ) (ps : List Point) (xsss : List (List (List Path))) (p : Point) → n ≡ k + i → ArePointsDropped labels k ps xsss → slice_get ps i ≡ Some p → (xss : List (List Path)) × (slice_get xsss i ≡ Some xss) × AreDropped labels (labels n) p.edges xss
point-at labels k i n [] [] p is h at = absurd (let k : ⊥ = cc in k)
point-at labels k i n [] (xss ∷ more) p is h at = absurd h
point-at labels k i n (q ∷ ps) [] p is h at = absurd h
point-at labels k zero n (q ∷ ps) (xss ∷ more) p is h at =
    let same : q ≡ p = cc in
    let place : k ≡ n = omega (arith, is) in
    (xss, refl, subst (λ r. AreDropped labels (labels n) r.edges xss) same (subst (λ m. AreDropped labels (labels m) q.edges xss) place h.0))
point-at labels k (suc i) n (q ∷ ps) (xss ∷ more) p is h at = point-at labels (suc k) i n ps more p (omega (arith, is)) h.1 at

module _ (table : TypeTable) (p : Process) (labels : Labels) (c : Coerced) (is : IsCoerced table p labels c) where
  -- The excess of facts of the variables is what is dropped where the values have exactly these facts.
  dropped-is : (here : Fact → Bool) (t : Target) (paths : List Path) (b : Frame Name) → ((q : Path) → IsTrue (here (init q)) → IsFactOf table p.variables (init q)) → HasExactly b.variables (λ f. IsTrue (here f))
      → IsExcess here (label_at labels t) paths → Drops (module_of table p labels) t b paths
  dropped-is here t paths b there exact h =
      let kept : Path → Bool = λ q. label_at labels t (init q) in
      let listed = (facts-excess table p.variables here (label_at labels t) (λ u member. is.types.shallow u (is.typed.variables_known u member)) there paths).0 h in
      let same : excess table p.variables (has_value b.variables) kept ≡ paths = values-excess table p.variables here b.variables kept exact ∙ sym listed in
      (sym same, ap (λ xs. leave_loops (keeps_loop (module_of table p labels) t) (drop xs b)) same)

  -- what is held behind an edge of a point is held on a control path, so it is a fact of the variables
  held-there : (i : ℕ) (point : Point) (e : Edge) → slice_get (flow_of table p).points i ≡ Some point → IsIn e point.edges → (f : Fact) → IsTrue (behind_edge (labels i) e f) → IsFactOf table p.variables f
  held-there i q e at member f held =
      let flow = flow_of table p in
      let differ : EdgesDiffer flow = process-EdgesDiffer table p is.typed.blocks in
      let within : i < length flow.points = slice_get_within flow.points i q at in
      let reached : IsReached flow (node i) = is.typed.reached i (subst (λ n. i < n) (length-map (point table p.variables) (process_nodes p)) within) in
      let w = walk-common flow (init (0 ∷ [])) f reached.0 flow.entry (node i) (held_at_start (init (0 ∷ []))) reached.1 (held_at_start f) reached.2 in
      let before : labels i f ≡ true → w.0 ≡ true = λ label. (is.exact i f reached).0 label reached.0 w.0 w.1 in
      let behind : held_after_edge e f w.0 ≡ true = held_more e f (labels i f) w.0 before held in
      let taken = hop-taken flow differ i q e at (got-IsIn flow.points i q at) member in
      held-facts is.exceptions table is.processes p is.types is.typed (reached.0 ++ hop_by q e ∷ []) e.target f
      (walk-more flow f reached.0 (hop_by q e) flow.entry (node i) (held_at_start f) w.0 e w.1 taken ∙ ap (λ v. Some (record { here = e.target; held = v })) behind)

pub edges-drop : EdgesDropCoercions
edges-drop table p labels c is i j q e at edge b exact =
    let points = point-at labels 0 i i (flow_of table p).points c.at q (omega arith) is.coercions.edges at in
    let edges = edge-at labels (labels i) q.edges points.0 j e points.2 edge in (
      edges.0,
      ap (option_and_then (λ xss. slice_get xss j)) points.1 ∙ edges.1,
      dropped-is table p labels c is (behind_edge (labels i) e) e.target edges.0 b (λ r h. held-there table p labels c is i q e at (got-IsIn q.edges j e edge) (init r) h) exact edges.2,
    )

pub beginnings-drop : BeginningsDropCoercions
beginnings-drop table p labels c is b exact =
    let flow = flow_of table p in
    dropped-is table p labels c is held_at_start flow.entry c.entry b
    (λ r h. held-facts is.exceptions table is.processes p is.types is.typed [] flow.entry (init r) (ap (λ v. Some (record { here = flow.entry; held = v })) h)) exact is.coercions.entry
