-- Where a check has the excess of facts it is right.
use Rattle.std.proofs.Common.{◌≡◌, ℕ, List, [], ◌∷◌, ◌++◌, Bool, true, false, cond, Some, option_map, slice_get, refl, ap, ◌∙◌}
use Rattle.std.specs.Prelude.{IsTrue}
use Rattle.std.proofs.lemmas.Option.{slice_get_within}
use Rattle.herm_model.specs.Lists.{IsIn, any_pass}
use Rattle.herm_model.specs.Paths.{Path, Fact, init, path_of, same_fact, is_at_or_below}
use Rattle.herm_model.specs.Types.{TypeTable}
use Rattle.herm_model.specs.Facts.{IsFactOf}
use Rattle.herm_model.specs.ControlPaths.{Edge, flow_of, point, edge, held_after_edge, held_at_start, IsReached}
use Rattle.herm_model.specs.Exits.{Exit, exits}
use Rattle.herm_model.specs.Labels.{Labels, label_at, AreExact}
use Rattle.herm_model.specs.Nodes.{Node, process_nodes}
use Rattle.herm_model.specs.Statements.{Process}
use Rattle.herm_model.specs.Targets.{node}
use Rattle.herm_model.specs.TypedPrograms.{IsTypedProcess}
use Rattle.herm_model.specs.WellFormedTables.{IsWellFormedTable}
use Rattle.herm_model.specs.laws.FlowLaws.{EdgesDiffer}
use Rattle.herm_model.proofs.DifferentOutcomes.{process-EdgesDiffer}
use Rattle.herm_model.proofs.ExcessOrder.{facts-excess}
use Rattle.herm_model.proofs.FactTests.{got-IsIn}
use Rattle.herm_model.proofs.Lists.{in-map, slice_get-map}
use Rattle.herm_model.proofs.Reached.{hop_by, hop-taken, walk-more}
use Rattle.herm_model.proofs.ThereFacts.{held-facts}
use Rattle.herm_model.proofs.Walks.{walk-common}
use Rattle.herm_forms.specs.laws.EdgeLaws.{held_after}
use Rattle.herm_translated.specs.laws.CheckedBlocks.{checked}
use Rattle.herm_simulation.specs.Checks.{list_at, IsRight}
use Rattle.herm_simulation.specs.laws.CheckLaws.{HasExcess, ExcessIsRight}

-- more is held behind an edge where more is held before it
held-more : (e : Edge) (f : Fact) (a b : Bool) → (a ≡ true → b ≡ true) → held_after_edge e f a ≡ true → held_after_edge e f b ≡ true
held-more e f a b on h = by (any_pass (same_fact f) e.makes) (any_pass (λ p. is_at_or_below p (path_of f)) e.kills) h
  where
    by : (made gone : Bool) → cond made true (cond gone false a) ≡ true → cond made true (cond gone false b) ≡ true
    by true gone h = refl
    by false true h = h
    by false false h = on h

module _ (exceptions : ℕ) (table : TypeTable) (processes : List Process) (p : Process) (labels : Labels) (formed : IsWellFormedTable exceptions table) (typed : IsTypedProcess exceptions table processes p) (exact : AreExact (flow_of table p) labels) where
  -- what is held behind an edge of a point is held on a control path, so it is a fact of the variables
  held-there : (i : ℕ) (n : Node) (x : Exit) → slice_get (process_nodes p) i ≡ Some n → IsIn x (exits table p.variables n) → (f : Fact) → IsTrue (held_after table p.variables n.form x.outcome (labels i) f) → IsFactOf table p.variables f
  held-there i n x at member f held =
      let flow = flow_of table p in
      let q = point table p.variables n in
      let e = edge table p.variables n.form x in
      let points : slice_get flow.points i ≡ Some q = slice_get-map (point table p.variables) (process_nodes p) i ∙ ap (option_map (point table p.variables)) at in
      let in-edges : IsIn e q.edges = in-map (edge table p.variables n.form) x (exits table p.variables n) member in
      let differ : EdgesDiffer flow = process-EdgesDiffer table p typed.blocks in
      let reached : IsReached flow (node i) = typed.reached i (slice_get_within (process_nodes p) i n at) in
      let w = walk-common flow (init (0 ∷ [])) f reached.0 flow.entry (node i) (held_at_start (init (0 ∷ []))) reached.1 (held_at_start f) reached.2 in
      let before : labels i f ≡ true → w.0 ≡ true = λ label. (exact i f reached).0 label reached.0 w.0 w.1 in
      let behind : held_after_edge e f w.0 ≡ true = held-more e f (labels i f) w.0 before held in
      let taken = hop-taken flow differ i q e points (got-IsIn flow.points i q points) in-edges in
      held-facts exceptions table processes p formed typed (reached.0 ++ hop_by q e ∷ []) e.target f
      (walk-more flow f reached.0 (hop_by q e) flow.entry (node i) (held_at_start f) w.0 e w.1 taken ∙ ap (λ v. Some (record { here = e.target; held = v })) behind)

  excess-right : (facts : List (List Fact)) (entry_drops : List Path) (drops : List (List (List Path))) → HasExcess table p labels facts entry_drops drops → IsRight (checked table p labels facts entry_drops drops)
  excess-right facts entry_drops drops is = record {
    facts = is.facts_held;
    drops = λ i j n x at at-j.
        (facts-excess table p.variables (held_after table p.variables n.form x.outcome (labels i)) (label_at labels x.target) (λ u member. formed.shallow u (typed.variables_known u member))
        (λ q h. held-there i n x at (got-IsIn (exits table p.variables n) j x at-j) (init q) h) (list_at (list_at drops i) j)).0 (is.exits_drop i j n x at at-j);
    entry =
        (facts-excess table p.variables held_at_start (label_at labels (flow_of table p).entry) (λ u member. formed.shallow u (typed.variables_known u member))
        (λ q h. held-facts exceptions table processes p formed typed [] (flow_of table p).entry (init q) (ap (λ v. Some (record { here = (flow_of table p).entry; held = v })) h)) entry_drops).0 is.entry_drops_all;
  }

pub excess-is-right : ExcessIsRight
excess-is-right exceptions table processes p labels facts entry_drops drops formed typed exact is = excess-right exceptions table processes p labels formed typed exact facts entry_drops drops is
