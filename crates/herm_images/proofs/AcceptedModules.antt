-- The processes of a typed program that are accepted are checked modules.
use Rattle.std.proofs.Common.{◌≡◌, ℕ, zero, suc, List, [], ◌∷◌, map, length, true, false, Some, option_map, option_and_then, slice_get, inl, inr, refl, sym, ap, subst, ◌∙◌, arith}
use Rattle.herm_model.specs.Lists.{IsIn, map_or}
use Rattle.herm_model.specs.Paths.{Fact}
use Rattle.herm_model.specs.Types.{TypeTable}
use Rattle.herm_model.specs.Statements.{Process}
use Rattle.herm_model.specs.Nodes.{Node, process_nodes}
use Rattle.herm_model.specs.Exits.{exits}
use Rattle.herm_model.specs.ControlPaths.{edge, point}
use Rattle.herm_model.specs.WellFormedTables.{IsWellFormedTable}
use Rattle.herm_model.specs.TypedPrograms.{IsTypedProcess, IsTypedProgram}
use Rattle.herm_model.proofs.Lists.{length-map, slice_get-map, each-first}
use Rattle.herm_model.proofs.Options.{map-some}
use Rattle.herm_source.specs.Modules.{Program}
use Rattle.herm_source.specs.AcceptedRuns.{AreCodesOf}
use Rattle.herm_typed.specs.declared.statements.TypedProcess.{TypedProcess}
use Rattle.herm_typed.specs.View.{typed_process_view}
use Rattle.herm_typestate.specs.declared.labels.Labels.{Labels as LabelsOf}
use Rattle.herm_typestate.specs.Facts.{has_fact}
use Rattle.herm_flow.specs.declared.flow.Flow.{Flow as FlowOf}
use Rattle.herm_flow.specs.View.{point_view}
use Rattle.herm_check.specs.View.{labels_view}
use Rattle.herm_coerce.specs.declared.coercions.Coercions.{Coercions}
use Rattle.herm_accept.specs.Accepted.{IsAccepted, AreAccepted}
use Rattle.herm_fronts.specs.Held.{held_facts}
use Rattle.herm_translated.specs.CodeBlocks.{CheckedModule}
use Rattle.herm_good_images.specs.CheckedModules.{ListsFacts, DropsExcess}
use Rattle.herm_good_images.proofs.facts.BehindEdges.{label-closed, label-there}
use Rattle.herm_images.specs.CheckedPrograms.{checked_module, checked_modules}
use Rattle.herm_images.specs.laws.AcceptedPrograms.{AcceptedProgramsAreChecked}
use Rattle.herm_images.proofs.DroppedPaths.{edge-dropped, point-dropped}
use Rattle.herm_images.proofs.ListedFacts.{held-listed}

there-at : {X Y : Type 0} (xs : List X) (ys : List Y) (i : ℕ) (x : X) → length xs ≡ length ys → slice_get xs i ≡ Some x → (y : Y) × (slice_get ys i ≡ Some y)
there-at [] ys i x same e = let k : ⊥ = cc in absurd k
there-at (x ∷ xs) [] i y same e = absurd (omega (arith, same))
there-at (x ∷ xs) (y ∷ ys) zero z same e = (y, refl)
there-at (x ∷ xs) (y ∷ ys) (suc i) z same e = there-at xs ys i z (omega (arith, same)) e

module _ (count : ℕ) (table : TypeTable) (processes : List Process) (formed : IsWellFormedTable count table) (p : TypedProcess) (flow : FlowOf) (labels : LabelsOf) (coercions : Coercions) (typed : IsTypedProcess count table processes (typed_process_view p)) (is : IsAccepted table p flow labels coercions) where
  abbrev q : Process
  q = typed_process_view p

  abbrev here : CheckedModule
  here = checked_module table p labels coercions

  abbrev ns : List Node
  ns = process_nodes q

  -- there are as many labels as nodes
  labels-many : length labels.at.items ≡ length ns
  labels-many = is.many ∙ (sym (length-map point_view flow.points.items) ∙ (ap (λ f. length f.points) is.flow_is ∙ length-map (point table q.variables) ns))

  pub facts-listed : ListsFacts here
  facts-listed = record {
    many = length-map (λ s. held_facts table (has_fact s) q.variables) labels.at.items ∙ labels-many;
    listed = λ i facts f e.
        (let s = map-some (λ s. held_facts table (has_fact s) q.variables) (slice_get labels.at.items i) facts (sym (slice_get-map (λ s. held_facts table (has_fact s) q.variables) labels.at.items i) ∙ e) in
        let n = there-at labels.at.items ns i s.0 labels-many s.1 in
        let same : (g : Fact) → labels_view labels i g ≡ has_fact s.0 g = λ g. ap (map_or false (λ s. has_fact s g)) s.1 in
        let to : (g : Fact) → has_fact s.0 g ≡ true → labels_view labels i g ≡ true = λ g h. same g ∙ h in
        let held = held-listed table q.variables (has_fact s.0)
        (λ g h k m. sym (same h) ∙ label-closed count table processes q (labels_view labels) typed formed is.exact i n.0 n.1 g h (to g k) m)
        (λ g h. label-there count table processes q (labels_view labels) typed formed is.exact i n.0 g n.1 (to g h))
        (λ t m. formed.shallow t (typed.variables_known t m)) f in
        (λ m. to f (held.0 (subst (IsIn f) (sym s.2) m)), λ h. subst (IsIn f) s.2 (held.1 (sym (same f) ∙ h))));
  }

  pub excess-dropped : DropsExcess here
  excess-dropped = record {
    begins = is.coerced.entry;
    edges = λ i j n x at-i at-j.
        (let points = point-dropped (labels_view labels) 0 i i (map (point table q.variables) ns) here.drops (point table q.variables n) (omega arith) is.coerced.edges (slice_get-map (point table q.variables) ns i ∙ ap (option_map (point table q.variables)) at-i) in
        let edges = edge-dropped (labels_view labels) (labels_view labels i) (map (edge table q.variables n.form) (exits table q.variables n)) points.0 j (edge table q.variables n.form x) points.2 (slice_get-map (edge table q.variables n.form) (exits table q.variables n) j ∙ ap (option_map (edge table q.variables n.form)) at-j) in
        (edges.0, ap (option_and_then (λ xss. slice_get xss j)) points.1 ∙ edges.1, edges.2));
  }

module _ (count : ℕ) (program : Program) (typed : IsTypedProgram count program.types program.processes program.main) where
  abbrev Have : CheckedModule → Type 0
  Have m = ListsFacts m × DropsExcess m

  all-have : (ps : List TypedProcess) → ((p : Process) → IsIn p (map typed_process_view ps) → IsIn p program.processes) → (fs : List FlowOf) (ls : List LabelsOf) (cs : List Coercions) → AreAccepted program.types ps fs ls cs
      → AreCodesOf program (map typed_process_view ps) (map (λ (m : CheckedModule). m.code) (checked_modules program.types ps ls cs)) × ((m : CheckedModule) → IsIn m (checked_modules program.types ps ls cs) → Have m)
  all-have [] among [] [] [] h = (tt, λ m i. absurd i)
  all-have (p ∷ ps) among (f ∷ fs) (l ∷ ls) (c ∷ cs) h =
      let here = typed.modules (typed_process_view p) (among (typed_process_view p) (inl refl)) in
      let rest = all-have ps (λ q i. among q (inr i)) fs ls cs h.1 in (
        ((labels_view l, refl, h.0.exact, h.0.accepted), rest.0),
        each-first Have (checked_module program.types p l c) (checked_modules program.types ps ls cs)
            (facts-listed count program.types program.processes typed.types p f l c here h.0, excess-dropped count program.types program.processes typed.types p f l c here h.0) rest.1,
      )
  all-have ps among fs ls cs h = absurd h

pub accepted-checked : AcceptedProgramsAreChecked
accepted-checked count table processes main flows labels coercions typed accepted =
    let program : Program = record { types = table; processes = map typed_process_view processes; main = main } in
    let r = all-have count program typed processes (λ p i. i) flows labels coercions accepted in
    record {
      checked = record { typed = typed; accepted = record { types = refl; codes = r.0; main = refl } };
      lists = λ m i. (r.1 m i).0;
      drops = λ m i. (r.1 m i).1;
    }
