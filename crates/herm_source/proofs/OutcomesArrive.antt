-- From an outcome to the point where it leads: sound values stay sound.
use Rattle.std.proofs.Common.{◌≡◌, find, Option, Some, None, option_map, refl, sym, ◌∙◌, ap, subst}
use Rattle.herm_model.specs.Outcomes.{Outcome, same_outcome}
use Rattle.herm_model.specs.Nodes.{Node, process_nodes}
use Rattle.herm_model.specs.Exits.{Exit, exits}
use Rattle.herm_model.specs.Targets.{Target, node}
use Rattle.herm_model.specs.ControlPaths.{flow_of, edge, point, held_after_edge, IsReached}
use Rattle.herm_model.specs.Labels.{label_at}
use Rattle.herm_model.specs.laws.FlowLaws.{goes_on}
use Rattle.herm_model.proofs.Lists.{in-map, found-in, slice_get-map}
use Rattle.herm_model.proofs.DifferentOutcomes.{process-EdgesDiffer}
use Rattle.herm_model.proofs.Reached.{same_outcome-is, reached-IsLedTo, reached-led}
use Rattle.herm_model.proofs.Options.{none-not_some}
use Rattle.herm_forms.specs.Frames.{Name, Frame}
use Rattle.herm_forms.specs.EdgeFinalising.{arrive}
use Rattle.herm_forms.specs.Modules.{Module, module_of}
use Rattle.herm_source.specs.States.{State}
use Rattle.herm_forms.specs.laws.EdgeLaws.{AreSound, held_after}
use Rattle.herm_source.specs.Arriving.{OutcomesArrive}
use Rattle.herm_forms.proofs.Arrivals.{edges-arrive}

-- the state behind an outcome, with the exit that it takes
module _ (c : Module) (s : State Name) (n : Node) (o : Outcome) (b : Frame Name) where
  record Taken (t : State Name) : Type 0 where
    exit : Exit
    found : find (λ (e : Exit). same_outcome e.outcome o) (exits c.types c.variables n) ≡ Some exit
    is : record { module_number = s.module_number; point = exit.target; frame = arrive c exit.target b } ≡ t

  taken_by : (t : State Name) (x : Option Exit) → find (λ (e : Exit). same_outcome e.outcome o) (exits c.types c.variables n) ≡ x
      → option_map (λ (t : Target). record { module_number = s.module_number; point = t; frame = arrive c t b }) (option_map (λ (e : Exit). e.target) x) ≡ Some t → Taken t
  taken_by t None at h = none-not_some h
  taken_by t (Some e) at h = record { exit = e; found = at; is = cc h }

pub outcomes-arrive : OutcomesArrive
outcomes-arrive types p labels formed exact deep i n reached at o b sound s t is =
    let c = module_of types p labels in
    let x = taken_by c s n o b t (find (λ (e : Exit). same_outcome e.outcome o) (exits types p.variables n)) refl is in
    let found = found-in (λ (e : Exit). same_outcome e.outcome o) x.exit (exits types p.variables n) x.found in
    let same = same_outcome-is (x.exit).outcome o found.1 in
    let e = edge types p.variables n.form x.exit in
    let here = slice_get-map (point types p.variables) (process_nodes p) i ∙ ap (option_map (point types p.variables)) at in
    let member = in-map (edge types p.variables n.form) x.exit (exits types p.variables n) found.0 in
    let differ = process-EdgesDiffer types p formed in
    let there = (reached-led (flow_of types p) differ (x.exit).target).1 (goes_on i (point types p.variables n) e (reached-IsLedTo (flow_of types p) (node i) reached) here member) in
    let behind_exit : AreSound c (λ f. held_after_edge e f (labels i f)) b.variables = subst (λ o. AreSound c (held_after types p.variables n.form o (labels i)) b.variables) (sym same) sound in
    let arrived = edges-arrive types p labels formed exact deep i (point types p.variables n) e reached here member b behind_exit in
    subst (λ (t : State Name). IsReached (flow_of types p) t.point × AreSound c (label_at labels t.point) t.frame.variables) x.is (there, arrived)
