-- The types beside the paths of a process tell what the outcomes of its statements depend on; and its points are those of its body.
use Rattle.std.proofs.Common.{◌≡◌, ℕ, List, [], ◌∷◌, ◌++◌, map, Option, None, sym, ap, ap₂, ◌∙◌, subst}
use Rattle.herm_model.specs.Types.{TypeTable}
use Rattle.herm_model.specs.Targets.{end}
use Rattle.herm_model.specs.Nodes.{nodes_in}
use Rattle.herm_model.specs.ControlPaths as paths
use Rattle.herm_model.specs.ControlPaths.{flow_of, point}
use Rattle.herm_typed.specs.declared.statements.TypedStmt.{TypedStmt}
use Rattle.herm_typed.specs.declared.statements.TypedProcess.{TypedProcess}
use Rattle.herm_typed.specs.declared.statements.TypedForm.{TypedForm}
use Rattle.herm_typed.specs.declared.statements.TypedForm.TheBlock as forms
use Rattle.herm_typed.specs.View.{typed_stmts_view, typed_process_view}
use Rattle.herm_typed.specs.Within.{all_statements}
use Rattle.herm_typed.specs.Beside.{HasTypes, KnowsTypes}
use Rattle.herm_typed.specs.Outcomes.{KnowsOutcomes}
use Rattle.herm_flow.specs.declared.kept.Kept.{Kept}
use Rattle.herm_flow.specs.declared.kept.Kept.TheVariants.{All, Onward}
use Rattle.herm_flow.specs.declared.kept.Points.{Points}
use Rattle.herm_flow.specs.View.{point_view}
use Rattle.herm_flow.specs.OnwardView.{onward_point_view}
use Rattle.herm_flow.specs.KnownOutcomes.{AllKnow}
use Rattle.herm_flow.specs.Kept.{points_view, AreKept, Adds}

abbrev first_type : List (Option ℕ) → Option ℕ
first_type [] = None
first_type (o ∷ os) = o

pub outcomes_known : (table : TypeTable) (variables : List ℕ) (form : TypedForm) → HasTypes table variables form → KnowsOutcomes table variables form
outcomes_known table variables (forms.New x) h = ap first_type h
outcomes_known table variables (forms.Call o arguments) h = ap first_type h
outcomes_known table variables _ h = tt

pub all_known : (table : TypeTable) (variables : List ℕ) (list : List TypedStmt) (p : TypedProcess) → variables ≡ map (λ v. v.of.0) p.vars.items → list ≡ p.body.items → KnowsTypes table p → AllKnow table variables (all_statements list)
all_known table variables list p e f k =
    subst (λ ns. AllKnow table ns (all_statements list)) (sym e)
    (subst (λ ts. AllKnow table (map (λ v. v.of.0) p.vars.items) (all_statements ts)) (sym f)
    (λ t h. outcomes_known table (map (λ v. v.of.0) p.vars.items) t.form (k t h)))

no-points : (k : Kept) (points : Points) → points.whole.items ≡ [] → points.onward.items ≡ [] → points_view k points ≡ []
no-points All points e f = ap (map point_view) e
no-points Onward points e f = ap (map onward_point_view) f

-- the points of a process are those of its body
pub points_seen : (k : Kept) (table : TypeTable) (variables : List ℕ) (list : List TypedStmt) (p : TypedProcess) (old new : Points) → variables ≡ map (λ v. v.of.0) p.vars.items → list ≡ p.body.items → old.whole.items ≡ [] → old.onward.items ≡ []
    → Adds k (points_view k old) (points_view k new) (map (point table variables) (nodes_in (typed_stmts_view list) 1 0 (record { behind = end; catches = []; exit = end }))) → AreKept k (flow_of table (typed_process_view p)).points (points_view k new)
points_seen k table variables list p old new e f whole onward h =
    subst (AreKept k (flow_of table (typed_process_view p)).points) (sym (h.1 ∙ ap (λ (ps : List paths.Point). ps ++ h.0) (no-points k old whole onward)))
    (subst (λ (ps : List paths.Point). AreKept k ps h.0) (ap₂ (λ ns ts. map (point table ns) (nodes_in (typed_stmts_view ts) 1 0 (record { behind = end; catches = []; exit = end }))) e f) h.2)
