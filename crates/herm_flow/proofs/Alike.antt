-- Outcomes that make and take away the same.
use Rattle.std.proofs.Common.{◌≡◌, ℕ, ◌<◌, List, map, length, get_or, Vec, Global, refl, sym, ap, ◌∙◌}
use Rattle.std.proofs.lemmas.Option.{slice_get_read}
use Rattle.herm_model.specs.Lists.{IsIn}
use Rattle.herm_model.specs.Statements as model
use Rattle.herm_model.specs.ControlPaths as paths
use Rattle.herm_model.specs.FactsOfStatements.{closed, makes, kills, received_at, set_at}
use Rattle.herm_model.proofs.Lists.{in-map}
use Rattle.herm_model.proofs.FactTests.{got-IsIn}
use Rattle.herm_typed.specs.declared.expressions.TypedPath.{TypedPath}
use Rattle.herm_typed.specs.declared.statements.TypedStmt.{TypedStmt}
use Rattle.herm_typed.specs.declared.statements.TypedForm.{TypedForm, Select}
use Rattle.herm_typed.specs.declared.outcome_list.Outcome.{Outcome}
use Rattle.herm_typed.specs.declared.outcome_list.Outcome.TheVariants.{Arm}
use Rattle.herm_typed.specs.Blocks.{typed_arm_view}
use Rattle.herm_typed.specs.View.{outcome_view}
use Rattle.herm_judge.specs.declared.frame.Frame.{Frame}
use Rattle.herm_judge.specs.View.{table_of, variables_of}
use Rattle.herm_effects.specs.Rows.{makes_at, kills_at}
use Rattle.herm_effects.proofs.Arms.{of_select}
use Rattle.herm_flow.specs.declared.flow.Edge.{Edge}
use Rattle.herm_flow.specs.View.{edge_view}
use Rattle.herm_flow.specs.Edges.{AreEdgesOf}

-- two arms of a `select` at which the same is received, and by which the same is taken away
module _ (frame : Frame) (form : TypedForm) (arms : Vec (TypedPath × TypedPath × Vec TypedStmt Global) Global) (list : List (TypedPath × TypedPath × Vec TypedStmt Global)) (is : form ≡ Select arms) (same : list ≡ arms.items)
    (a b : Outcome) (m n : ℕ) (at-a : a ≡ Arm m) (at-b : b ≡ Arm n) where
  pub makes-alike : received_at (table_of frame) (variables_of frame) (map typed_arm_view list) m ≡ received_at (table_of frame) (variables_of frame) (map typed_arm_view list) n → makes_at frame form a ≡ makes_at frame form b
  makes-alike h =
      sym (of_select (λ f. makes (table_of frame) (variables_of frame) f (outcome_view a)) form arms list is same)
      ∙ (ap (λ o. makes (table_of frame) (variables_of frame) (model.Select (map typed_arm_view list)) (outcome_view o)) at-a
      ∙ (ap (closed (table_of frame) (variables_of frame)) h
      ∙ (sym (ap (λ o. makes (table_of frame) (variables_of frame) (model.Select (map typed_arm_view list)) (outcome_view o)) at-b)
      ∙ of_select (λ f. makes (table_of frame) (variables_of frame) f (outcome_view b)) form arms list is same)))

  pub kills-alike : set_at (table_of frame) (variables_of frame) (map typed_arm_view list) m ≡ set_at (table_of frame) (variables_of frame) (map typed_arm_view list) n → kills_at frame form a ≡ kills_at frame form b
  kills-alike h =
      sym (of_select (λ f. kills (table_of frame) (variables_of frame) f (outcome_view a)) form arms list is same)
      ∙ (ap (λ o. kills (table_of frame) (variables_of frame) (model.Select (map typed_arm_view list)) (outcome_view o)) at-a
      ∙ (h
      ∙ (sym (ap (λ o. kills (table_of frame) (variables_of frame) (model.Select (map typed_arm_view list)) (outcome_view o)) at-b)
      ∙ of_select (λ f. kills (table_of frame) (variables_of frame) f (outcome_view b)) form arms list is same)))

-- an edge among those of a form makes and takes away what its outcome does
module _ (frame : Frame) (form : TypedForm) (edges : List Edge) (of : AreEdgesOf (table_of frame) (variables_of frame) form (map edge_view edges)) (k : ℕ) (e : Edge) (within : k < length edges) (is : e ≡ get_or edges k e) where
  among : IsIn (edge_view e) (map edge_view edges)
  among = in-map edge_view e edges (got-IsIn edges k e (slice_get_read edges (length edges) k e refl within is))

  pub edge-makes : (edge_view e).makes ≡ makes_at frame form e.outcome
  edge-makes = ap (λ (x : paths.Edge). x.makes) (of (edge_view e) among)

  pub edge-kills : (edge_view e).kills ≡ kills_at frame form e.outcome
  edge-kills = ap (λ (x : paths.Edge). x.kills) (of (edge_view e) among)
