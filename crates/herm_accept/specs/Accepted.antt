-- Processes that are accepted. Language reference, "Refusals of typestate".
use Rattle.std.specs.Prelude.{◌≡◌, List, [], ◌∷◌, length, ⊤}
use Rattle.herm_model.specs.Types.{TypeTable}
use Rattle.herm_model.specs.ControlPaths.{flow_of}
use Rattle.herm_model.specs.Labels.{AreExact}
use Rattle.herm_model.specs.MissingFacts as model
use Rattle.herm_typed.specs.declared.statements.TypedProcess.{TypedProcess}
use Rattle.herm_typed.specs.View.{typed_process_view}
use Rattle.herm_typestate.specs.declared.labels.Labels.{Labels}
use Rattle.herm_flow.specs.declared.flow.Flow.{Flow}
use Rattle.herm_flow.specs.View.{flow_view}
use Rattle.herm_check.specs.View.{labels_view}
use Rattle.herm_coerce.specs.declared.coercions.Coercions.{Coercions}
use Rattle.herm_coerce.specs.View.{coercions_view}
use Rattle.herm_coerce.specs.Coerced.{AreCoercions}

-- A process is accepted: each fact that a statement needs is held on every control path to it. This is its flow, the labels, one for each
-- point, are exactly what is held there, and the coercions are what each edge finalises.
pub record IsAccepted (table : TypeTable) (p : TypedProcess) (flow : Flow) (labels : Labels) (coercions : Coercions) : Type 0 where
  pub accepted : model.IsAccepted table (typed_process_view p)
  pub flow_is : flow_view flow ≡ flow_of table (typed_process_view p)
  pub many : length labels.at.items ≡ length flow.points.items
  pub exact : AreExact (flow_of table (typed_process_view p)) (labels_view labels)
  pub coerced : AreCoercions (flow_of table (typed_process_view p)) (labels_view labels) (coercions_view coercions)

-- so it is of each process, in order
abbrev pub AreAccepted : TypeTable → List TypedProcess → List Flow → List Labels → List Coercions → Type 0
AreAccepted table [] [] [] [] = ⊤
AreAccepted table (p ∷ ps) (f ∷ fs) (l ∷ ls) (c ∷ cs) = IsAccepted table p f l c × AreAccepted table ps fs ls cs
AreAccepted table _ _ _ _ = ⊥
