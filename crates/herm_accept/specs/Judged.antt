-- What the check of one process adds to what is known of the processes before it.
use Rattle.std.specs.Prelude.{◌≡◌, ◌≢◌, ℕ, List, [], ◌∷◌, ◌++◌, map, length}
use Rattle.herm_model.specs.Statements.{Process}
use Rattle.herm_model.specs.ControlPaths.{flow_of}
use Rattle.herm_model.specs.MissingFacts.{Refusal}
use Rattle.herm_model.specs.TypedPrograms.{IsTypedProcess}
use Rattle.herm_meaning.specs.Names.{NamedTable}
use Rattle.herm_typed.specs.declared.statements.TypedProcess.{TypedProcess}
use Rattle.herm_typed.specs.View.{typed_process_view}
use Rattle.herm_typed.specs.Beside.{KnowsTypes}
use Rattle.herm_typestate.specs.declared.labels.Labels.{Labels}
use Rattle.herm_flow.specs.declared.flow.Flow.{Flow}
use Rattle.herm_check.specs.Shortest.{AreShortest}
use Rattle.herm_coerce.specs.declared.coercions.Coercions.{Coercions}
use Rattle.herm_coerce.specs.View.{coercions_view}
use Rattle.herm_coerce.specs.Coerced.{AreCoercions}
use Rattle.herm_flow.specs.View.{flow_view}
use Rattle.herm_check.specs.View.{labels_view}
use Rattle.herm_accept.specs.declared.accepting.Accepted.{Accepted}
use Rattle.herm_accept.specs.declared.accepting.Lack.{Lack}
use Rattle.herm_accept.specs.Accepted.{IsAccepted}
use Rattle.herm_accept.specs.Lacking.{lack_view, lacking}

-- a process of a typed program, with the types of its paths beside them
pub record IsKnown (types : NamedTable) (p : TypedProcess) : Type 0 where
  pub processes : List Process
  pub typed : IsTypedProcess (length types.exceptions) types.shapes processes (typed_process_view p)
  pub known : KnowsTypes types.shapes p

-- a flow with labels that is added, with its coercions
pub record IsAdded (flow : Flow) (labels : Labels) (before after : Accepted) : Type 0 where
  pub coercions : Coercions
  pub coerced : AreCoercions (flow_view flow) (labels_view labels) (coercions_view coercions)
  pub flows_are : after.flows.items ≡ before.flows.items ++ flow ∷ []
  pub labels_are : after.labels.items ≡ before.labels.items ++ labels ∷ []
  pub coercions_are : after.coercions.items ≡ before.coercions.items ++ coercions ∷ []

-- one process more is accepted, or refused for what it lacks
pub data IsJudged (types : NamedTable) (number : ℕ) (p : TypedProcess) (before : Accepted) (lacks : List Lack) : Accepted → List Lack → Type 0 where
  accepts : (flow : Flow) (labels : Labels) (coercions : Coercions) (after : Accepted) → IsAccepted types.shapes p flow labels coercions
      → after.flows.items ≡ before.flows.items ++ flow ∷ [] → after.labels.items ≡ before.labels.items ++ labels ∷ [] → after.coercions.items ≡ before.coercions.items ++ coercions ∷ []
      → IsJudged types number p before lacks after lacks
  refuses : (refusals : List Refusal) (more : List Lack) → refusals ≢ [] → AreShortest (flow_of types.shapes (typed_process_view p)) refusals
      → map lack_view more ≡ map lack_view lacks ++ map (lacking types number p) refusals → IsJudged types number p before lacks before more

-- what one process lacks is added, which is nothing where it is accepted
pub record IsSearched (types : NamedTable) (number : ℕ) (p : TypedProcess) (before after : List Lack) : Type 0 where
  pub refusals : List Refusal
  pub are : AreShortest (flow_of types.shapes (typed_process_view p)) refusals
  pub added : map lack_view after ≡ map lack_view before ++ map (lacking types number p) refusals
