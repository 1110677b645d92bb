-- What the check finds of an onward flow of a process is so of the flow of the process.
use Rattle.std.proofs.Common.{◌≡◌, length, ◌∙◌, Result, Ok, Err, IfOk, IfErr}
use Rattle.herm_model.specs.Types.{TypeTable}
use Rattle.herm_model.specs.Statements.{Process}
use Rattle.herm_model.specs.ControlPaths.{flow_of}
use Rattle.herm_model.specs.Labels.{AreExact}
use Rattle.herm_typestate.specs.declared.labels.Labels.{Labels}
use Rattle.herm_flow.specs.declared.onward.OnwardFlow.{OnwardFlow}
use Rattle.herm_flow.specs.OnwardView.{onward_flow_view}
use Rattle.herm_check.specs.View.{labels_view}
use Rattle.herm_check.specs.Faults.{HasNoFault, IsFault}
use Rattle.herm_check.specs.Missing.{refusals_of}
use Rattle.herm_check.specs.declared.checking.CheckFault.{CheckFault}
use Rattle.herm_check.specs.declared.checking.CheckFault.TheVariants.{Missing, Memory}
use Rattle.herm_accept.specs.Onward.{IsOnwardReady}
use Rattle.herm_accept.proofs.OnwardPaths.{exact-onward, faultless-onward, shortest-onward}
use Rattle.herm_accept.proofs.OnwardReady.{points-many}

module _ (types : TypeTable) (p : Process) (flow : OnwardFlow) (ready : IsOnwardReady types p flow) where
  pub many_checked : (found : Result Labels CheckFault) → IfOk found (λ labels. length labels.at.items ≡ length flow.points.items) → IfOk found (λ labels. length labels.at.items ≡ length (flow_of types p).points)
  many_checked (Ok labels) many = many ∙ points-many types p flow ready.flow
  many_checked (Err fault) h = tt

  pub exact_checked : (found : Result Labels CheckFault) → IfOk found (λ labels. AreExact (onward_flow_view flow) (labels_view labels)) → IfOk found (λ labels. AreExact (flow_of types p) (labels_view labels))
  exact_checked (Ok labels) exact = exact-onward (flow_of types p) (onward_flow_view flow) ready.flow ready.of_differ (labels_view labels) exact
  exact_checked (Err fault) h = tt

  pub faultless_checked : (found : Result Labels CheckFault) → IfOk found (λ labels. HasNoFault (onward_flow_view flow)) → IfOk found (λ labels. HasNoFault (flow_of types p))
  faultless_checked (Ok labels) faultless = faultless-onward (flow_of types p) (onward_flow_view flow) ready.flow ready.of_differ faultless
  faultless_checked (Err fault) h = tt

  fault-of : (fault : CheckFault) → IsFault (onward_flow_view flow) fault → IsFault (flow_of types p) fault
  fault-of (Missing missing) (some, placed, shortest) = (some, placed, shortest-onward (flow_of types p) (onward_flow_view flow) ready.flow ready.of_differ (refusals_of missing) shortest)
  fault-of Memory h = tt

  pub fault_checked : (found : Result Labels CheckFault) → IfErr found (λ fault. IsFault (onward_flow_view flow) fault) → IfErr found (λ fault. IsFault (flow_of types p) fault)
  fault_checked (Ok labels) h = tt
  fault_checked (Err fault) h = fault-of fault h
