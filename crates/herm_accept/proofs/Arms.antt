-- What is found of one process is judged.
use Rattle.std.proofs.Common.{◌≡◌, ◌≢◌, ℕ, ◌<◌, ◌++◌, List, [], ◌∷◌, map, length, subst, sym, ap, ◌∙◌, arith}
use Rattle.herm_model.specs.ControlPaths.{Flow, flow_of}
use Rattle.herm_model.specs.Labels.{AreExact}
use Rattle.herm_model.proofs.Lists.{length-map}
use Rattle.herm_model.proofs.DeterminedRefusals.{accepted-held}
use Rattle.herm_meaning.specs.Names.{NamedTable}
use Rattle.herm_typed.specs.declared.statements.TypedProcess.{TypedProcess}
use Rattle.herm_typed.specs.View.{typed_process_view}
use Rattle.herm_typestate.specs.declared.labels.Labels.{Labels}
use Rattle.herm_flow.specs.declared.flow.Flow.{Flow as FlowOf}
use Rattle.herm_flow.specs.View.{point_view, flow_view}
use Rattle.herm_check.specs.View.{labels_view}
use Rattle.herm_check.specs.Faults.{HasNoFault}
use Rattle.herm_check.specs.Missing.{refusal_of, refusals_of}
use Rattle.herm_check.specs.Shortest.{AreShortest}
use Rattle.herm_check.specs.declared.missing.Missing.{Missing}
use Rattle.herm_check.specs.declared.missing.MissingAt.{MissingAt}
use Rattle.herm_check.specs.declared.search.Search.{Search}
use Rattle.herm_types.specs.declared.fact.Fact.{Fact}
use Rattle.herm_coerce.specs.View.{coercions_view}
use Rattle.herm_coerce.specs.Coerced.{AreCoercions}
use Rattle.herm_accept.specs.declared.accepting.Accepted.{Accepted}
use Rattle.herm_accept.specs.declared.accepting.Lack.{Lack}
use Rattle.herm_accept.specs.Lacking.{lack_view, lacking}
use Rattle.herm_accept.specs.Judged.{IsAdded, IsJudged, accepts, refuses}

pub judged_accepted : (types : NamedTable) (number : ℕ) (p : TypedProcess) (flow : FlowOf) (labels : Labels) (before after : Accepted) (lacks : List Lack)
    → flow_view flow ≡ flow_of types.shapes (typed_process_view p) → length labels.at.items ≡ length (flow_of types.shapes (typed_process_view p)).points → AreExact (flow_of types.shapes (typed_process_view p)) (labels_view labels) → HasNoFault (flow_of types.shapes (typed_process_view p)) → IsAdded flow labels before after → IsJudged types number p before lacks after lacks
judged_accepted types number p flow labels before after lacks flow_is many exact faultless added =
    accepts flow labels added.coercions after
    (record {
      accepted = (accepted-held types.shapes (typed_process_view p)).1 faultless;
      flow_is = flow_is;
      many = many ∙ (ap (λ (f : Flow). length f.points) (sym flow_is) ∙ length-map point_view flow.points.items);
      exact = exact;
      coerced = subst (λ (f : Flow). AreCoercions f (labels_view labels) (coercions_view added.coercions)) flow_is added.coerced;
    })
    added.flows_are added.labels_are added.coercions_are

some_refusal : (lost : List Fact) (ss : List Search) (facts : List MissingAt) → 0 < length facts → map (refusal_of lost ss) facts ≢ []
some_refusal lost ss [] some e = absurd (omega (arith, some))
some_refusal lost ss (m ∷ facts) some e = cc

pub judged_refused : (types : NamedTable) (number : ℕ) (p : TypedProcess) (all : Missing) (before : Accepted) (lacks more : List Lack)
    → 0 < length all.facts.items → AreShortest (flow_of types.shapes (typed_process_view p)) (refusals_of all) → map lack_view more ≡ map lack_view lacks ++ map (lacking types number p) (refusals_of all) → IsJudged types number p before lacks before more
judged_refused types number p all before lacks more some are e =
    refuses (refusals_of all) more (some_refusal all.lost.items all.searches.items all.facts.items some) are e
