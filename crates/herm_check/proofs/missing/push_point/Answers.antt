use Rattle.std.proofs.Common.{◌++◌, ◌∷◌, [], length, map, take, refl, sym, ◌∙◌, ap, subst, append_assoc, append-nil}
use Rattle.std.proofs.lemmas.List.{map_more, take_all}
use Rattle.std.proofs.lemmas.Option.{slice_get_read}
use Rattle.herm_model.specs.Lists.{IsIn}
use Rattle.herm_model.proofs.Lists.{in-map}
use Rattle.herm_model.proofs.FactTests.{got-IsIn}
use Rattle.herm_types.specs.View.{fact_view}
use Rattle.herm_flow.specs.OnwardView.{onward_flow_view}
use Rattle.herm_check.specs.Missing.{AreMissing, IsAdded, missing_of, demand}
use Rattle.herm_check.proofs.Reported.{map-last}
use Rattle.herm_check.proofs.missing.push_point.Goals as goal

pub loop-fact-init : goal.loop-fact-init
loop-fact-init c ds facts are h = subst (λ es. AreMissing (onward_flow_view c.args.flow.now) es (missing_of c.args.lost.now facts c.args.out.now)) (sym (append-nil ds)) h

pub push_lacking-requires-clause-noted : goal.push_lacking-requires-clause-noted
push_lacking-requires-clause-noted c lacks =
    let items = c.deref-fact-items.result.now in
    let k = c.loop-fact.fact-index in
    let f = c.fact-item.result in
    let member = subst (λ fs. IsIn (fact_view f) (map fact_view fs)) c.deref-fact-items.ensures.value (in-map fact_view f items (got-IsIn items k f (slice_get_read items (length items) k f refl c.loop-fact-test.true c.fact-item.is))) in
    c.requires.noted (fact_view f) member lacks

pub loop-fact-preserved : goal.loop-fact-preserved
loop-fact-preserved c ds facts are h =
    let one = demand c.args.at c.args.point.now.stmt.0 in
    let items = c.deref-fact-items.result.now in
    let k = c.loop-fact.fact-index in
    let fact = fact_view c.fact-item.result in
    let so_far = map fact_view (take k items) in
    let next = map_more fact_view items k c.fact-item.result c.loop-fact-test.true ∙ ap (λ x. so_far ++ fact_view x ∷ []) (sym c.fact-item.is) in
    let new = missing_of c.args.lost.now facts c.push_lacking.new.out in
    subst (λ es. AreMissing (onward_flow_view c.args.flow.now) (ds ++ es) new) (sym (ap (map one) next ∙ map-last one so_far fact))
    (subst (λ es. AreMissing (onward_flow_view c.args.flow.now) es new) (append_assoc ds (map one so_far) (one fact ∷ []))
    (c.in_ok-push_lacking.ensures (ds ++ map one so_far) facts are (c.loop-fact.invariant ds facts are h)))

pub returns : goal.returns
returns c =
    let one = demand c.args.at c.args.point.now.stmt.0 in
    let items = c.deref-fact-items.result.now in
    subst (λ xs. IsAdded (onward_flow_view c.args.flow.now) c.args.lost.now (map one (map fact_view xs)) c.args.out.now c.loop-fact.out) (take_all c.loop-fact.fact-index items c.loop-fact-test.false ∙ c.deref-fact-items.ensures.value) c.loop-fact.invariant
