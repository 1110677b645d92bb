use Rattle.std.proofs.Common.{◌≡◌, ◌<◌, ℕ, List, ◌++◌, ◌∷◌, [], length, map, take, Some, slice_get, refl, sym, ap, subst, ◌∙◌, arith}
use Rattle.std.proofs.lemmas.List.{map_more, take_all}
use Rattle.std.proofs.lemmas.Option.{slice_get_read}
use Rattle.herm_model.specs.Lists.{IsIn}
use Rattle.herm_model.proofs.Lists.{length-map}
use Rattle.herm_model.proofs.FactTests.{got-IsIn}
use Rattle.herm_flow.specs.declared.onward.OnwardEdge.{OnwardEdge}
use Rattle.herm_flow.specs.declared.onward.OnwardPoint.{OnwardPoint}
use Rattle.herm_flow.specs.OnwardView.{onward_point_view, onward_flow_view}
use Rattle.herm_facts.specs.declared.fact_numbers.FactNumbers.{FactNumbers}
use Rattle.herm_check.specs.View.{edge_in}
use Rattle.herm_check.specs.Lists.{AreListsOf}
use Rattle.herm_check.specs.Labelled.{all_facts, holds_at, IsLeft}
use Rattle.herm_check.specs.Followed.{IsFollowed}
use Rattle.herm_check.proofs.Leaving.{left-followed, followed-weight, all-left}
use Rattle.herm_check.proofs.FactsNumbered.{made-numbered}
use Rattle.herm_check.proofs.Places.{edge-in, point-at}
use Rattle.herm_check.proofs.labels.follow_all.Goals as goal

pub index-lists-requires : goal.index-lists-requires
index-lists-requires c = omega (arith, c.requires.within, c.requires.numbered.lists.many, c.args.numbering.now.lists.ok)

pub follow-requires-clause-there : goal.follow-requires-clause-there
follow-requires-clause-there c =
    let points = c.args.flow.now.points.items in
    let p = c.index-point.result.now in
    let e = c.index-edge.result.now in
    let there = c.requires.there (onward_point_view p) (edge_in p e) (got-IsIn (map onward_point_view points) c.args.i (onward_point_view p) (point-at points c.args.i p c.requires.within c.index-point.ensures))
    (edge-in p p.edges.items c.loop-k.k e refl (omega (arith, c.loop-k-test.true, c.len-k-end.ensures, p.edges.ok)) c.index-edge.ensures) in
    subst (λ n. e.to < n) (sym c.loop-k.invariant.left.are_true.many) there

pub follow-requires-clause-within : goal.follow-requires-clause-within
follow-requires-clause-within c =
    let many = c.loop-k.invariant.left.are_true.many in
    let all : length (map onward_point_view c.args.flow.now.points.items) ≡ length c.args.flow.now.points.items = length-map onward_point_view c.args.flow.now.points.items in
    let within = c.requires.within in
    omega (arith, many, all, within)

pub loop-k-preserved : goal.loop-k-preserved
loop-k-preserved c = record {
  left = subst (λ es. IsLeft ns (onward_flow_view c.args.flow.now) c.args.i es c.follow.new.labels.items)
      (ap (λ x. map (edge_in p) (take k items) ++ edge_in p x ∷ []) c.index-edge.ensures ∙ sym (map_more (edge_in p) items k e inside))
      (left-followed ns (onward_flow_view c.args.flow.now) c.requires.differ c.args.i (onward_point_view p) (edge_in p e) (point-at points c.args.i p c.requires.within c.index-point.ensures)
      (edge-in p items k e refl inside c.index-edge.ensures)
      c.loop-k.labels.items c.follow.new.labels.items followed (map (edge_in p) (take k items)) c.loop-k.invariant.left);
  less =
      let less = followed-weight ns (all_facts c.args.flow.now) (edge_in p e) (holds_at ns c.loop-k.labels.items c.args.i) c.loop-k.labels.items c.follow.new.labels.items followed c.requires.numbered.numbers.only in
      omega (arith, less, c.loop-k.invariant.less);
}
  where
    ns : FactNumbers
    ns = c.args.numbering.now.facts

    points : List OnwardPoint
    points = c.args.flow.now.points.items

    p : OnwardPoint
    p = c.index-point.result.now

    e : OnwardEdge
    e = c.index-edge.result.now

    items : List OnwardEdge
    items = c.index-point.result.now.edges.items

    k : ℕ
    k = c.loop-k.k

    inside : c.loop-k.k < length c.index-point.result.now.edges.items
    inside = omega (arith, c.loop-k-test.true, c.len-k-end.ensures, c.index-point.result.now.edges.ok)

    here : slice_get points c.args.i ≡ Some p
    here = slice_get_read points (length points) c.args.i p refl c.requires.within c.index-point.ensures

    lists : AreListsOf ns p c.index-lists.result.now
    lists =
        let rows = c.args.numbering.now.lists.items in
        c.requires.numbered.lists.each c.args.i p c.index-lists.result.now here
        (slice_get_read rows (length rows) c.args.i c.index-lists.result.now refl (omega (arith, c.requires.within, c.requires.numbered.lists.many)) c.index-lists.ensures)

    followed : IsFollowed ns (edge_in p e) (holds_at ns c.loop-k.labels.items c.args.i) c.loop-k.labels.items c.follow.new.labels.items
    followed = c.in_ok-follow.ensures ns p c.requires.numbered.apart lists (made-numbered c.args.flow.now c.args.numbering.now c.requires.numbered p e (got-IsIn points c.args.i p here)) c.loop-k.invariant.left.are_true.known

pub returns-clause-labels : goal.returns-clause-labels
returns-clause-labels c =
    let p = c.index-point.result.now in
    let items = p.edges.items in
    all-left c.args.numbering.now.facts (onward_flow_view c.args.flow.now) c.args.i (onward_point_view p) c.loop-k.labels.items (point-at c.args.flow.now.points.items c.args.i p c.requires.within c.index-point.ensures)
    (subst (λ es. IsLeft c.args.numbering.now.facts (onward_flow_view c.args.flow.now) c.args.i es c.loop-k.labels.items) (ap (map (edge_in p)) (take_all c.loop-k.k items (omega (arith, c.loop-k-test.false, c.len-k-end.ensures, p.edges.ok)))) c.loop-k.invariant.left)
