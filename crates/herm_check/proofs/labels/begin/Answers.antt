use Rattle.std.proofs.Common.{◌≡◌, ◌<◌, ◌∙◌, ◌∷◌, [], inl, refl, sym, ap, arith, length, map}
use Rattle.herm_model.specs.Paths.{init}
use Rattle.herm_model.specs.laws.FlowLaws.{first_of}
use Rattle.herm_model.proofs.Lists.{length-map}
use Rattle.herm_flow.specs.OnwardView.{onward_point_view, onward_flow_view}
use Rattle.herm_check.proofs.Beginning.{begun, none-begun}
use Rattle.herm_check.proofs.labels.begin.Goals as goal

pub returns : goal.returns
returns c =
    let points = c.args.flow.now.points in
    let ls = c.in_ok-labels.labels.items in
    let all : length (map onward_point_view points.items) ≡ length points.items = length-map onward_point_view points.items in
    let some : 0 < length ls = omega (arith, c.in_ok-labels.ensures.many) in
    let many : length ls ≡ length points.items = omega (arith, c.in_ok-labels.ensures.many, c.len-count.ensures, points.ok) in
    begun c.args.numbering.now.facts (onward_flow_view c.args.flow.now) ls c.in_ok-first.first (ap first_of (sym all)) (many ∙ sym all) some
    c.in_ok-labels.ensures.reached c.in_ok-labels.ensures.none c.in_ok-first.ensures.reached c.in_ok-first.ensures.pending (λ f. c.in_ok-first.ensures.facts f) c.in_ok-first.ensures.known

pub returns-then-count-eq0 : goal.returns-then-count-eq0
returns-then-count-eq0 c =
    let points = c.args.flow.now.points in
    let ls = c.in_ok-labels.labels.items in
    let all : length (map onward_point_view points.items) ≡ length points.items = length-map onward_point_view points.items in
    let many : length ls ≡ length (map onward_point_view points.items) = omega (arith, all, c.in_ok-labels.ensures.many, c.len-count.ensures, points.ok) in
    none-begun c.args.numbering.now.facts (onward_flow_view c.args.flow.now) ls many (omega (arith, c.in_ok-labels.ensures.many, c.if-count-eq0.true)) c.in_ok-labels.ensures.reached c.in_ok-labels.ensures.none

pub first_label-requires-clause-number : goal.first_label-requires-clause-number
first_label-requires-clause-number c = c.requires.numbered.numbers.all (init (0 ∷ [])) (inl refl)
