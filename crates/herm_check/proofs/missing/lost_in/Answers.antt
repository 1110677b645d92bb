use Rattle.std.proofs.Common.{◌≡◌, ◌⊎◌, ◌≢◌, inl, inr, ℕ, ◌<◌, ◌+◌, length, map, Option, Some, None, false, slice_get, get_or, refl, sym, ◌∙◌, ap, subst, arith}
use Rattle.std.proofs.lemmas.Option.{slice_get_read, slice_get_within}
use Rattle.herm_model.specs.Lists.{IsIn}
use Rattle.herm_model.specs.Paths.{Fact}
use Rattle.herm_model.specs.ControlPaths.{Point}
use Rattle.herm_model.proofs.Lists.{length-map}
use Rattle.herm_typestate.specs.declared.state.State.{State}
use Rattle.herm_typestate.specs.Facts.{has_fact}
use Rattle.herm_flow.specs.OnwardView.{onward_point_view, onward_flow_view}
use Rattle.herm_check.specs.Missing.{IsNoted}
use Rattle.herm_check.proofs.Joined.{same_or_not}
use Rattle.herm_check.proofs.Places.{point-at}
use Rattle.herm_check.proofs.Searched.{one-at}
use Rattle.herm_check.proofs.Noted.{noted-kept}
use Rattle.herm_check.proofs.missing.lost_in.Goals as goal

none-some : (n : ℕ) → ◌≡◌ {A = Option ℕ} None (Some n) → ⊥
none-some n e = cc

pub loop-i-init : goal.loop-i-init
loop-i-init c = record {
  noted = λ i p s f before at label member lacks. absurd (omega (arith, before));
  some = λ f n at. absurd (none-some n (sym (c.none-lost.ensures f) ∙ at));
}

pub loop-i-preserved : goal.loop-i-preserved
loop-i-preserved c = record {
  noted = λ i p s f before at label member lacks. by i p s f before at label member lacks (same_or_not i c.loop-i.i);
  some = λ f n at. omega arith;
}
  where
    by : (i : ℕ) (p : Point) (s : State) (f : Fact) → i < c.loop-i.i + 1 → slice_get (onward_flow_view c.args.flow.now).points i ≡ Some p → slice_get c.args.labels.now.at.items i ≡ Some s → IsIn f p.needs → has_fact s f ≡ false → (i ≡ c.loop-i.i) ⊎ (i ≢ c.loop-i.i) → IsNoted c.note_point.new.lost f
    by i p s f before at label member lacks (inr d) = noted-kept c.loop-i.lost c.note_point.new.lost f c.in_ok-note_point.ensures.kept (c.loop-i.invariant.noted i p s f (omega (arith, before, d)) at label member lacks)
    by i p s f before at label member lacks (inl e) =
        let point = c.point-item.result in
        let state = c.index.result.now in
        let many : length c.as_slice-point-items.result.now ≡ length c.args.flow.now.points.items = ap length c.as_slice-point-items.ensures.value in
        let within : c.loop-i.i < length c.args.flow.now.points.items = omega (arith, many) in
        let inside : c.loop-i.i < length c.args.labels.now.at.items = omega (arith, c.requires, many) in
        let is = subst (λ xs. point ≡ get_or xs c.loop-i.i point) c.as_slice-point-items.ensures.value c.point-item.is in
        let here = point-at c.args.flow.now.points.items c.loop-i.i point within is in
        let one : p ≡ onward_point_view point = one-at (slice_get (map onward_point_view c.args.flow.now.points.items) i) p (onward_point_view point) at (subst (λ n. slice_get (map onward_point_view c.args.flow.now.points.items) n ≡ Some (onward_point_view point)) (sym e) here) in
        let read = slice_get_read c.args.labels.now.at.items (length c.args.labels.now.at.items) c.loop-i.i state refl inside c.index.ensures in
        let two : s ≡ state = one-at (slice_get c.args.labels.now.at.items i) s state label (subst (λ n. slice_get c.args.labels.now.at.items n ≡ Some state) (sym e) read) in
        c.in_ok-note_point.ensures.noted f (subst (λ (q : Point). IsIn f q.needs) one member) (subst (λ x. has_fact x f ≡ false) two lacks)

pub returns-clause-noted : goal.returns-clause-noted
returns-clause-noted c i p s f at label member lacks =
    let points = c.args.flow.now.points.items in
    let many : length c.as_slice-point-items.result.now ≡ length points = ap length c.as_slice-point-items.ensures.value in
    let all = length-map onward_point_view points in
    let within = slice_get_within (map onward_point_view points) i p at in
    c.loop-i.invariant.noted i p s f (omega (arith, within, all, many, c.loop-i-test.false)) at label member lacks

pub returns-clause-some : goal.returns-clause-some
returns-clause-some c f n at = let some = c.loop-i.invariant.some f n at in let many : length c.as_slice-point-items.result.now ≡ length c.args.flow.now.points.items = ap length c.as_slice-point-items.ensures.value in omega (arith, some, many)
