use Rattle.std.proofs.Common.{◌≡◌, ap, ◌∙◌}
use Rattle.std.proofs.Math.Facts.{Fits-lt-pow}
use Rattle.herm_flow.proofs.Trails.{trail-next, end_of, end-more}
use Rattle.herm_flow.proofs.touched.trail.Goals as goal

pub parts-preserved : goal.parts-preserved
parts-preserved c = record {
  own = c.in_ok-before-2.ensures.own;
  stay = λ k n h. c.in_ok-before-2.ensures.stay k n (c.parts.invariant.stay k n h);
  trail = trail-next c.args.path.now.var.0 c.as_slice-parts.result.now c.parts.step-index c.parts.paths.numbers c.number_of-in-parts.new.paths.numbers c.parts.found.items c.push-in-parts.new.self.items c.in_ok-before-2.before c.parts.before
      c.parts-test.true (Fits-lt-pow (c.type_inv.parts c.parts.step-index)) c.in_ok-before-2.ensures.stay c.in_ok-before-2.ensures.number c.parts.invariant.end c.in_ok-push-2.ensures.items c.parts.invariant.trail;
  end = ap (λ ns. end_of ns 0) c.in_ok-push-2.ensures.items ∙ end-more c.parts.found.items c.in_ok-before-2.before 0;
}
