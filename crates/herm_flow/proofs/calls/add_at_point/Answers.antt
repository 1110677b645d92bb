use Rattle.std.proofs.Common.{◌≡◌, ◌∷◌, [], Some, None, true, map, refl, sym, ap, subst, ◌∙◌}
use Rattle.herm_model.specs.Lists.{IsIn}
use Rattle.herm_types.proofs.Extended.{map-append}
use Rattle.herm_flow.specs.CoveredExceptions.{IsNoted}
use Rattle.herm_flow.specs.Touched.{numbers_at, touched_by}
use Rattle.herm_flow.proofs.Covering.{added_covered, added_noted}
use Rattle.herm_flow.proofs.calls.add_at_point.Goals as goal

pub returns-in_default : goal.returns-in_default
returns-in_default c = record {
  added = λ lead touched l k. added_covered lead touched c.args.touches.now.single c.args.e.0 _ _ c.args.found.now.heads.items _ true c.args.point c.touch.new.found.items l
      (λ n m. subst (IsIn n) (ap (λ lists. touched_by (numbers_at lists) c.args.keeps.now) c.as_slice-3.ensures.value ∙ k) (c.in_ok-touch.ensures.only n m))
      (subst (λ heads. IsNoted c.args.touches.now.single heads c.args.point c.touch.new.found.items None) c.as_slice-4.ensures.value
      (subst (λ o. IsNoted c.args.touches.now.single c.as_slice-4.result.now c.args.point c.touch.new.found.items o) c.in_default.is c.in_ok-noted.ensures.noted))
      refl refl;
}

pub returns : goal.returns
returns c = record {
  added = λ lead touched l k. added_noted lead touched c.args.touches.now.single c.args.e.0 _ _ c.args.found.now.heads.items _ true c.args.point c.touch.new.found.items c.in-Some.noted.items refl l
      (λ n m. c.in_ok-touch.ensures.more n (subst (IsIn n) (sym (ap (λ lists. touched_by (numbers_at lists) c.args.keeps.now) c.as_slice-3.ensures.value ∙ k)) m))
      (subst (λ heads. IsNoted c.args.touches.now.single heads c.args.point c.touch.new.found.items (Some c.in-Some.noted)) c.as_slice-4.ensures.value
      (subst (λ o. IsNoted c.args.touches.now.single c.as_slice-4.result.now c.args.point c.touch.new.found.items o) c.in-Some.is c.in_ok-noted.ensures.noted))
      (λ h m. c.in_ok-note.ensures.heads h m)
      (ap (map (λ n. n.0)) c.in_ok-push.ensures.items ∙ map-append (λ n. n.0) c.args.found.now.numbers.items (c.args.e ∷ []));
}
