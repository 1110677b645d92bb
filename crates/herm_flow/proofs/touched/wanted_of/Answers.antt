use Rattle.std.proofs.Common.{◌≡◌, inl, inr, is_some, true, map, sym, ap, subst, ◌∙◌, ⊎_elim}
use Rattle.std.proofs.Math.ListN.{drop_of_length-le}
use Rattle.herm_model.specs.Lists.{IsIn}
use Rattle.herm_model.specs.Types.{Raised}
use Rattle.herm_types.specs.View.{raise_decl_view}
use Rattle.herm_flow.specs.NumberTables.{at_number}
use Rattle.herm_flow.proofs.Trails.{viewed-next}
use Rattle.herm_flow.proofs.touched.wanted_of.Goals as goal

pub each-init : goal.each-init
each-init c = record { many = c.in_ok-marks.ensures.many; wanted = λ r k p m at kept. inr m }

pub each-preserved : goal.each-preserved
each-preserved c = record {
  many = c.mark_kept.ensures.many ∙ c.each.invariant.many;
  wanted = λ r k p m at kept. ⊎_elim
      (λ h. inl (c.mark_kept.ensures.still k h))
      (λ d. ⊎_elim
      (λ e. inl (c.mark_kept.ensures.marked (ap is_some (ap (λ (x : Raised). at_number c.args.points.now x.exception) (sym (e ∙ ap raise_decl_view (sym c.raise-item.is))) ∙ at)) k (subst (λ (x : Raised). IsIn k x.kept) (e ∙ ap raise_decl_view (sym c.raise-item.is)) kept)))
      (λ b. inr b)
      (viewed-next raise_decl_view c.args.raises.now c.each.raise-index c.raise-item.result r c.each-test.true d))
      (c.each.invariant.wanted r k p m at kept);
}

pub returns-clause-wanted : goal.returns-clause-wanted
returns-clause-wanted c = λ r k p m at kept. ⊎_elim (λ h. h) (λ d. absurd (subst (λ xs. IsIn r (map raise_decl_view xs)) (drop_of_length-le c.args.raises.now c.each-test.false) d)) (c.each.invariant.wanted r k p m at kept)
