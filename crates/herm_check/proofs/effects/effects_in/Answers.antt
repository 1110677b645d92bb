use Rattle.std.proofs.Common.{◌≡◌, ◌⊎◌, inl, inr, ℕ, List, ◌<◌, ◌∷◌, [], length, Some, slice_get, ap, refl, sym, ◌∙◌, subst, arith, length-append}
use Rattle.std.proofs.lemmas.Option.{slice_get_read, slice_get_within}
use Rattle.std.specs.declared.vec.Vec.{Vec}
use Rattle.std.specs.declared.alloc.Global.{Global}
use Rattle.herm_flow.specs.declared.onward.OnwardPoint.{OnwardPoint}
use Rattle.herm_check.specs.declared.effects.Effect.{Effect}
use Rattle.herm_check.specs.declared.lists.ListsOf.{ListsOf}
use Rattle.herm_check.specs.Effects.{AreEffectsBy}
use Rattle.herm_check.proofs.Searched.{one-at}
use Rattle.herm_check.proofs.Following.{old-or-last}
use Rattle.herm_check.proofs.effects.effects_in.Goals as goal

pub loop-i-init : goal.loop-i-init
loop-i-init c = record {
  many = ap length c.in_ok-effects.ensures.items;
  each = λ i p k row at listed there. absurd (let within = slice_get_within c.in_ok-effects.effects.items i row there in omega (arith, within, ap length c.in_ok-effects.ensures.items));
}

pub loop-i-preserved : goal.loop-i-preserved
loop-i-preserved c = record {
  many = omega (arith, ap length c.in_ok-push.ensures.items, length-append old (new ∷ []), c.loop-i.invariant.many);
  each = λ i q m row at listed there. by i q m row at listed (old-or-last old new i row (subst (λ rows. slice_get rows i ≡ Some row) c.in_ok-push.ensures.items there));
}
  where
    old : List (Vec Effect Global)
    old = c.loop-i.effects.items

    new : Vec Effect Global
    new = c.in_ok-effects_at.field-0

    within : c.loop-i.i < length c.args.flow.now.points.items
    within = omega (arith, c.loop-i-test.true, c.loop-i.auto.i-end, c.len-i-end.ensures, c.args.flow.now.points.ok)

    by : (i : ℕ) (q : OnwardPoint) (m : ListsOf) (row : Vec Effect Global) → slice_get c.args.flow.now.points.items i ≡ Some q → slice_get c.args.lists.now i ≡ Some m → (slice_get c.loop-i.effects.items i ≡ Some row) ⊎ ((i ≡ length c.loop-i.effects.items) × (row ≡ c.in_ok-effects_at.field-0)) → AreEffectsBy m c.args.search q.edges.items row.items
    by i q m row at listed (inl before) = c.loop-i.invariant.each i q m row at listed before
    by i q m row at listed (inr last) =
        let n = c.loop-i.i in
        let lists = c.args.lists.now in
        let p = c.index.result.now in
        let k = c.index-lists-i.result in
        let is : i ≡ n = last.0 ∙ c.loop-i.invariant.many in
        let here = slice_get_read c.args.flow.now.points.items (length c.args.flow.now.points.items) n p refl within c.index.ensures in
        let found = slice_get_read lists (length lists) n k refl (omega (arith, within, c.requires)) c.index-lists-i.is in
        let same_point = one-at (slice_get c.args.flow.now.points.items n) p q here (subst (λ x. slice_get c.args.flow.now.points.items x ≡ Some q) is at) in
        let same_lists = one-at (slice_get lists n) k m found (subst (λ x. slice_get lists x ≡ Some m) is listed) in
        subst (λ (x : Vec Effect Global). AreEffectsBy m c.args.search q.edges.items x.items) (sym last.1)
        (subst (λ (x : OnwardPoint). AreEffectsBy m c.args.search x.edges.items c.in_ok-effects_at.field-0.items) same_point
        (subst (λ x. AreEffectsBy x c.args.search p.edges.items c.in_ok-effects_at.field-0.items) same_lists
        (subst (λ es. AreEffectsBy k c.args.search es c.in_ok-effects_at.field-0.items) c.as_slice-edges.ensures.value c.in_ok-effects_at.ensures)))

pub returns : goal.returns
returns c = record {
  many = omega (arith, c.loop-i.invariant.many, c.loop-i-test.false, c.loop-i.auto.i-end, c.len-i-end.ensures, c.args.flow.now.points.ok);
  each = c.loop-i.invariant.each;
}
