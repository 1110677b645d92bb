use Rattle.std.proofs.Common.{◌<◌, length, ◌&&◌, refl, ◌∙◌, ap, arith}
use Rattle.std.proofs.lemmas.List.{length-take}
use Rattle.herm_typestate.specs.Trees.{has_mark}
use Rattle.herm_typestate.proofs.Meets.{meet_next, all_met, met_tree, met_parts, cut}
use Rattle.herm_typestate.proofs.tree.+meet.Goals as goal

pub loop-i-preserved : goal.loop-i-preserved
loop-i-preserved t c =
    let many = ap length c.truncate.ensures.items in
    let within : c.loop-i.i < length c.loop-i.trees.items = omega (arith, c.loop-i.invariant.many, c.truncate.new.self.ok) in
    let there : c.loop-i.i < length c.args.others.now = omega (arith, c.truncate.new.self.ok, many, length-take (length c.args.others.now) c.args.trees.now.items) in
    meet_next c.truncate.new.self.items c.args.others.now c.loop-i.trees.items c.loop-i.i c.index_mut-tree.result.now c.index-others-i.result _ c.loop-i.invariant within there c.index_mut-tree.ensures.value c.index-others-i.is
    (met_tree _ c.index_mut-tree.result.now c.meet_marks.new.tree c.index-others-i.result refl refl (λ m. c.meet_marks.ensures.marks m)
    (λ m q. c.meet.ensures m q ∙ met_parts _ _ _ _ (ap (λ v. v.items) c.meet_marks.ensures.parts) c.as_slice.ensures.value m q))

pub returns : goal.returns
returns t c m q =
    all_met c.truncate.new.self.items c.args.others.now c.loop-i.trees.items c.loop-i.i c.loop-i.invariant (omega (arith, c.truncate.new.self.ok)) m q
    ∙ (ap (λ ts. has_mark ts m q && has_mark c.args.others.now m q) c.truncate.ensures.items ∙ cut c.args.trees.now.items c.args.others.now m q)
