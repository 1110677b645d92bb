use Rattle.std.proofs.Common.{◌≡◌, ◌+◌, ◌-◌, false, get_or, length, map, drop, sym, ◌∙◌, subst, arith}
use Rattle.std.proofs.lemmas.List.{take_all, length-drop}
use Rattle.herm_model.specs.Lists.{any_pass}
use Rattle.herm_model.specs.Outcomes.{same_outcome}
use Rattle.herm_model.specs.Statements.{Differ}
use Rattle.herm_typed.specs.View.{outcome_view}
use Rattle.herm_flow.specs.declared.onward.OnwardEdge.{OnwardEdge as Edge}
use Rattle.herm_check.proofs.Deciding.{drop-step, apart}
use Rattle.herm_check.proofs.ready.differ.Goals as goal

pub loop-i-preserved : goal.loop-i-preserved
loop-i-preserved c h =
    let edges = c.args.edges.now in
    let i = c.loop-i.i in
    let e = c.index-edges-i.result in
    let rest = drop (i + 1) edges in
    let many = length-drop (i + 1) edges in
    let all = take_all (length edges - (i + 1)) rest (omega (arith, many)) in
    let none = subst (λ (x : Edge). any_pass (same_outcome (outcome_view x.outcome)) (map (λ (d : Edge). outcome_view d.outcome) rest) ≡ false) (sym c.index-edges-i.is)
    (subst (λ xs. any_pass (same_outcome (outcome_view (get_or edges i e).outcome)) (map (λ (d : Edge). outcome_view d.outcome) xs) ≡ false) all (sym c.is_among.ensures ∙ c.if-is_among.false)) in
    c.loop-i.invariant (subst (λ es. Differ (map (λ (d : Edge). outcome_view d.outcome) es)) (sym (drop-step edges i e c.loop-i-test.true c.index-edges-i.is)) (apart (outcome_view e.outcome) rest none, h))
