use Rattle.std.proofs.Common.{◌<◌, ◌++◌, ◌∷◌, [], take, sym, ◌∙◌, ap, subst, arith}
use Rattle.std.proofs.lemmas.List.{take_more, take_all}
use Rattle.herm_model.specs.Lists.{IsIn}
use Rattle.herm_model.proofs.Lists.{each-joined, each-first, each-none}
use Rattle.herm_flow.specs.declared.onward.OnwardEdge.{OnwardEdge}
use Rattle.herm_check.proofs.ready.lead_there.Goals as goal

pub loop-edge-preserved : goal.loop-edge-preserved
loop-edge-preserved c e member =
    let edges = c.args.edges.now in
    let i = c.loop-edge.edge-index in
    let d = c.edge-item.result in
    let more = take_more edges i d c.loop-edge-test.true ∙ ap (λ x. take i edges ++ x ∷ []) (sym c.edge-item.is) in
    each-joined (λ (x : OnwardEdge). x.to < c.args.count) (take i edges) (d ∷ []) c.loop-edge.invariant
    (each-first (λ (x : OnwardEdge). x.to < c.args.count) d [] (omega arith) (each-none (λ (x : OnwardEdge). x.to < c.args.count))) e (subst (IsIn e) more member)

pub returns : goal.returns
returns c _ e member = c.loop-edge.invariant e (subst (IsIn e) (sym (take_all c.loop-edge.edge-index c.args.edges.now c.loop-edge-test.false)) member)
