use Rattle.std.proofs.Common.{◌∙◌, ap, sym, List, Bool, length, subst, refl}
use Rattle.herm_types.specs.Chosen.{lists}
use Rattle.herm_graph.specs.Graph.{AreReached}
use Rattle.herm_graph.proofs.Reaching.{kept-back, settled}
use Rattle.herm_graph.proofs.graph.reached.Goals as goal

pub returns : goal.returns
returns c =
    let back = kept-back c.pass.new.found c.passes.found.items c.passes.found.len (c.pass.auto.found ∙ ap length c.as_mut_slice-in-passes.ensures.value) c.passes.found.ok.0 in
    let before = subst (λ (found : List Bool). AreReached c.args.rule c.args.goal.now (lists c.args.next.now) found) (sym c.as_mut_slice-in-passes.ensures.value) c.passes.invariant.reached in
    rw back (settled c.args.rule c.args.goal.now c.args.next.now c.pass.new.found (c.passes-test.ensures.reached before) (c.passes-test.ensures.done refl))
