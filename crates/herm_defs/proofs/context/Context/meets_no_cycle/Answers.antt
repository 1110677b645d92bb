use Rattle.std.proofs.Common.{◌∙◌, ap, sym, subst, not}
use Rattle.herm_meaning.specs.Names.{NamedTable}
use Rattle.herm_meaning.specs.DefinitionFaults.{MeetsNoCycle}
use Rattle.herm_types.specs.Table.{says}
use Rattle.herm_graph.specs.Tells.{Tells}
use Rattle.herm_graph.proofs.Telling.{not-told}
use Rattle.herm_defs.specs.View.{context_view}
use Rattle.herm_defs.proofs.context.Context.meets_no_cycle.Goals as goal

pub returns : goal.returns
returns c =
    let e = c.says.ensures ∙ ap (λ tests. says tests c.args.t) c.as_slice.ensures.value in
    subst (λ (table : NamedTable). Tells (not c.says.result) (MeetsNoCycle table c.args.t)) c.self.view_is
    (subst (λ b. Tells (not b) (MeetsNoCycle (context_view c.self.inside) c.args.t)) (sym e) (not-told (MeetsNoCycle (context_view c.self.inside) c.args.t) (says c.self.inside.tests.meets_cycle.items c.args.t) (c.self.invariant.meets_cycle c.args.t)))
