use Rattle.std.proofs.Common.{◌∙◌, ap, sym, subst}
use Rattle.herm_meaning.specs.Names.{NamedTable}
use Rattle.herm_model.specs.WellFormedTables.{IsType}
use Rattle.herm_types.specs.Table.{says}
use Rattle.herm_graph.specs.Depth.{IsBeyond}
use Rattle.herm_graph.specs.Tells.{Tells}
use Rattle.herm_defs.specs.View.{context_view}
use Rattle.herm_defs.proofs.Shapes.{beyond-told}
use Rattle.herm_defs.proofs.context.Context.is_beyond.Goals as goal

pub returns : goal.returns
returns c =
    let e = c.says-is_said.ensures ∙ ap (λ tests. says tests c.args.t) c.as_slice.ensures.value in
    let deep = subst (λ b. IsType (context_view c.self.inside).shapes c.args.t → Tells b (IsBeyond (context_view c.self.inside).shapes c.args.t)) (sym e) (c.self.invariant.deep c.args.t) in
    let there = subst (λ (table : NamedTable). IsType table.shapes c.args.t → Tells c.says-is_said.result (IsBeyond table.shapes c.args.t)) c.self.view_is deep in
    subst (λ b. Tells b (IsBeyond c.args.self.now.shapes c.args.t)) (sym c.absent_or.ensures) (beyond-told c.args.self.now c.args.t c.is_type.result c.says-is_said.result c.is_type.ensures there)
