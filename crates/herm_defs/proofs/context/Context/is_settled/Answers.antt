use Rattle.std.proofs.Common.{◌∙◌, ap, sym, subst}
use Rattle.herm_meaning.specs.Names.{NamedTable}
use Rattle.herm_meaning.specs.DefinitionFaults.{IsSettled}
use Rattle.herm_model.specs.WellFormedTables.{IsType}
use Rattle.herm_types.specs.Table.{says}
use Rattle.herm_graph.specs.Tells.{Tells, Refutes}
use Rattle.herm_defs.specs.View.{context_view}
use Rattle.herm_defs.proofs.Shapes.{settled-told}
use Rattle.herm_defs.proofs.context.Context.is_settled.Goals as goal

pub returns : goal.returns
returns c =
    let e = c.says-is_said.ensures ∙ ap (λ tests. says tests c.args.t) c.as_slice.ensures.value in
    let settled = subst (λ b. IsType (context_view c.self.inside).shapes c.args.t → Refutes b (IsSettled (context_view c.self.inside) c.args.t)) (sym e) (c.self.invariant.unsettled c.args.t) in
    let there = subst (λ (table : NamedTable). IsType table.shapes c.args.t → Refutes c.says-is_said.result (IsSettled table c.args.t)) c.self.view_is settled in
    subst (λ b. Tells b (IsSettled c.args.self.now c.args.t)) (sym c.present_and_not.ensures) (settled-told c.args.self.now c.args.t c.is_type.result c.says-is_said.result c.is_type.ensures there)
