use Rattle.std.proofs.Common.{◌∙◌}
use Rattle.herm_rows.proofs.Kept.{next-at, none-behind, up}
use Rattle.herm_rows.proofs.rows.Rows.node_behind.Goals as goal

pub returns-in-Some : goal.returns-in-Some
returns-in-Some g c = λ place at.
    let next = next-at c.args.self.now place c.in-Some.node.0 (rw c.in-Some.is at at) in
    c.after.ensures.node next.0 next.1.0 next.1.1.0 next.1.1.1.0 ∙ next.1.1.1.1 ∙ up c.args.self.now place

pub returns-in-None : goal.returns-in-None
returns-in-None g c = λ place at. none-behind c.args.self.now place (rw c.in-None.is at at) ∙ up c.args.self.now place
