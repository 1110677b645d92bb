use Rattle.std.proofs.Common.{sym, subst, nat_lt, take}
use Rattle.herm_model.specs.Lists.{IsIn}
use Rattle.herm_graph.specs.Tells.{Tells}
use Rattle.herm_defs.proofs.Places.{before-then, before-else}
use Rattle.herm_defs.proofs.names.Names.is_before.Goals as goal

pub returns-then-place-number : goal.returns-then-place-number
returns-then-place-number c =
    subst (λ n. Tells (nat_lt c.place-place.result n) (IsIn c.args.name.now (take c.args.number c.args.self.now))) (sym c.len.ensures) (before-then c.args.self.now c.args.name.now c.args.number c.place-place.result c.place-place.ensures c.if-place-number.true)

pub returns-else-place-number : goal.returns-else-place-number
returns-else-place-number c = before-else c.args.self.now c.args.name.now c.args.number c.place-place.result c.place-place.ensures c.if-place-number.false
