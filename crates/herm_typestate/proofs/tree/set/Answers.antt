use Rattle.std.proofs.Common.{nat_eq, refl, ap}
use Rattle.herm_model.specs.Lists.{any_pass}
use Rattle.herm_typestate.proofs.Marks.{same_tree, on_err}
use Rattle.herm_typestate.proofs.tree.set.Goals as goal

pub returns-in_err-know-in-Component-clause-err : goal.returns-in_err-know-in-Component-clause-err
returns-in_err-know-in-Component-clause-err c = on_err c.from_residual.result (same_tree _ c.args.tree.now refl (λ k. ap (any_pass (nat_eq k)) c.in_err-know-in-Component.ensures.err) (λ m q. refl))
