use Rattle.std.proofs.Common.{refl}
use Rattle.herm_typestate.proofs.Marks.{on_err}
use Rattle.herm_facts.proofs.Giving.{same_tree}
use Rattle.herm_facts.proofs.numbered.give_own.Goals as goal

pub returns-in_err-push-in-Some-clause-err : goal.returns-in_err-push-in-Some-clause-err
returns-in_err-push-in-Some-clause-err c = on_err c.from_residual.result (same_tree _ c.args.tree.now refl c.in_err-push-in-Some.ensures.items (λ q. refl))
