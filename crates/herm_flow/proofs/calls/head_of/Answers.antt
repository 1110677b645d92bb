use Rattle.std.proofs.Common.{arith}
use Rattle.herm_flow.proofs.CallLists.{place-in}
use Rattle.herm_flow.proofs.calls.head_of.Goals as goal

pub returns-clause-member : goal.returns-clause-member
returns-clause-member c = place-in c.args.heads.now _ c.index-heads-place.result (omega arith) c.index-heads-place.is
