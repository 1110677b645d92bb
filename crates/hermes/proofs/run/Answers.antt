use Rattle.std.proofs.Common.{sym}
use Rattle.hermes.proofs.run.Goals as goal

pub returns-clause-ends : goal.returns-clause-ends
returns-clause-ends g c = rw c.in-Ok.is (rw (sym c.deref.ensures.value) c.call.ensures.answered)

pub returns-clause-asked : goal.returns-clause-asked
returns-clause-asked g c = rw c.in-Ok.is (rw (sym c.deref.ensures.value) c.call.ensures.asked)
