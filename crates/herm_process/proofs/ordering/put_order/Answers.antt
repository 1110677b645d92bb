use Rattle.std.proofs.Common.{refl}
use Rattle.herm_machine.specs.Machines.{nameless}
use Rattle.herm_process.proofs.Standings.{at-alive, at-inside, put-wanted}
use Rattle.herm_process.proofs.Handed.{put-given}
use Rattle.herm_process.specs.declared.ordered.Ordered.TheVariants as ordered
use Rattle.herm_process.proofs.ordering.put_order.Goals as goal

pub letter-requires-clause-put : goal.letter-requires-clause-put
letter-requires-clause-put c image main s at = put-wanted ((nameless image main).wanted s) c.args.port.number (c.requires.put image main s at)

pub returns-clause-orders : goal.returns-clause-orders
returns-clause-orders c = (
  ordered.Put c.args.port c.sums_of-sums.result,
  refl,
  λ image main s at. put-given c.letter.new.self image main s c.args.port c.in_ok-letter.letter c.sums_of-sums.result (c.sums_of-sums.ensures.sums image main s (at-inside image main c.args.machine.now s at (c.requires.inside (at-alive image main c.args.machine.now s at)))) (c.requires.put image main s at) (c.in_ok-letter.ensures.letter image main s at) (c.in_ok-letter.ensures.out image main s at),
)
