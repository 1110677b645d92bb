use Rattle.herm_accept.proofs.Readiness.{all_reached}
use Rattle.herm_accept.proofs.accepting.flow.Goals as goal

pub flow_of-requires : goal.flow_of-requires
flow_of-requires c = record { known = c.requires.known }

pub returns : goal.returns
returns c = c.in_ok-flow.ensures.flow (all_reached c.args.types.now c.args.p.now c.requires)
