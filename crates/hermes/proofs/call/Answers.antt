use Rattle.hermes.proofs.call.Goals as goal

pub returns-clause-answered : goal.returns-clause-answered
returns-clause-answered g c = (c.hermes-outcome.result.report, rw c.from.ensures (rw c.into_status.ensures.status c.hermes-outcome.ensures.answered))
