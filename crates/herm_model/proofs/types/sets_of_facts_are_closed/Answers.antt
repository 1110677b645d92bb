use Rattle.herm_model.proofs.Lists.{and-both, both-and}
use Rattle.herm_model.proofs.Prefixes.{with-closed, to-closed, full-closed}
use Rattle.herm_model.proofs.Declared.{message-closed}
use Rattle.herm_model.proofs.types.sets_of_facts_are_closed.Goals as goal

pub returns-clause-prefixes : goal.returns-clause-prefixes
returns-clause-prefixes c = λ table variables f. with-closed table variables f

pub returns-clause-paths : goal.returns-clause-paths
returns-clause-paths c = λ table variables p. to-closed table variables p

pub returns-clause-full : goal.returns-clause-full
returns-clause-full c = λ table variables p t e n w. full-closed table variables p t e n w

pub returns-clause-meets : goal.returns-clause-meets
returns-clause-meets c = λ table variables S T s t f g h k. both-and (S g) _ (s f g (and-both (S f) _ h).0 k) (t f g (and-both (S f) _ h).1 k)

pub returns-clause-messages : goal.returns-clause-messages
returns-clause-messages c = λ table message declared w. message-closed table message declared w
