use Rattle.herm_model.proofs.NamesWeigh.{weigh-set_at, weigh-finalised}
use Rattle.herm_model.proofs.values.names_are_kept.Goals as goal

pub returns-clause-change : goal.returns-clause-change
returns-clause-change c = λ w p o ps h. weigh-set_at w p o ps h

pub returns-clause-finalised : goal.returns-clause-finalised
returns-clause-finalised c = λ w x. weigh-finalised w x
