use Rattle.herm_words.proofs.NumbersWithin.{nodes-placed, sites-as-many}
use Rattle.herm_words.proofs.laws.sites_are_of_nodes.Goals as goal

pub returns-clause-nodes : goal.returns-clause-nodes
returns-clause-nodes c = nodes-placed

pub returns-clause-count : goal.returns-clause-count
returns-clause-count c = sites-as-many
