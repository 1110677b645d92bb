use Rattle.herm_translated.proofs.SettledFacts.{settled-listed_all}
use Rattle.herm_translated.proofs.structure.settled_facts_are_listed.Goals as goal

pub returns : goal.returns
returns c = settled-listed_all
