use Rattle.herm_facts.specs.FactNumbers.{number_of}
use Rattle.herm_facts.proofs.Listed.{no_number}
use Rattle.herm_facts.proofs.fact_numbers.FactNumbers.none.Goals as goal

pub returns : goal.returns
unfolding number_of
returns c f = no_number c.new.result.items c.new.ensures.items f
