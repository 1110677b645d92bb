use Rattle.std.proofs.Common.{refl}
use Rattle.herm_facts.proofs.Giving.{gives_nothing}
use Rattle.herm_facts.proofs.numbered.nothing_numbered.Goals as goal

pub returns : goal.returns
returns c = gives_nothing _ refl c.new.ensures.items c.new-2.ensures.items
