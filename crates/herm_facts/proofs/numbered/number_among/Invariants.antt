use Rattle.std.proofs.Common.{◌≡◌, None, take}
use Rattle.herm_facts.specs.Numbers.{number_among}
use Rattle.herm_facts.proofs.numbered.number_among.Given as goal

abbrev pub invariant-loop-one : goal.invariant-loop-one
invariant-loop-one l = number_among l.component (take l.one-index l.known) ≡ None
