use Rattle.std.proofs.Common.{◌≡◌, false, nat_eq, take}
use Rattle.herm_model.specs.Lists.{any_pass}
use Rattle.herm_facts.specs.SparseSets.{places_of}
use Rattle.herm_facts.proofs.sparse_words.index_of.Given as goal

abbrev pub invariant-loop-i : goal.invariant-loop-i
invariant-loop-i l = any_pass (nat_eq l.at) (places_of (take l.i l.words)) ≡ false
