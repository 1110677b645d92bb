-- Sets of numbers by the words that are not empty.
use Rattle.std.specs.Prelude.{ℕ, ◌/◌, ◌%◌, List, map, Bool, ◌&&◌, nat_eq}
use Rattle.herm_model.specs.Lists.{any_pass}
use Rattle.herm_facts.specs.declared.sparse_set.WordAt.{WordAt}
use Rattle.herm_facts.specs.declared.sparse_set.SparseSet.{SparseSet}
use Rattle.herm_facts.specs.FactSets.{has}

-- the number's place is the word's, and the word has its bit
abbrev pub word_has : ℕ → WordAt → Bool
word_has n w = nat_eq (n / 64) w.at && has w.set (n % 64)

abbrev pub places_of : List WordAt → List ℕ
places_of ws = map (λ w. w.at) ws

-- the number is in the set
unfoldable pub has_sparse : SparseSet → ℕ → Bool
has_sparse s n = any_pass (word_has n) s.words.items
