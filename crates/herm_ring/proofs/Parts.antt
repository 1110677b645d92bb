-- The text of lines that stand one behind the other.
use Rattle.std.proofs.Common.{◌≡◌, ℕ, List, ◌++◌}
use Rattle.std.proofs.lemmas.Grind.{flat_map-append}
use Rattle.herm_ring.specs.Ring.{line, text_of}

pub joined : (xs ys : List (List ℕ)) → text_of (xs ++ ys) ≡ text_of xs ++ text_of ys
joined xs ys = flat_map-append line xs ys
