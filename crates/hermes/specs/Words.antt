-- The words that the program is called with. Language reference, "The command line".
use Rattle.std.specs.Prelude.{List, [], drop, Result, Ok, Err, String}
use Rattle.std.specs.Global.{Global}
use Rattle.std.specs.Vec.Iter.{into_iter_items}
use Rattle.std.specs.declared.vec.IntoIter.{IntoIter}
use Rattle.std.specs.declared.io.Error.{Error}

-- The words behind the program's name, of all that the system has. Where it gave an error in place of words, there are none.
abbrev pub behind_name : Result (IntoIter (String Global) Global) Error → List (String Global)
behind_name (Ok all) = drop 1 (into_iter_items all)
behind_name (Err error) = []
