-- What an index of names keeps.
use Rattle.herm_numbers.specs.declared.index.Names.TheInside.{Inside}
use Rattle.herm_numbers.specs.Found.{IsIndexOf}

abbrev pub IsIndexed : Inside → Type 0
IsIndexed a = IsIndexOf (λ k. k.items) a.words.items a.firsts.entries
