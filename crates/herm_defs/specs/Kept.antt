-- What an index of names keeps.
use Rattle.herm_defs.specs.declared.names.Names.TheInside.{Inside}
use Rattle.herm_defs.specs.Found.{IsIndexOf}

abbrev pub IsIndexed : Inside → Type 0
IsIndexed a = IsIndexOf (λ k. k.items) a.words.items a.firsts.entries
