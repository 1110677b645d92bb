-- What the code's answers stand for.
use Rattle.herm_edge.specs.declared.shelf.Loaded.{Loaded}
use Rattle.herm_edge.specs.declared.shelf.Loaded.TheVariants.{Here, Missing, Failed, Memory}
use Rattle.herm_edge.specs.Shelf.{FileAnswer, given, not_there, not_read, no_memory}

-- what a load answered, as a list of bytes
abbrev pub loaded_view : Loaded → FileAnswer
loaded_view (Here bytes) = given bytes.items
loaded_view Missing = not_there
loaded_view Failed = not_read
loaded_view Memory = no_memory
