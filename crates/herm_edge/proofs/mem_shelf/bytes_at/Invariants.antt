use Rattle.std.proofs.Common.{◌≡◌, map, drop}
use Rattle.herm_edge.specs.Shelf.{file_at}
use Rattle.herm_edge.specs.MemShelf.{file_of}
use Rattle.herm_edge.proofs.mem_shelf.bytes_at.Given as goal

abbrev pub invariant-loop-file : goal.invariant-loop-file
invariant-loop-file l = file_at (map file_of (drop l.file-index l.files)) l.name ≡ file_at (map file_of l.files) l.name
