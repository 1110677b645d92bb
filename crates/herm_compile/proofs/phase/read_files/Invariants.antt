use Rattle.std.proofs.Common.{map, drop}
use Rattle.herm_compile.proofs.PhaseLaws.{ReadOn}
use Rattle.herm_compile.proofs.phase.read_files.Given as goal

abbrev pub invariant-files : goal.invariant-files
invariant-files l = ReadOn l.number (map (λ file. file.1.items) l.files) (map (λ file. file.1.items) (drop l.file-index l.files)) l.read
