use Rattle.std.proofs.Common.{◌≡◌, ◌++◌, map, drop}
use Rattle.herm_driver.proofs.text.names_of.Given as goal

-- the names so far, joined with those of the rest, are all
abbrev pub invariant-loop-file : goal.invariant-loop-file
invariant-loop-file l = l.names.items ++ map (λ file. file.0) (drop l.file-index l.files) ≡ map (λ file. file.0) l.files
