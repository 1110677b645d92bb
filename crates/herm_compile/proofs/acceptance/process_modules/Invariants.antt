use Rattle.std.proofs.Common.{◌≡◌, ◌++◌, drop}
use Rattle.herm_compile.specs.FourthPhase.{process_modules}
use Rattle.herm_compile.proofs.acceptance.process_modules.Given as goal

-- those that were found, joined with those of the rest, are all
abbrev pub invariant-modules : goal.invariant-modules
invariant-modules l = l.found.items ++ process_modules l.number (drop l.number l.modules) ≡ process_modules 0 l.modules
