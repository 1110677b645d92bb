use Rattle.std.proofs.Common.{◌≡◌, ◌+◌, false, drop}
use Rattle.herm_lexer.specs.Runs.{run_length}
use Rattle.herm_lexer.proofs.run.run_length.Given as goal

-- the run has come this far, and goes on as over all of the bytes
abbrev pub invariant-loop-i : goal.invariant-loop-i
invariant-loop-i l = l.i + run_length l.run l.escaped (drop l.i l.bytes) ≡ run_length l.run false l.bytes
