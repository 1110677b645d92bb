use Rattle.std.proofs.Common.{◌≡◌, drop}
use Rattle.herm_lexer.specs.Reading.{value_after}
use Rattle.herm_lexer.proofs.number.value.Given as goal

-- the digits that are left complete the number
abbrev pub invariant-loop-b : goal.invariant-loop-b
invariant-loop-b l = value_after l.n (drop l.b-index l.digits) ≡ value_after 0 l.digits
