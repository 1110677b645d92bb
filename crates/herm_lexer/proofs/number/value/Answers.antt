use Rattle.std.proofs.Common.{◌≡◌, ℕ, ◌<◌, length, drop, length-drop, None, sym, subst, arith}
use Rattle.herm_lexer.specs.Reading.{integer}
use Rattle.herm_lexer.proofs.Numbers.{integer-one_more}
use Rattle.herm_lexer.proofs.number.value.Goals as goal

pub returns-then-n-gt-MOST_BEFORE_A_DIGIT : goal.returns-then-n-gt-MOST_BEFORE_A_DIGIT
returns-then-n-gt-MOST_BEFORE_A_DIGIT c =
    let some : 0 < length (drop c.loop-b.b-index c.args.digits.now) = omega (arith, length-drop c.loop-b.b-index c.args.digits.now) in
    let beyond = integer-one_more _ _ c.if-n-gt-MOST_BEFORE_A_DIGIT.true some in
    sym (subst (λ (v : ℕ). integer v ≡ None) c.loop-b.invariant beyond)
