use Rattle.std.proofs.Common.{subst, List, ℕ, Vec, Global, take_all}
use Rattle.herm_numbers.specs.Found.{Finds}
use Rattle.herm_numbers.proofs.index.firsts_of.Goals as goal

pub returns : goal.returns
returns c = subst (λ (names : List (List ℕ)). Finds (λ (k : Vec ℕ Global). k.items) names c.loop-number.firsts.entries) (take_all c.loop-number.number c.args.words.now c.loop-number-test.false) c.loop-number.invariant
