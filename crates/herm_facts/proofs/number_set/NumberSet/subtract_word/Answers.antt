use Rattle.std.proofs.Common.{◌≡◌, ◌/◌, ◌%◌, ◌&&◌, Bool, true, false, not, refl, arith}
use Rattle.herm_facts.specs.FactSets.{has}
use Rattle.herm_facts.specs.NumberSets.{has_number}
use Rattle.herm_facts.proofs.NumberSets.{place-changed, nothing-there}
use Rattle.herm_facts.proofs.number_set.NumberSet.subtract_word.Goals as goal

and_true : (b : Bool) → (b && not false) ≡ b
and_true true = refl
and_true false = refl

pub returns-then-at-len : goal.returns-then-at-len
unfolding has_number
returns-then-at-len c n =
    place-changed (λ a b. a && not b) c.args.self.now.words.items c.args.word.now.at c.index.result.now c.without.result (has c.args.word.now.set) and_true
    (omega (arith, c.if-at-len.true, c.args.self.now.words.ok)) c.index.ensures c.without.ensures (n / 64) (n % 64)

pub returns-else-at-len : goal.returns-else-at-len
unfolding has_number
returns-else-at-len c n =
    nothing-there (λ a b. a && not b) c.args.self.now.words.items c.args.word.now.at (has c.args.word.now.set (n % 64)) and_true (λ b. refl)
    (omega (arith, c.if-at-len.false, c.args.self.now.words.ok)) (n / 64) (n % 64)
