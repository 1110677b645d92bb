-- The value of digits.
use Rattle.std.proofs.Common.{◌≡◌, ℕ, ◌+◌, ◌-◌, ◌*◌, ◌<◌, ◌≤◌, ◌^◌, List, [], ◌∷◌, length, None, refl, arith}
use Rattle.std.proofs.lemmas.Bool.{le-ltb}
use Rattle.herm_lexer.specs.Reading.{value_after, integer}

-- digits behind a number do not make it smaller
pub le-value_after : (n : ℕ) (bs : List ℕ) → n ≤ value_after n bs
le-value_after n [] = omega arith
le-value_after n (b ∷ bs) = omega (arith, le-value_after (n * 10 + (b - 48)) bs)

pub integer-beyond : (v : ℕ) → 2 ^ 63 ≤ v → integer v ≡ None
integer-beyond v h = rw (le-ltb v (2 ^ 63) h) refl

-- a digit behind a number above a tenth of the limit takes it beyond
pub integer-one_more : (n : ℕ) (bs : List ℕ) → 922337203685477580 < n → 0 < length bs → integer (value_after n bs) ≡ None
integer-one_more n [] h some = absurd (omega arith)
integer-one_more n (b ∷ bs) h some = integer-beyond _ (omega (arith, le-value_after (n * 10 + (b - 48)) bs))
