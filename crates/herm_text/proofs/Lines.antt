-- A line of pieces that were appended one after another.
use Rattle.std.proofs.Common.{◌≡◌, [], ◌∷◌, ◌++◌, refl, append_assoc}
use Rattle.herm_journal.specs.Entries.{Text}
use Rattle.herm_system.specs.TextLines.{line}

pub line_of_two : (o o₁ o₂ a m b n : Text) → o₁ ≡ o ++ (a ++ m) → o₂ ≡ o₁ ++ (b ++ n) → o₂ ++ 10 ∷ [] ≡ o ++ line (a ++ m ++ b ++ n)
line_of_two o o₁ o₂ a m b n e f = rw (f, e) (simp append_assoc refl)

pub line_of_four : (o o₁ o₂ o₃ o₄ a m b n c p d q : Text) → o₁ ≡ o ++ (a ++ m) → o₂ ≡ o₁ ++ (b ++ n) → o₃ ≡ o₂ ++ (c ++ p) → o₄ ≡ o₃ ++ (d ++ q)
    → o₄ ++ 10 ∷ [] ≡ o ++ line (a ++ m ++ b ++ n ++ c ++ p ++ d ++ q)
line_of_four o o₁ o₂ o₃ o₄ a m b n c p d q e f g h = rw (h, g, f, e) (simp append_assoc refl)

-- two numbers behind their words, and a last word
pub line_of_three : (o o₁ o₂ o₃ a m b n c : Text) → o₁ ≡ o ++ (a ++ m) → o₂ ≡ o₁ ++ (b ++ n) → o₃ ≡ o₂ ++ c → o₃ ++ 10 ∷ [] ≡ o ++ line (a ++ m ++ b ++ n ++ c)
line_of_three o o₁ o₂ o₃ a m b n c e f g = rw (g, f, e) (simp append_assoc refl)

-- a word and what follows it
pub line_of_one : (o o₁ o₂ a m : Text) → o₁ ≡ o ++ a → o₂ ≡ o₁ ++ m → o₂ ++ 10 ∷ [] ≡ o ++ line (a ++ m)
line_of_one o o₁ o₂ a m e f = rw (f, e) (simp append_assoc refl)
